-- Links are the same whether the bytes go on after the last of them or not. Assumes nothing.
use Prim.Native.Nat.{ℕ, zero, suc, ◌+◌, ◌≤◌}
use mathlib.Core.Path.{◌≡◌, refl, sym, ap, ap₂, ◌∙◌}
use mathlib.Core.List.{List, ◌∷◌}
use native.Mathlib.Nat.{zero-add}
use native.Mathlib.Omega.{arith}
use lib.ListN.{length, take, drop, take-append-drop}
use lib.Seq.{take_all, length-take-le}
use Rattle.number.specs.Number.{le, part}
use Rattle.number.proofs.Parts.{part-append}
use Rattle.order.proofs.Cases.{cases}
use Rattle.links.specs.Links.{name_length_at, link_start, link_at, links_from}
use Rattle.links.proofs.Starts.{start_suc, start_rises}

module _ (links : List ℕ) (n : ℕ) (within : n ≤ length links) where
  part_cut : (offset len : ℕ) → offset + len ≤ n → part (take n links) offset len ≡ part links offset len
  part_cut offset len h =
      let l : length (take n links) ≡ n = length-take-le n links within in
      sym (part-append (take n links) (drop n links) offset len (omega arith))
      ∙ ap (λ bytes. part bytes offset len) (take-append-drop n links)

  name_length_cut : (at : ℕ) → at + 18 ≤ n → name_length_at (take n links) at ≡ name_length_at links at
  name_length_cut at h = ap le (part_cut (at + 16) 2 (omega arith))

  link_cut : (at : ℕ) → at + (18 + name_length_at links at) ≤ n → link_at (take n links) at ≡ link_at links at
  link_cut at h =
      rw (
        name_length_cut at (omega arith),
        part_cut (at + 0) 8 (omega arith),
        part_cut (at + 8) 8 (omega arith),
        part_cut (at + 18) (name_length_at links at) (omega arith),
      )

  start_cut : (i : ℕ) → link_start links i ≤ n → link_start (take n links) i ≡ link_start links i
  unfolding link_start
  start_cut zero h = refl
  start_cut (suc i) h =
      let e = start_cut i (omega arith) in
      rw (e, name_length_cut (link_start links i) (omega arith))

  links_cut : (i k : ℕ) → link_start links (i + k) ≤ n → links_from (take n links) i k ≡ links_from links i k
  unfolding links_from
  links_cut i zero h = refl
  links_cut i (suc k) h =
      let e : i + suc k ≡ suc i + k = omega arith in
      let at = link_start links i in
      let ends : at + (18 + name_length_at links at) ≤ n
      = omega (arith, start_suc links i, start_rises links (suc i) (i + suc k) (omega arith)) in
      ap₂ ◌∷◌ (ap (link_at (take n links)) (start_cut i (omega arith)) ∙ link_cut at ends)
      (links_cut (suc i) k (rw e at h))

-- the links of a table, in its own bytes
pub links_in_part : (links : List ℕ) (count : ℕ) → links_from (take (link_start links count) links) 0 count ≡ links_from links 0 count
links_in_part links count =
    cases (length links) (link_start links count)
    (λ past. ap (λ bytes. links_from bytes 0 count) (take_all (link_start links count) links (omega arith)))
    (λ within. links_cut links (link_start links count) within 0 count (rw (zero-add count) (omega arith)))
