-- What `link_from` and `link_answer` are where the link is there, and where it is not. Assumes nothing.
use Prim.Native.Nat.{ℕ, ◌+◌, ◌-◌, ◌≤◌, ◌<◌, min}
use mathlib.Core.Path.{◌≡◌, refl, sym, ◌∙◌}
use mathlib.Core.Bool.{Bool, true, false, cond}
use mathlib.Core.List.{List}
use native.Mathlib.Nat.{add-zero}
use native.Mathlib.Omega.{arith}
use lib.Dec.{ltb, leb}
use lib.ListN.{length}
use borrow.Author.Tests.{lt-ltb, le-ltb, le-leb, lt-leb, leb-true}
use Rattle.number.specs.Number.{number_at}
use Rattle.order.proofs.Cases.{cases}
use Rattle.links.specs.Links.{parent_at, name_length_at, link_end, link_start, link_at, found_at, link_from, link_answer}
use Rattle.links.specs.Walked.{shown_link}
use Rattle.links.specs.declared.Link.{Link}
use Rattle.std.specs.Prelude.{Some, None}

module _ (links : List ℕ) (at : ℕ) where
  pub cut_short : length links < link_end links at → None ≡ link_from links at
  unfolding link_from
  cut_short h = rw (lt-leb (link_end links at) (length links) h)

  pub found : (len : ℕ) → len ≡ 18 + name_length_at links at → at + len ≤ length links
      → Some (record { child = number_at links (at + 0) 8; parent = parent_at links at; name = at + 18; len = len - 18 }) ≡ link_from links at
  unfolding link_from
  found len l h =
      let n : len - 18 ≡ name_length_at links at = omega arith in
      let end : link_end links at ≤ length links = omega arith in
      rw (n, add-zero at, le-leb (link_end links at) (length links) end)

module _ (links : List ℕ) (count index : ℕ) where
  pub not_so_many : count ≤ index → None ≡ link_answer links count index
  unfolding link_answer
  not_so_many h = rw (le-ltb index count h)

  -- no link begins where the bytes end
  pub with_number : (at : ℕ) → index < count → at ≡ min (link_start links index) (length links)
      → link_from links at ≡ link_answer links count index
  unfolding link_answer
  with_number at b s =
      rw (lt-ltb index count b)
      (cases (length links) (link_start links index)
      (λ past. sym (cut_short links at (omega arith)) ∙ cut_short links (link_start links index) (omega arith))
      (λ within. let e : at ≡ link_start links index = omega arith in rw e))

-- the link that an answer shows is the one at that place
pub answer_shows_the_link_there : (links : List ℕ) (at : ℕ) (link : Link) → link_from links at ≡ Some link
    → shown_link links link ≡ link_at links at
unfolding link_from
answer_shows_the_link_there links at link = go (leb (link_end links at) (length links))
  where
    go : (there : Bool) → cond there (Some (found_at links at)) None ≡ Some link → shown_link links link ≡ link_at links at
    go true e = let s : found_at links at ≡ link = cc in rw (← s)
    go false e = let z : ◌≡◌ {A = ℕ} 0 1 = cc in absurd (omega arith)

-- it ends within the bytes
pub answer_ends_within : (links : List ℕ) (at : ℕ) (link : Link) → link_from links at ≡ Some link
    → link.name + link.len ≤ length links
unfolding link_from
answer_ends_within links at link = go (leb (link_end links at) (length links)) refl
  where
    go : (there : Bool) → leb (link_end links at) (length links) ≡ there
        → cond there (Some (found_at links at)) None ≡ Some link → link.name + link.len ≤ length links
    go true t e =
        let s : found_at links at ≡ link = cc in
        let h = leb-true (link_end links at) (length links) t in
        rw (← s) (omega arith)
    go false t e = let z : ◌≡◌ {A = ℕ} 0 1 = cc in absurd (omega arith)

-- it is the link with that number
pub answer_shows_the_link : (links : List ℕ) (count index : ℕ) (link : Link) → link_answer links count index ≡ Some link
    → shown_link links link ≡ link_at links (link_start links index)
unfolding link_answer
answer_shows_the_link links count index link = go (ltb index count)
  where
    go : (there : Bool) → cond there (link_from links (link_start links index)) None ≡ Some link
        → shown_link links link ≡ link_at links (link_start links index)
    go true e = answer_shows_the_link_there links (link_start links index) link e
    go false e = let z : ◌≡◌ {A = ℕ} 0 1 = cc in absurd (omega arith)
