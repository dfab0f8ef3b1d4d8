-- Where links begin: each after the one before, so that the starts rise. Assumes nothing.
use Prim.Native.Nat.{ℕ, zero, suc, ◌+◌, ◌*◌, ◌-◌, ◌≤◌, ◌<◌, min}
use mathlib.Core.Path.{◌≡◌, refl}
use mathlib.Core.List.{List}
use mathlib.Core.Logic.{⊎_elim}
use native.Mathlib.Nat.{eq-or-lt_of_le, le_of_suc-le-suc}
use native.Mathlib.Numerals.{add-one}
use native.Mathlib.Omega.{arith}
use lib.ListN.{length, take, drop, length-drop}
use lib.Seq.{take_all, drop-drop}
use Rattle.number.specs.Number.{Bytes, number_at}
use Rattle.number.proofs.Digits.{number_at-lt}
use Rattle.order.proofs.Cases.{cases}
use Rattle.links.specs.Links.{name_length_at, link_start}
use Rattle.links.specs.inner.Sorting.{Fits}

module _ (links : List ℕ) where
  pub start_zero : 0 ≡ link_start links 0
  unfolding link_start
  start_zero = refl

  pub start_suc : (i : ℕ) → link_start links i + (18 + name_length_at links (link_start links i)) ≡ link_start links (suc i)
  unfolding link_start
  start_suc i = refl

  pub start_next : (i at len : ℕ) → at ≡ link_start links i → len ≡ 18 + name_length_at links at → at + len ≡ link_start links (i + 1)
  start_next i at len e l = rw (add-one i, ← start_suc i, l, e)

  pub start_rises : (i j : ℕ) → i ≤ j → link_start links i ≤ link_start links j
  unfolding link_start
  start_rises i zero h = let e : i ≡ 0 = omega arith in rw e (omega arith)
  start_rises i (suc j) h =
      ⊎_elim (λ e. rw e (omega arith)) (λ l. omega (arith, start_rises i j (le_of_suc-le-suc l))) (eq-or-lt_of_le h)

  pub start_bound : Bytes links → (i : ℕ) → link_start links i ≤ 65553 * i
  unfolding link_start
  start_bound bytes zero = omega arith
  start_bound bytes (suc i) = omega (arith, start_bound bytes i, number_at-lt links (link_start links i + 16) 2 bytes)

  -- the bytes from a place on show the numbers that stand there
  pub number_in_rest : (at k width : ℕ) → number_at (take (length links - at) (drop at links)) k width ≡ number_at links (at + k) width
  number_in_rest at k width = rw (take_all (length links - at) (drop at links) (simp length-drop (omega arith)), drop-drop)

  -- a link that begins where the bytes end, or before, and is longer than what is left ends past them
  pub start_past : (i at len : ℕ) → at ≡ min (link_start links i) (length links) → len ≡ 18 + name_length_at links at
      → length links - at < len → length links < link_start links (i + 1)
  start_past i at len s l h =
      cases (length links) (link_start links i)
      (λ past. omega (arith, start_rises i (i + 1) (omega arith)))
      (λ within. let e : at ≡ link_start links i = omega arith in omega (arith, start_next i at len e l))

  -- where the last of the links ends within the bytes, each does
  pub link_within : (i count at : ℕ) → i < count → link_start links count ≤ length links → at ≡ link_start links i
      → Fits links at
  link_within i count at l w e =
      omega (arith, start_next i at (18 + name_length_at links at) e refl, start_rises (i + 1) count (omega arith))
