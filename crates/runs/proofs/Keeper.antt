-- Which extent keeps a position: at most one where kept ranges do not overlap, and `keeper` is its number. Assumes nothing.
use Prim.Native.Nat.{ℕ, ◌≤◌, ◌<◌}
use mathlib.Core.Path.{◌≡◌, sym, ap, ◌∙◌}
use mathlib.Core.Bool.{true, false}
use mathlib.Core.Option.{none, some}
use mathlib.Core.List.{List}
use native.Mathlib.Omega.{arith}
use lib.ListN.{length}
use Rattle.std.specs.List.{range_with_len, AllWithin, HoldsAt}
use Rattle.std.proofs.lemmas.List.FromFn.{length-range_with_len}
use Rattle.extent.proofs.Scans.{at_index}
use Rattle.checks.proofs.Scan.{never, pair_false}
use Rattle.checks.proofs.First.{option_cases, first_some, first_none, first_nowhere, first_hit}
use Rattle.format.specs.declared.Physical.{Physical}
use Rattle.extent.specs.Extents.{extent_at, extent_count}
use Rattle.extent.specs.inner.Tests.{share_range, some_overlap}
use Rattle.extent.specs.inner.Ranges.{range_start, range_end}
use Rattle.extent.proofs.Share.{position_share}
use Rattle.extent.proofs.Ranges.{range_kept}
use Rattle.order.proofs.Cases.{cases}
use Rattle.std.specs.Prelude.{Option, Some, None, MatchOption}
use Rattle.runs.specs.Positions.{keeps, keeper}
use Rattle.runs.specs.inner.Stored.{stored_at}
use Rattle.runs.specs.inner.Answers.{IsKeeper, place_of}
use Rattle.runs.proofs.Stored.{keeps_position, position_keeps, not_kept}

-- an extent keeps the positions of its range
module _ (list : List ℕ) (i position : ℕ) where
  pub in_range_lem : range_start list i ≤ position → position < range_end list i → keeps (extent_at list i) position ≡ true
  in_range_lem l m = position_keeps (extent_at list i) position ((range_kept list i position).1 (l, m))

  pub out_of_range : (range_start list i ≤ position → position < range_end list i → ⊥)
      → keeps (extent_at list i) position ≡ false
  out_of_range h =
      not_kept (extent_at list i) position (λ k. let r = (range_kept list i position).0 k in h r.0 r.1)

module _ (list : List ℕ) where
  -- what `keeper` says either way
  pub keeper_some : (i position : ℕ) → keeper list position ≡ some i
      → (i < extent_count list) × (keeps (extent_at list i) position ≡ true)
  unfolding keeper
  keeper_some i position h = first_some (λ i. keeps (extent_at list i) position) _ i h

  keeper_none : (position : ℕ) → keeper list position ≡ none
      → (i : ℕ) → i < extent_count list → keeps (extent_at list i) position ≡ false
  unfolding keeper
  keeper_none position h = first_none (λ i. keeps (extent_at list i) position) _ h

  pub none_keeper : (position : ℕ) → ((i : ℕ) → i < extent_count list → keeps (extent_at list i) position ≡ false)
      → keeper list position ≡ none
  unfolding keeper
  none_keeper position h = first_nowhere (λ i. keeps (extent_at list i) position) _ h

  -- what a search for the first extent that keeps a position says either way
  module _ (position : ℕ) where
    abbrev numbers : List ℕ
    numbers = range_with_len 0 (extent_count list)

    abbrev IsOther : ℕ → Type 0
    IsOther i = keeps (extent_at list i) position ≡ false

    other_at : (n : ℕ) → n ≤ extent_count list → AllWithin IsOther numbers 0 n → (i : ℕ) → i < n → IsOther i
    other_at n h others i l = rw (at_index (extent_count list) i 0 (omega arith)) at (others i 0 (omega arith) l)

    search_none : AllWithin IsOther numbers 0 (length numbers) → keeper list position ≡ none
    search_none others =
        let len = length-range_with_len 0 (extent_count list) in
        none_keeper position (other_at (extent_count list) (omega arith) (rw len at others))

    search_some : (found : ℕ) → keeps (extent_at list found) position ≡ true
        → (i : ℕ) × (i < length numbers) × HoldsAt (λ y. y ≡ found) numbers i × AllWithin IsOther numbers 0 i
        → (found < extent_count list) × (keeper list position ≡ some found)
    unfolding keeper
    search_some found kept (i, l, here, others) =
        let below : i < extent_count list = omega (arith, length-range_with_len 0 (extent_count list)) in
        let same : i ≡ found = sym (at_index (extent_count list) i 0 below) ∙ here 0 in
        let before = first_nowhere (λ j. keeps (extent_at list j) position) i (other_at i (omega arith) others) in
        let first = first_hit (λ j. keeps (extent_at list j) position) (extent_count list) i below before (rw same kept) in
        (omega arith, first ∙ ap some same)

    pub search_is : (r : Option ℕ)
        → MatchOption r (AllWithin IsOther numbers 0 (length numbers)) (λ found.
        (keeps (extent_at list found) position ≡ true)
        × (i : ℕ) × (i < length numbers) × HoldsAt (λ y. y ≡ found) numbers i × AllWithin IsOther numbers 0 i)
        → IsKeeper list position r
    search_is None others = search_none others
    search_is (Some found) (kept, i, l, here, others) =
        let s = search_some found kept (i, l, here, others) in (s.0, (kept, s.1))

  module _ (apart : some_overlap list ≡ false) where
    not_two : (i j position : ℕ) → i < j → j < extent_count list
        → keeps (extent_at list i) position ≡ true → keeps (extent_at list j) position ≡ true → ⊥
    unfolding some_overlap
    not_two i j position l m k h =
        let d = extent_at list i in
        let e = extent_at list j in
        never
        (position_share d e position (keeps_position d position k) (keeps_position e position h))
        (pair_false (λ i j. share_range (extent_at list i) (extent_at list j)) (extent_count list) apart i j l m)

    -- at most one extent keeps a position
    pub one_keeper : (i j position : ℕ) → i < extent_count list → j < extent_count list
        → keeps (extent_at list i) position ≡ true → keeps (extent_at list j) position ≡ true → i ≡ j
    one_keeper i j position l m k h =
        cases i j
        (λ b. absurd (not_two i j position b m k h))
        (λ b. cases j i (λ a. absurd (not_two j i position a l h k)) (λ a. omega arith))

    -- and it is the one that `keeper` says
    pub some_keeper : (i position : ℕ) → i < extent_count list → keeps (extent_at list i) position ≡ true
        → keeper list position ≡ some i
    some_keeper i position l k =
        option_cases (keeper list position)
        (λ e. never k (keeper_none position e i l))
        (λ j e. let f = keeper_some j position e in e ∙ ap some (one_keeper j i position f.0 l f.1 k))

  -- the answer of a lookup, by the keeper
  pub place_hole : (position : ℕ) → keeper list position ≡ none → place_of list position ≡ None
  unfolding place_of
  place_hole position h = simp h

  place_stored : (i position : ℕ) → keeper list position ≡ some i
      → place_of list position ≡ Some ((extent_at list i).volume, record { 0 = stored_at (extent_at list i) position })
  unfolding place_of
  place_stored i position h = simp h

  pub place_is : (i position volume : ℕ) (offset : Physical) → keeper list position ≡ some i
      → volume ≡ (extent_at list i).volume → offset.0 ≡ stored_at (extent_at list i) position
      → Some (volume, offset) ≡ place_of list position
  place_is i position volume offset h v o =
      ap (λ (x : ℕ). Some (x, offset)) v
      ∙ ap (λ (x : ℕ). Some ((extent_at list i).volume, record { 0 = x })) o
      ∙ sym (place_stored i position h)
