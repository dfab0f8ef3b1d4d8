-- Runs agree with positions: a run says of each of its positions what the lookup of that position answers. Assumes nothing.
use Prim.Native.Nat.{ℕ, ◌+◌, ◌*◌, ◌/◌, ◌%◌, ◌≤◌, ◌<◌, min}
use mathlib.Core.Path.{◌≡◌, refl, sym, ap, ◌∙◌}
use mathlib.Core.Bool.{Bool, true, false, cond}
use mathlib.Core.Option.{none, some}
use mathlib.Core.List.{List, [], ◌∷◌}
use native.Mathlib.Nat.{div-add-mod'}
use native.Mathlib.Omega.{arith}
use lib.Dec.{eqb}
use Rattle.checks.proofs.First.{option_cases}
use Rattle.format.specs.declared.Extent.{Extent}
use Rattle.extent.specs.Extents.{extent_at}
use Rattle.std.specs.Prelude.{Some, None}
use Rattle.runs.specs.Positions.{raw_byte, copy_of, keeper}
use Rattle.runs.specs.inner.Stored.{stored_at}
use Rattle.runs.specs.Runs.{label, IsRuns, done, run}
use Rattle.runs.specs.inner.Computed.{run_numbers, range_numbers}
use Rattle.runs.specs.inner.Answers.{place_of}
use Rattle.runs.proofs.Stored.{keeps_position}
use Rattle.runs.proofs.Keeper.{keeper_some, place_hole, place_is}
use Rattle.runs.proofs.Labels.{label_none, label_some, none_label, some_label}
use Rattle.runs.proofs.Meaning.{runs_are_runs}

-- the numbers of runs that lie end to end from `from` to `to`, each of which says of its positions what a lookup answers
pub data Agrees (list : List ℕ) : (from to : ℕ) (numbers : List ℕ) → Type 0 where
  -- nothing is left
  over : {from to : ℕ} → to ≤ from → Agrees list from to []
  -- a hole, kind 0 and two zeros, and then the others
  hole_first : {from to len : ℕ} {numbers : List ℕ} → 0 < len → from + len ≤ to
      → ((k : ℕ) → k < len → place_of list (from + k) ≡ None)
      → Agrees list (from + len) to numbers → Agrees list from to (from ∷ len ∷ 0 ∷ 0 ∷ 0 ∷ numbers)
  -- stored bytes, kind 1, the volume and offsets in a row, and then the others
  stored_first : {from to len volume offset : ℕ} {numbers : List ℕ} → 0 < len → from + len ≤ to
      → ((k : ℕ) → k < len → place_of list (from + k) ≡ Some (volume, record { 0 = offset + k }))
      → Agrees list (from + len) to numbers → Agrees list from to (from ∷ len ∷ 1 ∷ volume ∷ offset ∷ numbers)

-- within one copy of a block, offsets go up with positions
module _ (e : Extent) (position k : ℕ) (low : e.logical.0 ≤ position) where
  raw_on : raw_byte e (position + k) ≡ raw_byte e position + k
  raw_on = omega arith

  row : (b : Bool) (r s : ℕ) → cond b ((r + k) / s) 0 ≡ cond b (r / s) 0
      → cond b ((r + k) % s) (r + k) ≡ cond b (r % s) r + k
  row true r s h = omega (arith, ap (λ (q : ℕ). q * s) h, div-add-mod' (r + k) s, div-add-mod' r s)
  row false r s h = refl

  offsets_rise : copy_of e (position + k) ≡ copy_of e position → stored_at e (position + k) ≡ stored_at e position + k
  unfolding copy_of stored_at
  offsets_rise h =
      let b = eqb e.multiplicity 82 in
      let w = row b (raw_byte e position) e.size (rw raw_on at h) in
      rw raw_on (omega arith)

module _ (list : List ℕ) where
  -- the positions of a run, by the label of its first
  module _ (from len : ℕ) (all : (k : ℕ) → k < len → label list (from + k) ≡ label list from) where
    holes : keeper list from ≡ none → (k : ℕ) → k < len → place_of list (from + k) ≡ None
    holes h k l = place_hole list (from + k) (none_label list (from + k) (all k l ∙ label_none list from h))

    row_of : (i : ℕ) → keeper list from ≡ some i → (k : ℕ) → k < len
        → place_of list (from + k) ≡ Some ((extent_at list i).volume, record { 0 = stored_at (extent_at list i) from + k })
    row_of i h k l =
        let e = extent_at list i in
        let w = some_label list (from + k) i _ (all k l ∙ label_some list from i h) in
        let low = (keeps_position e from (keeper_some list i from h).1).0 in
        sym (place_is list i (from + k) _ _ w.0 refl (sym (offsets_rise e from k low w.1)))

  agrees : {from to : ℕ} {lengths : List ℕ} → IsRuns list from to lengths
      → Agrees list from to (run_numbers list from lengths)
  unfolding run_numbers
  agrees (done l) = over l
  agrees {from} {to} (run {len = len} {lengths = lengths} pos within all stop rest) =
      option_cases (keeper list from)
      (λ h. rw h (hole_first pos within (holes from len all h) (agrees rest)))
      (λ i h. rw h (stored_first pos within (row_of from len all i h) (agrees rest)))

  pub runs_agree_with_positions : (size from to : ℕ) → Agrees list from (min to size) (range_numbers list size from to)
  unfolding range_numbers
  runs_agree_with_positions size from to = agrees (runs_are_runs list from (min to size))
