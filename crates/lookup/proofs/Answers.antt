-- From the fault of a lookup, and what the calls over its list of extents answer, to the answers of the two public calls.
-- Assumes nothing.
use Rattle.std.specs.Prelude.{Option, Some, None, Ok, Err}
use Rattle.std.specs.Option.{ok_or}
use Prim.Native.Nat.{ℕ, ◌*◌, ◌≤◌, ◌<◌, min}
use mathlib.Core.Path.{◌≡◌, refl, ap, ◌∙◌}
use mathlib.Core.Bool.{true, false, cond}
use mathlib.Core.Logic.{⊎_elim}
use mathlib.Core.Option.{Option as Found, none, some}
use mathlib.Mathlib.Data.Bool.Basic.{dichotomy}
use mathlib.Core.List.{List, [], ◌∷◌}
use native.Mathlib.Omega.{arith}
use lib.Dec.{leb, ltb}
use lib.ListN.{length}
use borrow.Author.Tests.{lt-ltb, le-ltb, leb-true, leb-false, ne_eqb}
use Rattle.number.specs.Number.{put}
use Rattle.number.proofs.Put.{put_past}
use Rattle.checks.specs.Checks.{check, first_fault}
use Rattle.checks.proofs.Laws.{stopped, continued}
use Rattle.refusal.specs.Refusal.{refusal_of, refusal_with}
use Rattle.refusal.specs.Refusal.{Refusal}
use Rattle.block.specs.Fields.{size_at, rest_at}
use Rattle.texts.specs.Texts.{texts_at}
use Rattle.format.specs.declared.Physical.{Physical}
use Rattle.runs.specs.Positions.{keeper}
use Rattle.runs.specs.inner.Computed.{run_lengths, run_count, range_numbers}
use Rattle.runs.specs.inner.Answers as runs
use Rattle.runs.specs.inner.Answers.{place_of, range_answer}
use Rattle.runs.proofs.Fill.{numbers_long}
use Rattle.lookup.specs.Answers.{PositionAnswer}
use Rattle.lookup.specs.Lookup.{lookup_order, lookup_fault, runs_fault}
use Rattle.lookup.specs.inner.Answers.{place_for, position_answer, runs_answer, runs_room}
use Rattle.lookup.proofs.Deciding.{lookup_numbered}
use Rattle.lookup.specs.declared.Position.TheVariants.{Hole, PastEnd, Stored}

-- what is answered for a place in the list of extents
abbrev pub placed : Option (ℕ × Physical) → PositionAnswer
placed None = Ok Hole
placed (Some (volume, offset)) = Ok (Stored (record { volume = volume; offset = offset }))

placed_for : (list : List ℕ) (position : ℕ) (keeper : Found ℕ) → placed (runs.place_for list position keeper) ≡ place_for list position keeper
placed_for list position none = refl
placed_for list position (some i) = refl

-- how many runs the file at an offset has in a range
abbrev count_of : (volume : List ℕ) (offset from to : ℕ) → ℕ
count_of volume offset from to = run_count (rest_at volume offset) (size_at volume offset) from to

-- what a range query over a list answers, by the test of its room
module _ (list : List ℕ) (size from to room : ℕ) where
  range_fits : leb (5 * run_count list size from to) room ≡ true
      → range_answer list size from to room ≡ Some (run_count list size from to)
  unfolding range_answer
  range_fits q = rw q

  range_small : leb (5 * run_count list size from to) room ≡ false → range_answer list size from to room ≡ None
  unfolding range_answer
  range_small q = rw q

numbers_five : (list : List ℕ) (size from to : ℕ) → length (range_numbers list size from to) ≡ 5 * run_count list size from to
unfolding range_numbers run_count
numbers_five list size from to = numbers_long list from (run_lengths list from (min to size))

-- a fault of the lookup refuses both calls
module _ (volume : List ℕ) (offset : ℕ) (lengths : List ℕ) {fault : ℕ} (told : fault ≡ lookup_fault volume offset lengths) (n : fault ≡ 0 → ⊥) where
  pub position_refused : {refusal : Refusal} → refusal ≡ refusal_with fault (texts_at volume offset) → (position : ℕ)
      → Err refusal ≡ position_answer volume offset lengths position
  unfolding position_answer
  position_refused r position = rw (← told, ne_eqb fault 0 n, r)

  fault_stays : (from to room : ℕ) → fault ≡ runs_fault volume offset lengths from to room
  unfolding lookup_fault runs_fault
  fault_stays from to room = stopped (lookup_order volume offset lengths) _ (lookup_numbered volume offset lengths) told n

  pub runs_refused : {refusal : Refusal} → refusal ≡ refusal_with fault (texts_at volume offset) → (from to room : ℕ)
      → Err refusal ≡ runs_answer volume offset lengths from to room
  unfolding runs_answer
  runs_refused r from to room = rw (← fault_stays from to room, ne_eqb fault 0 n, r)

  pub room_kept : (from to : ℕ) (out : List ℕ) → out ≡ runs_room volume offset lengths from to out
  unfolding runs_room
  room_kept from to out = rw (← fault_stays from to (length out), ne_eqb fault 0 n)

module _ (volume : List ℕ) (offset : ℕ) (lengths : List ℕ) (clear : 0 ≡ lookup_fault volume offset lengths) where
  pub position_past_end : (position : ℕ) → size_at volume offset ≤ position → Ok PastEnd ≡ position_answer volume offset lengths position
  unfolding position_answer
  position_past_end position h = rw (← clear, le-ltb position (size_at volume offset) h)

  pub position_placed : (position : ℕ) {list : List ℕ} (place : Option (ℕ × Physical)) → position < size_at volume offset
      → list ≡ rest_at volume offset → place ≡ place_of list position → placed place ≡ position_answer volume offset lengths position
  unfolding position_answer place_of
  position_placed position place h l e =
      rw (← clear, lt-ltb position (size_at volume offset) h)
      (ap placed (rw l at e) ∙ placed_for (rest_at volume offset) position (keeper (rest_at volume offset) position))

  -- only the room is left to check
  room_decides : (from to room : ℕ) → cond (ltb room (5 * count_of volume offset from to)) 17 0 ≡ runs_fault volume offset lengths from to room
  unfolding lookup_fault runs_fault first_fault
  room_decides from to room =
      continued (lookup_order volume offset lengths) (check (ltb room (5 * count_of volume offset from to)) 17 ∷ [])
      (lookup_numbered volume offset lengths) clear refl refl

  -- the list and the size as they were read
  module _ {list : List ℕ} {size : ℕ} (l : list ≡ rest_at volume offset) (s : size ≡ size_at volume offset) (from to : ℕ) where
    pub runs_numbered : (room : ℕ) (answer : Option ℕ) → answer ≡ range_answer list size from to room
        → ok_or answer (refusal_of 17) ≡ runs_answer volume offset lengths from to room
    unfolding runs_answer refusal_with
    runs_numbered room answer e =
        let k = rw (l, s) at e in
        ⊎_elim
        (λ q.
        ap (λ (n : Option ℕ). ok_or n (refusal_of 17)) (k ∙ range_small (rest_at volume offset) (size_at volume offset) from to room q)
        ∙ rw (← room_decides from to room, lt-ltb room (5 * count_of volume offset from to) (leb-false _ _ q)))
        (λ q.
        ap (λ (n : Option ℕ). ok_or n (refusal_of 17)) (k ∙ range_fits (rest_at volume offset) (size_at volume offset) from to room q)
        ∙ rw (← room_decides from to room, le-ltb room (5 * count_of volume offset from to) (leb-true _ _ q)))
        (dichotomy (leb (5 * count_of volume offset from to) room))

    -- where the room is too small, the numbers are not stored: they would run past its end
    pub room_filled : (out new : List ℕ) → new ≡ put out 0 (range_numbers list size from to) → new ≡ runs_room volume offset lengths from to out
    unfolding runs_room
    room_filled out new e =
        let k = rw (l, s) at e in
        ⊎_elim
        (λ q.
        let h : length out < 5 * count_of volume offset from to = leb-false _ _ q in
        let five = numbers_five (rest_at volume offset) (size_at volume offset) from to in
        rw (← room_decides from to (length out), lt-ltb (length out) (5 * count_of volume offset from to) h)
        (k ∙ put_past out 0 (range_numbers (rest_at volume offset) (size_at volume offset) from to) (omega arith)))
        (λ q. rw (← room_decides from to (length out), le-ltb (length out) (5 * count_of volume offset from to) (leb-true _ _ q)) k)
        (dichotomy (leb (5 * count_of volume offset from to) (length out)))
