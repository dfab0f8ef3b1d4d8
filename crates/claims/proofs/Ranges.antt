-- The runs of a range query are those of the file's list of extents: they agree with the answers for positions, they are the longest
-- stretches, and the room decides between them and 17. Assumes nothing.
use Rattle.std.specs.Prelude.{Option, Some, None, Ok, Err}
use Prim.Native.Nat.{ℕ, ◌+◌, ◌*◌, ◌≤◌, ◌<◌, min}
use mathlib.Core.Path.{◌≡◌, refl, sym, ◌∙◌}
use mathlib.Core.Bool.{cond}
use mathlib.Core.Option.{Option as Found, none, some}
use mathlib.Core.List.{List, [], ◌∷◌, ◌++◌}
use native.Mathlib.Nat.{zero-add}
use native.Mathlib.Omega.{arith}
use lib.Dec.{ltb}
use lib.ListN.{length, drop}
use borrow.Author.Tests.{lt-ltb, le-ltb}
use Rattle.number.proofs.Put.{put_fits}
use Rattle.checks.specs.Checks.{check, first_fault}
use Rattle.checks.proofs.Laws.{first_fault-append}
use Rattle.checks.proofs.First.{option_cases}
use Rattle.refusal.specs.Refusal.{refusal_of, refusal_with}
use Rattle.format.specs.declared.Physical.{Physical}
use Rattle.block.specs.Fields.{size_at, rest_at}
use Rattle.runs.specs.Positions.{keeper}
use Rattle.runs.specs.inner.Computed.{run_lengths, run_numbers, run_count, range_numbers}
use Rattle.runs.specs.inner.Answers as runs
use Rattle.runs.proofs.Meaning.{runs_are_runs, runs_only}
use Rattle.runs.proofs.Agree.{Agrees, over, hole_first, stored_first, runs_agree_with_positions}
use Rattle.runs.proofs.Fill.{numbers_long}
use Rattle.lookup.proofs.Deciding.{lookup_numbered}
use Rattle.lookup.specs.inner.Answers.{place_for, position_answer, runs_answer, runs_room}
use Rattle.lookup.specs.Lookup.{lookup_order, lookup_fault, runs_fault}
use Rattle.lookup.specs.Answers.{PositionAnswer}
use Rattle.lookup.specs.declared.Position.TheVariants.{Hole, Stored}
use Rattle.claims.specs.Library.{ours}
use Rattle.claims.specs.Demand2 as claim
use Rattle.claims.specs.Demand2.{a_hole, a_byte, RunsSay, run, RangeClaim}

-- a place over a list of extents, as the answer of a lookup
abbrev as_answer : Option (ℕ × Physical) → PositionAnswer
as_answer None = Ok Hole
as_answer (Some (number, start)) = Ok (Stored (record { volume = number; offset = start }))

same_place : (list : List ℕ) (position : ℕ) (o : Found ℕ) → place_for list position o ≡ as_answer (runs.place_for list position o)
same_place list position none = refl
same_place list position (some i) = refl

-- an empty list is not one that has an element
never_empty : {A : Type 0} {n : ℕ} {ns : List ℕ} → [] ≡ n ∷ ns → A
never_empty e = let z : ◌≡◌ {A = ℕ} 0 1 = cc in absurd (omega arith)

-- the first of five numbers' run, and those after it
first_of : (list : List ℕ) (from n len kind number start : ℕ) (runs numbers : List ℕ)
    → from ∷ len ∷ kind ∷ number ∷ start ∷ numbers ≡ run_numbers list from (n ∷ runs)
    → (len ≡ n) × (numbers ≡ run_numbers list (from + len) runs)
unfolding run_numbers
first_of list from n len kind number start runs numbers e =
    option_cases (keeper list from)
    (λ h. let f = rw h at e in let l : len ≡ n = cc in (l, rw l (cc)))
    (λ i h. let f = rw h at e in let l : len ≡ n = cc in (l, rw l (cc)))

module _ (volume : List ℕ) (offset : ℕ) (lengths : List ℕ) (clear : lookup_fault volume offset lengths ≡ 0) where
  abbrev list : List ℕ
  list = rest_at volume offset

  -- the answer for a position below the size, by its keeper
  pub answer_below : (position : ℕ) → position < size_at volume offset
      → position_answer volume offset lengths position ≡ place_for list position (keeper list position)
  unfolding position_answer
  answer_below position h = rw (clear, lt-ltb position (size_at volume offset) h)

  answer_is : (position : ℕ) → position < size_at volume offset
      → position_answer volume offset lengths position ≡ as_answer (runs.place_of list position)
  unfolding runs.place_of
  answer_is position h = answer_below position h ∙ same_place list position (keeper list position)

  -- runs that agree with places agree with the answers
  say : {from to : ℕ} {numbers : List ℕ} → to ≤ size_at volume offset → Agrees list from to numbers
      → (runs : List ℕ) → numbers ≡ run_numbers list from runs → RunsSay ours volume offset lengths from to runs numbers
  unfolding run_numbers
  say small (over l) [] e = claim.over l
  say {from} small (over l) (n ∷ runs) e =
      option_cases (keeper list from) (λ h. never_empty (rw h at e)) (λ i h. never_empty (rw h at e))
  say small (hole_first pos within all rest) [] e = never_empty (sym e)
  say {from} {to} small (hole_first {len = len} {numbers = numbers} pos within all rest) (n ∷ runs) e =
      let f = first_of list from n len 0 0 0 runs numbers e in
      rw (← f.0)
      (run {kind = 0} {number = 0} {start = 0} pos within
      (λ k m. rw (answer_is (from + k) (omega arith), all k m) a_hole)
      (say small rest runs f.1))
  say small (stored_first pos within all rest) [] e = never_empty (sym e)
  say {from} {to} small (stored_first {len = len} {volume = number} {offset = start} {numbers = numbers} pos within all rest) (n ∷ runs) e =
      let f = first_of list from n len 1 number start runs numbers e in
      rw (← f.0)
      (run {kind = 1} {number = number} {start = start} pos within
      (λ k m. rw (answer_is (from + k) (omega arith), all k m) a_byte)
      (say small rest runs f.1))

  module _ (from to : ℕ) where
    abbrev end : ℕ
    end = min to (size_at volume offset)

    abbrev lens : List ℕ
    lens = run_lengths list from end

    -- after the checks of a lookup, only the room is left to be checked
    fault_is : (room : ℕ) → runs_fault volume offset lengths from to room ≡ cond (ltb room (5 * length lens)) 17 0
    unfolding runs_fault lookup_fault first_fault run_count
    fault_is room =
        first_fault-append (lookup_order volume offset lengths) (check (ltb room (5 * length lens)) 17 ∷ [])
        (lookup_numbered volume offset lengths) ∙ rw clear

    pub room_enough : (out : List ℕ) → 5 * length lens ≤ length out
        → (runs_answer volume offset lengths from to (length out) ≡ Ok (length lens))
        × (runs_room volume offset lengths from to out ≡ range_numbers list (size_at volume offset) from to ++ drop (5 * length lens) out)
    unfolding runs_answer runs_room run_count range_numbers
    room_enough out h =
        let f : runs_fault volume offset lengths from to (length out) ≡ 0
        = fault_is (length out) ∙ rw (le-ltb (length out) (5 * length lens) h) in
        let n : length (run_numbers list from lens) ≡ 5 * length lens = numbers_long list from lens in
        (rw f, rw f (put_fits out 0 (run_numbers list from lens) (omega arith) ∙ rw (n, zero-add)))

    pub room_too_small : (out : List ℕ) → length out < 5 * length lens
        → (runs_answer volume offset lengths from to (length out) ≡ Err (refusal_of 17))
        × (runs_room volume offset lengths from to out ≡ out)
    unfolding runs_answer runs_room refusal_with
    room_too_small out h =
        let f : runs_fault volume offset lengths from to (length out) ≡ 17
        = fault_is (length out) ∙ rw (lt-ltb (length out) (5 * length lens) h) in
        (rw f, rw f)

    pub range_claim : RangeClaim ours volume offset lengths from to
    unfolding range_numbers
    range_claim =
        record {
          runs = lens;
          numbers = range_numbers list (size_at volume offset) from to;
          runs_agree_with_positions = say (omega arith) (runs_agree_with_positions list (size_at volume offset) from to) lens refl;
          longest = runs_are_runs list from end;
          only = λ others o. runs_only list o;
          room_enough = room_enough;
          room_too_small = room_too_small;
        }
