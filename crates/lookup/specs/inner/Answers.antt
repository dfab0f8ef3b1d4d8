-- Inner page: what a position lookup and a range query answer, computed.
-- Joined to Demand2 of claims/Demand2 by demand_2_holds.
use Rattle.std.specs.Prelude.{ℕ, cond, List, ltb, eqb, length, Ok, Err}
use Rattle.std.proofs.Math.Option.{Option, none, some}
use Rattle.number.specs.Number.{put}
use Rattle.refusal.specs.Refusal.{refusal_with}
use Rattle.extent.specs.Extents.{extent_at}
use Rattle.block.specs.Fields.{size_at, rest_at}
use Rattle.texts.specs.Texts.{texts_at}
use Rattle.runs.specs.inner.Stored.{stored_at}
use Rattle.runs.specs.Positions.{keeper}
use Rattle.runs.specs.inner.Computed.{run_count, range_numbers}
use Rattle.lookup.specs.Answers.{PositionAnswer}
use Rattle.lookup.specs.Answers.{RunsAnswer}
use Rattle.lookup.specs.Lookup.{lookup_fault, runs_fault}
use Rattle.lookup.specs.declared.Position.TheVariants.{Hole, PastEnd, Stored}

-- where a position below the size is stored, or that it is a hole
abbrev pub place_for : (list : List ℕ) (position : ℕ) → Option ℕ → PositionAnswer
place_for list position none = Ok Hole
place_for list position (some i) =
    Ok (Stored (record { volume = (extent_at list i).volume; offset = record { 0 = stored_at (extent_at list i) position } }))

unfoldable pub position_answer : (volume : List ℕ) (offset : ℕ) (lengths : List ℕ) (position : ℕ) → PositionAnswer
position_answer volume offset lengths position =
    cond (eqb (lookup_fault volume offset lengths) 0)
    (cond (ltb position (size_at volume offset)) (place_for (rest_at volume offset) position (keeper (rest_at volume offset) position)) (Ok PastEnd))
    (Err (refusal_with (lookup_fault volume offset lengths) (texts_at volume offset)))

unfoldable pub runs_answer : (volume : List ℕ) (offset : ℕ) (lengths : List ℕ) (from to room : ℕ) → RunsAnswer
runs_answer volume offset lengths from to room =
    cond (eqb (runs_fault volume offset lengths from to room) 0)
    (Ok (run_count (rest_at volume offset) (size_at volume offset) from to))
    (Err (refusal_with (runs_fault volume offset lengths from to room) (texts_at volume offset)))

-- what the lent list then holds: five numbers for each run, and past them what it held before; on refusal all of that
unfoldable pub runs_room : (volume : List ℕ) (offset : ℕ) (lengths : List ℕ) (from to : ℕ) (out : List ℕ) → List ℕ
runs_room volume offset lengths from to out =
    cond (eqb (runs_fault volume offset lengths from to (length out)) 0)
    (put out 0 (range_numbers (rest_at volume offset) (size_at volume offset) from to))
    out
