-- Inner page: what the contracts of the functions behind `range` cite: a walk over extents in the order of their kept ranges, run by run.
use Rattle.std.specs.Prelude.{ℕ, ◌+◌, ◌-◌, ◌≤◌, ◌<◌, min, ◌≡◌, Option, Some, None, List, [], ◌∷◌, length, get_or}
use Rattle.format.specs.declared.Extent.{Extent}
use Rattle.format.specs.Extents.{kept_length, footprint}
use Rattle.extent.specs.inner.Ranges.{range_end}
use Rattle.format.specs.declared.Physical.{Physical}
use Rattle.runs.specs.declared.walk.Run.{Run}
use Rattle.runs.specs.inner.Stored.{stored_at}
use Rattle.runs.specs.Positions.{keeper}
use Rattle.runs.specs.inner.Computed.{run_lengths, run_numbers, five_for}

-- the ranges before the place end at a position or before it, and the one at the place does not end before it
pub record Reached (list ids : List ℕ) (position place : ℕ) : Type 0 where
  pub within : place ≤ length ids
  pub passed : (i : ℕ) → i < place → range_end list (get_or ids i 0) ≤ position
  pub ahead : place < length ids → position ≤ range_end list (get_or ids place 0)

-- and the one at the place ends after it: of all ranges, only that one can hold the position
pub record Next (list ids : List ℕ) (position place : ℕ) : Type 0 where
  pub reached : Reached list ids position place
  pub after : place < length ids → position < range_end list (get_or ids place 0)

-- the run from a position that an extent keeps: to the end of the block, of the kept range or of the range asked for
unfoldable pub stored_run : Extent → (from to : ℕ) → Run
stored_run e from to =
    record {
      start = record { 0 = from };
      len = min (min (e.start.0 + footprint e - stored_at e from) (e.logical.0 + kept_length e - from)) (to - from);
      source = Some (e.volume, record { 0 = stored_at e from });
    }

abbrev pub hole_run : (from end : ℕ) → Run
hole_run from end =
    record { start = record { 0 = from }; len = end - from; source = None }

-- the five numbers of a run
abbrev pub numbers_with : (start len : ℕ) → Option (ℕ × Physical) → List ℕ
numbers_with start len None = start ∷ len ∷ 0 ∷ 0 ∷ 0 ∷ []
numbers_with start len (Some source) = start ∷ len ∷ 1 ∷ source.0 ∷ source.1.0 ∷ []

abbrev pub numbers_of : Run → List ℕ
numbers_of run = numbers_with run.start.0 run.len run.source

-- a run is the first of those of a range
pub record FirstRun (list : List ℕ) (from to : ℕ) (run : Run) : Type 0 where
  pub some : 0 < run.len
  pub within : from + run.len ≤ to
  pub first : run_lengths list from to ≡ run.len ∷ run_lengths list (from + run.len) to
  pub shows : numbers_of run ≡ five_for list from run.len (keeper list from)

-- the numbers of all the runs of a range
abbrev pub numbers_from : (list : List ℕ) (from to : ℕ) → List ℕ
numbers_from list from to = run_numbers list from (run_lengths list from to)
