-- Inner page: the runs of a range, computed: neighbours of one label are joined.
-- Joined to IsRuns of runs/Runs by runs_are_runs, runs_only.
-- Joined to RangeClaim of claims/Demand2 by demand_2_holds.
use Rattle.std.specs.Prelude.{ℕ, zero, suc, ◌+◌, ◌-◌, min, Bool, true, false, ◌&&◌, List, [], ◌∷◌, ◌++◌, eqb, length}
use Rattle.std.proofs.Math.Option.{Option, none, some}
use Rattle.extent.specs.Extents.{extent_at}
use Rattle.runs.specs.inner.Stored.{stored_at}
use Rattle.runs.specs.Positions.{keeper}
use Rattle.runs.specs.Runs.{Label, hole, stored, label}

-- whether two positions have one label
abbrev pub same_label : Label → Label → Bool
same_label hole hole = true
same_label hole (stored i a) = false
same_label (stored i a) hole = false
same_label (stored i a) (stored j b) = eqb i j && eqb a b

-- a position before runs of these lengths: it joins the first of them, or is a run by itself
unfoldable pub joins : Bool → List ℕ → List ℕ
joins true [] = 1 ∷ []
joins true (len ∷ lengths) = suc len ∷ lengths
joins false lengths = 1 ∷ lengths

-- the lengths of the runs of so many positions
unfoldable pub runs_of : (list : List ℕ) (from count : ℕ) → List ℕ
runs_of list from zero = []
runs_of list from (suc count) =
    joins (same_label (label list from) (label list (suc from))) (runs_of list (suc from) count)

-- the lengths of the runs from `from` to below `to`
unfoldable pub run_lengths : (list : List ℕ) (from to : ℕ) → List ℕ
run_lengths list from to = runs_of list from (to - from)

-- the five numbers of a run: logical start, length, kind (0 hole, 1 stored), volume, offset; a hole has 0, 0 for the last two
abbrev pub five_for : (list : List ℕ) (from len : ℕ) → Option ℕ → List ℕ
five_for list from len none = from ∷ len ∷ 0 ∷ 0 ∷ 0 ∷ []
five_for list from len (some i) = from ∷ len ∷ 1 ∷ (extent_at list i).volume ∷ stored_at (extent_at list i) from ∷ []

-- the numbers of the runs of these lengths, in rising order
unfoldable pub run_numbers : (list : List ℕ) (from : ℕ) (lengths : List ℕ) → List ℕ
run_numbers list from [] = []
run_numbers list from (len ∷ lengths) = five_for list from len (keeper list from) ++ run_numbers list (from + len) lengths

-- how many runs a range clipped to the size has, and their numbers
unfoldable pub run_count : (list : List ℕ) (size from to : ℕ) → ℕ
run_count list size from to = length (run_lengths list from (min to size))

unfoldable pub range_numbers : (list : List ℕ) (size from to : ℕ) → List ℕ
range_numbers list size from to = run_numbers list from (run_lengths list from (min to size))
