-- The runs of a range of positions.
use Rattle.std.specs.Prelude.{ℕ, ◌+◌, ◌≤◌, ◌<◌, ◌≡◌, List, [], ◌∷◌}
use Rattle.std.proofs.Math.Option.{Option, none, some}
use Rattle.extent.specs.Extents.{extent_at}
use Rattle.runs.specs.Positions.{copy_of, keeper}

-- what a position is part of: a hole, or a copy of the block of an extent
pub data Label : Type 0 where
  hole : Label
  stored : (extent copy : ℕ) → Label

abbrev pub label_for : (list : List ℕ) (position : ℕ) → Option ℕ → Label
label_for list position none = hole
label_for list position (some i) = stored i (copy_of (extent_at list i) position)

unfoldable pub label : (list : List ℕ) (position : ℕ) → Label
label list position = label_for list position (keeper list position)

-- The runs from `from` on, by their lengths: stretches that are each all of one label, the longest such, and end to end.
pub data IsRuns (list : List ℕ) : (from to : ℕ) → (lengths : List ℕ) → Type 0 where
  -- nothing is left
  done : {from to : ℕ} → to ≤ from → IsRuns list from to []
  -- a run, and then the others
  run : {from to len : ℕ} {lengths : List ℕ} → 0 < len → from + len ≤ to
      -- every position of the run has its label
      → ((k : ℕ) → k < len → label list (from + k) ≡ label list from)
      -- and the position after it, if the range goes on, has another
      → (from + len < to → label list (from + len) ≡ label list from → ⊥)
      → IsRuns list (from + len) to lengths → IsRuns list from to (len ∷ lengths)
