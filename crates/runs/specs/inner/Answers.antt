-- Inner page: what `locate` and `range` answer, where a position is stored and how many runs a range has. The crate lookup says its
-- own answers by positions and runs.
use Rattle.std.specs.Prelude.{ℕ, ◌*◌, ◌<◌, ◌≡◌, true, cond, Option, None, Some, List, leb}
use Rattle.std.proofs.Math.Option.{Option as Found, none, some}
use Rattle.format.specs.declared.Physical.{Physical}
use Rattle.extent.specs.Extents.{extent_at, extent_count}
use Rattle.runs.specs.inner.Stored.{stored_at}
use Rattle.runs.specs.Positions.{keeps, keeper}
use Rattle.runs.specs.inner.Computed.{run_count}

-- a search answers the number of the extent that keeps a position, if there is one
abbrev pub IsKeeper : (list : List ℕ) (position : ℕ) → Option ℕ → Type 0
IsKeeper list position None = keeper list position ≡ none
IsKeeper list position (Some i) =
    (i < extent_count list) × ((keeps (extent_at list i) position ≡ true) × (keeper list position ≡ some i))

-- a position that no extent keeps is a hole; any other lies in its keeper's volume
abbrev pub place_for : (list : List ℕ) (position : ℕ) → Found ℕ → Option (ℕ × Physical)
place_for list position none = None
place_for list position (some i) = Some ((extent_at list i).volume, record { 0 = stored_at (extent_at list i) position })

unfoldable pub place_of : (list : List ℕ) (position : ℕ) → Option (ℕ × Physical)
place_of list position = place_for list position (keeper list position)

-- the number of runs, or nothing where the room has fewer than five numbers for each
unfoldable pub range_answer : (list : List ℕ) (size from to room : ℕ) → Option ℕ
range_answer list size from to room =
    cond (leb (5 * run_count list size from to) room) (Some (run_count list size from to)) None
