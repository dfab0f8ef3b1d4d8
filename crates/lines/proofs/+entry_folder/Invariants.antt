-- The levels that are left fall from a link to the folder that it opens; in a folder's loop the links that are left fall.
use Prim.Native.Nat.{◌+◌, ◌-◌, ◌*◌, ◌≤◌}
use mathlib.Core.Path.{◌≡◌}
use lib.ListN.{length}
use Rattle.lines.specs.inner.Giving.{sound}
use Rattle.lines.proofs.Gives.{from_place}
use Rattle.lines.proofs.+entry_folder.Given as goal

abbrev pub decreases-entry : goal.decreases-entry
decreases-entry l = 2 * l.left

abbrev pub decreases-folder : goal.decreases-folder
decreases-folder l = 2 * l.left + 1

abbrev pub invariant-folder-loop-place : goal.invariant-folder-loop-place
invariant-folder-loop-place l =
    let room = l.room in
    let parents = l.index.parents.now in
    let children = l.index.children.now in
    record {
      within : l.place ≤ length parents;
      same : from_place room parents children l.left (sound l.initial.out l.lines) l.first
          ≡ from_place room parents children l.left (sound l.out l.given) l.place;
    }

abbrev pub decreases-folder-loop-place : goal.decreases-folder-loop-place
decreases-folder-loop-place l = length l.index.parents.now - l.place
