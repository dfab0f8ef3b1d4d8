-- The links begin behind the ID and the count, and reach to the end of the bytes or less.
use Prim.Native.Nat.{ℕ, ◌+◌, ◌-◌}
use mathlib.Core.Path.{◌≡◌}
use mathlib.Core.List.{List}
use native.Mathlib.Omega.{arith}
use lib.ListN.{length, take, drop, length-drop}
use lib.Seq.{take_all}
use Rattle.format.specs.Blocks.{link_table}
use Rattle.links.specs.Links.{links_from}
use Rattle.block.specs.Fields.{field_at}
use Rattle.folders.specs.Lines.{tree_lines}
use Rattle.tree.specs.Listing.{lines_at}
use Rattle.tree.proofs.table.list_table.Goals as goal

lines-in : (volume : List ℕ) (offset count root : ℕ) → count ≡ field_at link_table "link count" volume offset
    → tree_lines (links_from (take (length volume - (offset + 9)) (drop (offset + 9) volume)) 0 count) root ≡ lines_at volume offset root
lines-in volume offset count root e =
    rw (take_all (length volume - (offset + 9)) (drop (offset + 9) volume) (simp length-drop (omega arith)), e)

pub returns-then-count-lt-FEW : goal.returns-then-count-lt-FEW
returns-then-count-lt-FEW c = let a = c.args in rw (← lines-in a.volume.now a.offset _ a.root c.read_u64-count.ensures) c.list.ensures

pub returns : goal.returns
returns c = let a = c.args in rw (← lines-in a.volume.now a.offset _ a.root c.read_u64-count.ensures) c.list-2.ensures
