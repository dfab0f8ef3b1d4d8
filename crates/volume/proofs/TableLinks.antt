-- The part that the reader hands out with a table is the bytes of its links, and these keep the rules. Assumes nothing.
use Rattle.std.specs.Prelude.{Some, Ok}
use Prim.Native.Nat.{ℕ}
use mathlib.Core.Path.{◌≡◌}
use mathlib.Core.List.{List}
use Rattle.number.specs.Number.{Bytes}
use Rattle.format.specs.Blocks.{LinksOf}
use Rattle.block.specs.Fields.{bytes_of}
use Rattle.block.specs.Shown.{shown}
use Rattle.block.specs.declared.Block.TheVariants.{Table}
use Rattle.block.specs.declared.TableBlock.{TableBlock}
use Rattle.volume.specs.Reading.{read_answer}
use Rattle.volume.specs.declared.Bookmark.{Bookmark}
use Rattle.volume.specs.declared.Found.{Found}
use Rattle.volume.proofs.OneCall.{read_sound}

pub table_rules : (volume : List ℕ) (mark : Bookmark) (found : Found) (table : TableBlock) → Bytes volume
    → read_answer volume mark ≡ Ok (Some found) → found.block ≡ Table table
    → LinksOf table.count (bytes_of volume table.links)
unfolding shown
table_rules volume mark found table b e t = rw t at (read_sound volume mark found b e).allowed.keeps.rules
