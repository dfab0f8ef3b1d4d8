-- Reading at any bookmark, also at one that a caller has made up: what is handed out is the block that stands there, and it is handed
-- out wherever the rules allow it there. Which of several faults is given otherwise, the order of checks says (`read_order`).
--
-- It is a claim about a library, by its calls. Proved of ours in proofs/AnyBookmark.antt.
use Rattle.std.specs.Prelude.{ℕ, suc, ◌+◌, ◌≤◌, ◌<◌, ◌≡◌, true, false, ◌↔◌, List, [], ◌∷◌, length, Some, None, Ok}
use Rattle.number.specs.Number.{Bytes, part}
use Rattle.format.specs.Blocks.{Block, kind_of, image, BlockRules}
use Rattle.format.specs.Readings.{IsTable, time_of, last_after, TimeFollows}
use Rattle.block.specs.Fields.{fixed_length}
use Rattle.block.specs.Shown.{shown, parts}
use Rattle.block.specs.declared.Part.{Part}
use Rattle.volume.specs.declared.Bookmark.{Bookmark}
use Rattle.volume.specs.declared.Found.{Found}
use Rattle.claims.specs.Library.{Library}

-- The bookmark is a place for the block.
pub record InPlace (mark : Bookmark) (block : Block) : Type 0 where
  pub after_the_header : 80 ≤ mark.offset
  pub a_table_where_due : (mark.due ≡ true) ↔ IsTable block

-- The bookmark after a block: behind its image, with no table due, with its time as the last one if it has one, and with one block more.
pub record NextAfter (mark : Bookmark) (block : Block) (next : Bookmark) : Type 0 where
  pub offset : next.offset ≡ mark.offset + length (image block)
  pub none_due : next.due ≡ false
  pub last : next.last ≡ last_after mark.last (time_of block)
  pub number : next.number ≡ suc mark.number

-- The rules allow the block at the bookmark of the volume, and its image stands there.
pub record Stands (volume : List ℕ) (mark : Bookmark) (block : Block) : Type 0 where
  pub small : length volume ≤ 16777216
  pub in_place : InPlace mark block
  pub keeps : BlockRules block
  pub time : TimeFollows mark.last (time_of block)
  -- below 2^64−1, it can be counted
  pub countable : mark.number < 18446744073709551615
  pub image_there : part volume mark.offset (length (image block)) ≡ image block

-- Parts of a volume that stand one after the other from an offset on.
abbrev pub InARow : (offset : ℕ) → List Part → Type 0
InARow offset [] = Unit {0}
InARow offset (p ∷ others) = (p.offset ≡ offset) × InARow (offset + p.len) others

module _ (library : Library) where
  -- What is claimed of a block that is handed out.
  pub record HandedClaim (volume : List ℕ) (mark : Bookmark) (found : Found) : Type 0 where
    pub stands : Stands volume mark (shown volume found.block)
    -- its variable parts are parts of the volume, at their own offsets after the fixed fields
    pub places : InARow (mark.offset + fixed_length (kind_of (shown volume found.block))) (parts found.block)
    -- its number is the bookmark's
    pub number : found.number ≡ mark.number
    pub next : NextAfter mark (shown volume found.block) found.next

  -- What is claimed of a reading at a bookmark.
  pub record ReadClaim (volume : List ℕ) (mark : Bookmark) : Type 0 where
    pub handed_out : (found : Found) → library.read volume mark ≡ Ok (Some found) → HandedClaim volume mark found
    pub wherever_it_stands : (block : Block) → Stands volume mark block
        → (found : Found) × (library.read volume mark ≡ Ok (Some found)) × (shown volume found.block ≡ block)
    -- "end" is answered at the volume's length with no table due, and only there
    pub at_the_end : (library.read volume mark ≡ Ok None)
        ↔ (length volume ≤ 16777216) × (80 ≤ mark.offset) × (mark.offset ≡ length volume) × (mark.due ≡ false)

  abbrev pub AnyBookmark : Type 0
  AnyBookmark = (volume : List ℕ) (mark : Bookmark) → Bytes volume → ReadClaim volume mark
