-- Demand 3, whole: what it says of a volume, and what it says of a list of appends.
--
-- It is a claim about a library, by its calls. Proved of ours in proofs/Demand3.antt.
use Rattle.std.specs.Prelude.{ℕ, ◌≤◌, ◌≡◌, false, ◌↔◌, List, [], ◌∷◌, ◌++◌, length, take, drop, Some, Ok, Err}
use Rattle.number.specs.Number.{Bytes}
use Rattle.refusal.specs.Refusal.{Refusal}
use Rattle.format.specs.Layout.{All}
use Rattle.format.specs.Blocks.{LinksOf, Block, BlockRules}
use Rattle.format.specs.Headers.{Header, HeaderRules}
use Rattle.format.specs.Readings.{Reading, TableRule, Keeps, images, volume_of, ReadingOf}
use Rattle.block.specs.Shown.{shown}
use Rattle.volume.specs.Heading.{first_mark}
use Rattle.request.specs.Asking.{Sized}
use Rattle.volume.specs.Writing.{SizedHeader}
use Rattle.volume.specs.declared.Bookmark.{Bookmark}
use Rattle.volume.specs.declared.Found.{Found}
use Rattle.volume.specs.Answers.{WriteAnswer}
use Rattle.claims.specs.Library.{Library}
use Rattle.claims.specs.Demand3Reading.{ReaderGives, IsAccepted, ReadingClaim, RefusedVolumes}

-- What appends leave.

-- what a list of appends leaves: an answer for each, the buffer, and the last bookmark
pub record Outcome : Type 0 where
  pub answers : List WriteAnswer
  pub buffer : List ℕ
  pub mark : Bookmark

-- the bookmark for the next append: the one returned; after a refusal, the one before
abbrev pub onward : Bookmark → WriteAnswer → Bookmark
onward mark (Ok next) = next
onward mark (Err refusal) = mark

abbrev pub answered_first : WriteAnswer → Outcome → Outcome
answered_first answer others = record { answers = answer ∷ others.answers; buffer = others.buffer; mark = others.mark }

-- the bytes below the last bookmark
abbrev pub written : Outcome → List ℕ
written outcome = take outcome.mark.offset outcome.buffer

abbrev pub IsNext : WriteAnswer → Type 0
IsNext (Ok next) = Unit {0}
IsNext (Err refusal) = ⊥

-- Which blocks may be appended.

-- a header and blocks with more blocks after them
abbrev pub extended : Reading → List Block → Reading
extended sofar blocks = record { header = sofar.header; blocks = sofar.blocks ++ blocks }

-- A block may be appended after the header and blocks so far, in a buffer of so many bytes.
pub record Permits (room : ℕ) (sofar : Reading) (block : Block) : Type 0 where
  -- one block longer, the reading still keeps the rules: among them that a length fits its field, and that the bytes of a table are
  -- exactly the stated links
  pub keeps : Keeps (extended sofar (block ∷ []))
  pub with_room : length (volume_of (extended sofar (block ∷ []))) ≤ room
  pub within_size : length (volume_of (extended sofar (block ∷ []))) ≤ 16777216

-- The answers to a list of appends after the header and blocks so far: acceptance where the block may be appended, and refusal where
-- it may not. The last list has the accepted blocks.
pub data Judged (room : ℕ) : (sofar : Reading) → (asked : List Block) → List WriteAnswer → List Block → Type 0 where
  none_left : {sofar : Reading} → Judged room sofar [] [] []
  accepted :
      {sofar : Reading} {block : Block} {asked blocks : List Block} {next : Bookmark} {answers : List WriteAnswer}
      → Permits room sofar block
      → Judged room (extended sofar (block ∷ [])) asked answers blocks
      → Judged room sofar (block ∷ asked) (Ok next ∷ answers) (block ∷ blocks)
  refused :
      {sofar : Reading} {block : Block} {asked blocks : List Block} {refusal : Refusal} {answers : List WriteAnswer}
      → (Permits room sofar block → ⊥)
      → Judged room sofar asked answers blocks
      → Judged room sofar (block ∷ asked) (Err refusal ∷ answers) blocks

-- No table is due after a header and blocks: they keep the rule on tables as they stand, so that none is still to come.
abbrev pub NoTableDue : Reading → Type 0
NoTableDue sofar = TableRule sofar.header.sequence sofar.blocks

module _ (library : Library) where
  -- the appends of a list, one after the other: buffer and bookmark go from each to the next
  unfoldable pub appends : (buffer : List ℕ) → Bookmark → List Block → Outcome
  appends buffer mark [] = record { answers = []; buffer = buffer; mark = mark }
  appends buffer mark (block ∷ blocks) =
      answered_first (library.append (length buffer) mark block)
      (appends (library.append_buffer buffer mark block) (onward mark (library.append (length buffer) mark block)) blocks)

  -- a reading written afresh: its header, and then its blocks by one append each. The first append gets the bookmark that the header
  -- writer returns (`header_accepted` below)
  abbrev pub written_afresh : (buffer : List ℕ) → Reading → Outcome
  written_afresh buffer reading =
      appends (library.header_buffer buffer reading.header) (first_mark reading.header.sequence) reading.blocks

  -- Writing a volume afresh.

  -- What is claimed of writing a volume afresh in a buffer.
  pub record FreshClaim (volume : List ℕ) (reading : Reading) (buffer : List ℕ) : Type 0 where
    -- no call refuses
    pub header_accepted : library.write_header (length buffer) reading.header ≡ Ok (first_mark reading.header.sequence)
    pub each_append_accepted : All IsNext (written_afresh buffer reading).answers
    -- what stands below the last bookmark is the volume, and nothing else has changed
    pub same_bytes : written (written_afresh buffer reading) ≡ volume
    pub rest_as_it_was : drop (length volume) (written_afresh buffer reading).buffer ≡ drop (length volume) buffer

  -- What is claimed of a volume: acceptance, its one reading, the reader, and writing it afresh with room enough.
  pub record VolumeClaim (volume : List ℕ) : Type 0 where
    pub reading : ReadingClaim library volume
    pub afresh : (reading : Reading) (buffer : List ℕ) → ReadingOf volume reading → length volume ≤ length buffer
        → FreshClaim volume reading buffer

  -- Appending.

  -- Where appending starts, with the header and blocks that stand there. Either the buffer begins with an accepted volume and the
  -- bookmark is its end bookmark, or the header writer has returned the bookmark and left the buffer.
  pub data Start (buffer : List ℕ) (mark : Bookmark) : Reading → Type 0 where
    from_volume :
        (volume spare : List ℕ) (reading : Reading)
        → volume ++ spare ≡ buffer
        → IsAccepted library volume
        → ReaderGives library volume reading mark
        → Start buffer mark reading
    from_header :
        (before : List ℕ) (header : Header)
        → SizedHeader header
        → library.write_header (length before) header ≡ Ok mark
        → library.header_buffer before header ≡ buffer
        → Start buffer mark (record { header = header; blocks = [] })

  -- Both the reader and the check take the bytes for a volume with this reading and this end bookmark.
  pub record AcceptedVolume (volume : List ℕ) (reading : Reading) (end : Bookmark) : Type 0 where
    pub is_reading : ReadingOf volume reading
    pub reader : ReaderGives library volume reading end
    pub check :
        library.check volume ≡ Ok (record { sequence = reading.header.sequence; end = end })

  -- A block that is read at a bookmark in a volume is read there in the later one too: same fields, same places of its parts, and the
  -- same bytes in them.
  pub record StillRead (volume later : List ℕ) (mark : Bookmark) (found : Found) : Type 0 where
    pub same_place : library.read later mark ≡ Ok (Some found)
    pub same_reading : shown later found.block ≡ shown volume found.block

  -- What is claimed of a list of appends from a start.
  pub record AppendsClaim (buffer : List ℕ) (mark : Bookmark) (sofar : Reading) (asked : List Block) (outcome : Outcome) : Type 0 where
    -- the accepted ones
    pub blocks : List Block
    pub each_accepted_exactly_if_allowed : Judged (length buffer) sofar asked outcome.answers blocks
    -- what stood below the first bookmark is followed by the images of the accepted blocks
    pub bytes_below : written outcome ≡ take mark.offset buffer ++ images blocks
    -- nothing from the last bookmark on has changed
    pub rest_as_it_was : drop outcome.mark.offset outcome.buffer ≡ drop outcome.mark.offset buffer
    -- the last bookmark has the number of all blocks, those of the start and the accepted ones
    pub counted : outcome.mark.number ≡ length (extended sofar blocks).blocks
    -- and says whether a table is due
    pub due_says : (outcome.mark.due ≡ false) ↔ NoTableDue (extended sofar blocks)
    -- unless one is, this is a volume that ends at the last bookmark
    pub accepted_volume : NoTableDue (extended sofar blocks) → AcceptedVolume (written outcome) (extended sofar blocks) outcome.mark
    -- what could be read before is still read
    pub earlier_blocks :
        (at : Bookmark) (found : Found)
        → library.read (take mark.offset buffer) at ≡ Ok (Some found)
        → StillRead (take mark.offset buffer) (written outcome) at found

  -- Demand 3: the first holds of every volume of at most 16,777,216 bytes, the second of every volume, the third of every start and
  -- every list of appends. The next: a table's bytes are one list of links and no other. The last two say that `Sized` and `SizedHeader`
  -- leave out nothing that the rules allow; that they leave out no call is in the calls' own contracts.
  pub record Demand3 : Type 0 where
    pub volumes : (volume : List ℕ) → Bytes volume → length volume ≤ 16777216 → VolumeClaim volume
    pub refused_volumes : RefusedVolumes library
    pub lists_of_appends :
        (buffer : List ℕ) (mark : Bookmark) (sofar : Reading) (asked : List Block)
        → Bytes buffer
        → All Sized asked
        → Start buffer mark sofar
        → AppendsClaim buffer mark sofar asked (appends buffer mark asked)
    pub one_list_of_links : (count : ℕ) (bytes : List ℕ) (a b : LinksOf count bytes) → a.links ≡ b.links
    pub every_block_can_be_asked_for : (block : Block) → BlockRules block → Sized block
    pub every_header_can_be_asked_for : (header : Header) → HeaderRules header → SizedHeader header
