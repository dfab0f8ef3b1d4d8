-- Demand 3, what it says on reading: which volumes are accepted, and what the calls on an accepted volume answer.
--
-- It is a claim about a library, by its calls; `HasReading` and `ReadingOf` are the format's. Proved of ours in
-- proofs/Demand3Reading.antt.
use Rattle.std.specs.Prelude.{ℕ, suc, ◌≤◌, ◌≡◌, ◌↔◌, List, [], ◌∷◌, length, Some, None, Ok, Err}
use Rattle.number.specs.Number.{Bytes}
use Rattle.refusal.specs.Refusal.{Refusal}
use Rattle.format.specs.Blocks.{Block}
use Rattle.format.specs.Readings.{Reading, ReadingOf, HasReading}
use Rattle.block.specs.Shown.{shown}
use Rattle.volume.specs.declared.Bookmark.{Bookmark}
use Rattle.volume.specs.declared.Found.{Found}
use Rattle.volume.specs.declared.HeaderRead.{HeaderRead}
use Rattle.volume.specs.declared.Accepted.{Accepted}
use Rattle.volume.specs.declared.Rejected.{Rejected}
use Rattle.claims.specs.Library.{Library}

module _ (library : Library) where
  -- The reader is called at a bookmark, and then at each bookmark that it returns, until it answers "end". It hands out these
  -- blocks, in this order, with numbers that count on from the one given, and the last bookmark is the one that gets "end".
  pub data Calls (volume : List ℕ) : (number : ℕ) → Bookmark → List Block → Bookmark → Type 0 where
    ended : {number : ℕ} {mark : Bookmark} → library.read volume mark ≡ Ok None → Calls volume number mark [] mark
    handed :
        {number : ℕ} {mark end : Bookmark} {found : Found} {blocks : List Block}
        → library.read volume mark ≡ Ok (Some found)
        → found.number ≡ number
        → Calls volume (suc number) found.next blocks end
        → Calls volume number mark (shown volume found.block ∷ blocks) end

  -- The reader is called from the header on until "end", and this is what it gives. `end` is the end bookmark. The first block has the
  -- number 0, a table too, so that the number of each is that of the blocks before it.
  pub record ReaderGives (volume : List ℕ) (reading : Reading) (end : Bookmark) : Type 0 where
    pub first : Bookmark
    pub header : library.read_header volume ≡ Ok (record { sequence = reading.header.sequence; next = first })
    pub id : library.file_system_id volume ≡ reading.header.id
    pub previous : library.previous_hash volume ≡ reading.header.previous
    pub blocks : Calls volume 0 first reading.blocks end
    -- the end bookmark's number is that of all blocks
    pub counted : end.number ≡ length reading.blocks

  -- The reader is called in the same way until it refuses: it hands out these blocks before, and the last bookmark is the one at which it
  -- refuses.
  pub data Stops (volume : List ℕ) : (number : ℕ) → Bookmark → List Block → Bookmark → Refusal → Type 0 where
    stopped :
        {number : ℕ} {mark : Bookmark} {refusal : Refusal}
        → library.read volume mark ≡ Err refusal
        → Stops volume number mark [] mark refusal
    handed_before :
        {number : ℕ} {mark at : Bookmark} {found : Found} {blocks : List Block} {refusal : Refusal}
        → library.read volume mark ≡ Ok (Some found)
        → found.number ≡ number
        → Stops volume (suc number) found.next blocks at refusal
        → Stops volume number mark (shown volume found.block ∷ blocks) at refusal

  -- The check accepts the volume.
  abbrev pub IsAccepted : (volume : List ℕ) → Type 0
  IsAccepted volume = (answer : Accepted) × (library.check volume ≡ Ok answer)

  -- What is claimed of a volume.
  pub record ReadingClaim (volume : List ℕ) : Type 0 where
    -- it is accepted if it has a reading, and only then
    pub accepted_iff_it_has_a_reading : IsAccepted volume ↔ HasReading volume
    -- no volume has two readings
    pub one_reading : (a b : Reading) → ReadingOf volume a → ReadingOf volume b → a ≡ b
    -- the reader gives the reading, block by block, and nothing that is not the reading
    pub reader_gives_the_reading : (reading : Reading) → ReadingOf volume reading ↔ ((end : Bookmark) × ReaderGives volume reading end)
    -- the check answers with the reading's sequence number and the end bookmark
    pub check_answers_for_the_reading :
        (reading : Reading) (end : Bookmark)
        → ReaderGives volume reading end
        → library.check volume ≡ Ok (record { sequence = reading.header.sequence; end = end })
    -- and the number of blocks that it gives, the end bookmark's, is that of the reading
    pub check_counts_the_blocks :
        (reading : Reading) (answer : Accepted)
        → ReadingOf volume reading
        → library.check volume ≡ Ok answer
        → answer.end.number ≡ length reading.blocks

  -- Where the reader is refused, and after which blocks: at the header, which begins at 0, or at a block.
  pub data RefusedAt (volume : List ℕ) : Rejected → Type 0 where
    at_the_header :
        {refusal : Refusal}
        → library.read_header volume ≡ Err refusal
        → RefusedAt volume (record { refusal = refusal; offset = 0; blocks = 0 })
    at_a_block :
        {header : HeaderRead} {blocks : List Block} {at : Bookmark} {refusal : Refusal}
        → library.read_header volume ≡ Ok header
        → Stops volume 0 header.next blocks at refusal
        → RefusedAt volume (record { refusal = refusal; offset = at.offset; blocks = length blocks })

  -- What is claimed of every volume, however long: the check refuses it exactly as the reader does, with its number, where it
  -- does, and counts the blocks that were handed out before.
  abbrev pub RefusedVolumes : Type 0
  RefusedVolumes =
      (volume : List ℕ) (rejected : Rejected) → (library.check volume ≡ Err rejected) ↔ RefusedAt volume rejected

  -- Demand 3 on reading: all of this holds of every volume of at most 16,777,216 bytes.
  abbrev pub Demand3Reading : Type 0
  Demand3Reading = (volume : List ℕ) → Bytes volume → length volume ≤ 16777216 → ReadingClaim volume
