-- What the whole-volume check answers. It accepts a volume with its sequence number and the end bookmark, whose number is that of the
-- blocks after the header, a table among them. Otherwise it refuses with a number, tells where the header or block at fault begins, and
-- how many blocks it had accepted before.
--
-- A volume has exactly one such verdict (proofs/Checked.antt), and check answers it.
use Rattle.std.specs.Prelude.{ℕ, ◌≡◌, List, Some, None, Ok, Err}
use Rattle.refusal.specs.Refusal.{Refusal}
use Rattle.volume.specs.Heading.{header_answer}
use Rattle.volume.specs.Reading.{read_answer}
use Rattle.volume.specs.declared.Bookmark.{Bookmark}
use Rattle.volume.specs.declared.HeaderRead.{HeaderRead}
use Rattle.volume.specs.declared.Found.{Found}
use Rattle.volume.specs.Answers.{Verdict}

-- From a bookmark on. The blocks accepted before it are the bookmark's number.
pub data CheckedFrom (volume : List ℕ) (sequence : ℕ) : Bookmark → Verdict → Type 0 where
  -- "end" accepts: this is the end bookmark
  accepted_at_the_end : {mark : Bookmark} → read_answer volume mark ≡ Ok None
      → CheckedFrom volume sequence mark (Ok (record { sequence = sequence; end = mark }))
  -- a block at fault refuses the volume, at the block's offset
  refused_at_a_block : {mark : Bookmark} {refusal : Refusal} → read_answer volume mark ≡ Err refusal
      → CheckedFrom volume sequence mark (Err (record { refusal = refusal; offset = mark.offset; blocks = mark.number }))
  -- after a block the check goes on from the next bookmark
  after_a_block : {mark : Bookmark} {found : Found} {answer : Verdict} → read_answer volume mark ≡ Ok (Some found)
      → CheckedFrom volume sequence found.next answer → CheckedFrom volume sequence mark answer

-- The verdict of a volume.
pub data Checked (volume : List ℕ) : Verdict → Type 0 where
  -- a header at fault refuses the volume, at 0
  refused_at_the_header : {refusal : Refusal} → header_answer volume ≡ Err refusal
      → Checked volume (Err (record { refusal = refusal; offset = 0; blocks = 0 }))
  -- block after block from the header's bookmark on
  after_the_header : {header : HeaderRead} {answer : Verdict} → header_answer volume ≡ Ok header
      → CheckedFrom volume header.sequence header.next answer → Checked volume answer
