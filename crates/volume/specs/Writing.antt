-- What writing a header and appending a block answer, and what the buffer then holds.
use Rattle.std.specs.Prelude.{ℕ, ◌+◌, ◌^◌, ◌<◌, Bool, not, cond, List, [], ◌∷◌, ◌++◌, ltb, eqb, length, Option, Ok, Err}
use Rattle.std.specs.Bool.{beq}
use Rattle.number.specs.Number.{Bytes, put}
use Rattle.checks.specs.Checks.{Check, check, first_fault}
use Rattle.refusal.specs.Refusal.{refusal_of, refusal_with}
use Rattle.format.specs.Blocks.{id_of, Block, kind_of, image}
use Rattle.format.specs.Headers.{Header, header_image}
use Rattle.format.specs.Readings.{time_of}
use Rattle.block.specs.Order.{volume_limit}
use Rattle.texts.specs.Texts.{texts}
use Rattle.request.specs.Requests.{request_order}
use Rattle.volume.specs.Heading.{hash_wrong, first_mark}
use Rattle.volume.specs.Reading.{may_follow, count_full, mark_after}
use Rattle.volume.specs.declared.Bookmark.{Bookmark}
use Rattle.volume.specs.Answers.{WriteAnswer}

-- the checks of the place: 8 (below 80; a table is due and this is none, or this is one and none is due), 9 (the bookmark's number)
abbrev pub place_order : Bookmark → (table : Bool) → List Check
place_order mark table =
    check (ltb mark.offset 80) 8 ∷ check (not (beq mark.due table)) 8 ∷ check (count_full mark) 9 ∷ []

-- the checks of time and room: 14, 1, 17
abbrev pub room_order : Bookmark → (time : Option ℕ) (len room : ℕ) → List Check
room_order mark time len room =
    check (not (may_follow mark.last time)) 14
    ∷ check (ltb volume_limit (mark.offset + len)) 1
    ∷ check (ltb room (mark.offset + len)) 17
    ∷ []

-- the checks of an append: 8, 9 (the bookmark's number), 9, 11 (link bytes), 10, 11 (inode), 12, 13, 14, 1, 17
abbrev pub append_order : (room : ℕ) → Bookmark → Block → List Check
append_order room mark block =
    place_order mark (eqb (id_of (kind_of block)) 8)
    ++ (request_order block ++ room_order mark (time_of block) (length (image block)) room)

unfoldable pub append_fault : (room : ℕ) → Bookmark → Block → ℕ
append_fault room mark block = first_fault (append_order room mark block)

-- the bookmark after the block, or the refusal
unfoldable pub append_answer : (room : ℕ) → Bookmark → Block → WriteAnswer
append_answer room mark block =
    cond (eqb (append_fault room mark block) 0)
    (Ok (mark_after mark (mark.offset + length (image block)) (time_of block)))
    (Err (refusal_with (append_fault room mark block) (texts block)))

-- the buffer with the image at the bookmark's offset; as it was on refusal
unfoldable pub append_buffer : (buffer : List ℕ) → Bookmark → Block → List ℕ
append_buffer buffer mark block =
    cond (eqb (append_fault (length buffer) mark block) 0) (put buffer mark.offset (image block)) buffer

-- the checks of writing a header: 11 (file system ID, previous hash), 6, 17
abbrev pub write_order : (room : ℕ) → Header → List Check
write_order room header =
    check (not (eqb (length header.id) 16)) 11
    ∷ check (not (eqb (length header.previous) 32)) 11
    ∷ check (hash_wrong header.sequence header.previous) 6
    ∷ check (ltb room 80) 17
    ∷ []

unfoldable pub write_fault : (room : ℕ) → Header → ℕ
write_fault room header = first_fault (write_order room header)

unfoldable pub write_answer : (room : ℕ) → Header → WriteAnswer
write_answer room header =
    cond (eqb (write_fault room header) 0) (Ok (first_mark header.sequence)) (Err (refusal_of (write_fault room header)))

unfoldable pub write_buffer : (buffer : List ℕ) → Header → List ℕ
write_buffer buffer header = cond (eqb (write_fault (length buffer) header) 0) (put buffer 0 (header_image header)) buffer

-- What holds of the arguments of the header writer, by their types: its contract has it, whether they are refused or not. The
-- header of a volume that keeps the rules is sized as well (`header_sized`).
pub record SizedHeader (header : Header) : Type 0 where
  pub fit : header.sequence < 256 ^ 8
  -- a slice of bytes holds bytes
  pub id_bytes : Bytes header.id
  pub hash_bytes : Bytes header.previous
