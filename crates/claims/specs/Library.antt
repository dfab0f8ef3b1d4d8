-- The public calls as functions of what is lent to them, so that a claim can be made of any library and not only of this one. A call
-- that changes lent memory has two: what it answers, and what the memory holds afterwards.
--
-- `ours` is this library: in each place stands the definition with which the call's contract is an equation. proofs/Wrong.antt shows
-- libraries of which the claims are false.
use Rattle.std.specs.Prelude.{ℕ, List}
use Rattle.number.specs.Number.{put}
use Rattle.format.specs.Blocks.{Block}
use Rattle.format.specs.Headers.{Header}
use Rattle.volume.specs.Heading.{header_answer, field_answer}
use Rattle.volume.specs.Reading.{read_answer}
use Rattle.volume.specs.inner.Check.{check_answer}
use Rattle.volume.specs.Writing as writing
use Rattle.volume.specs.declared.Bookmark.{Bookmark}
use Rattle.volume.specs.Answers.{HeaderAnswer, ReadAnswer, Verdict, WriteAnswer}
use Rattle.lookup.specs.inner.Answers as lookup
use Rattle.lookup.specs.Answers.{PositionAnswer, RunsAnswer}
use Rattle.listing.specs.Listing.{list_answer}
use Rattle.listing.specs.inner.Text.{listing}
use Rattle.listing.specs.Answers.{ListAnswer}

pub record Library : Type 0 where
  -- read_header, file_system_id, previous_hash, Bookmark::read, check
  pub read_header : (volume : List ℕ) → HeaderAnswer
  pub file_system_id : (volume : List ℕ) → List ℕ
  pub previous_hash : (volume : List ℕ) → List ℕ
  pub read : (volume : List ℕ) → Bookmark → ReadAnswer
  pub check : (volume : List ℕ) → Verdict
  -- write_header, with a buffer of so many bytes, and the buffer after it
  pub write_header : (room : ℕ) → Header → WriteAnswer
  pub header_buffer : (buffer : List ℕ) → Header → List ℕ
  -- the eight appends
  pub append : (room : ℕ) → Bookmark → Block → WriteAnswer
  pub append_buffer : (buffer : List ℕ) → Bookmark → Block → List ℕ
  -- position, and runs with a list of so many numbers, and the list after it
  pub position : (volume : List ℕ) (offset : ℕ) (lengths : List ℕ) (position : ℕ) → PositionAnswer
  pub runs : (volume : List ℕ) (offset : ℕ) (lengths : List ℕ) (from to room : ℕ) → RunsAnswer
  pub runs_list : (volume : List ℕ) (offset : ℕ) (lengths : List ℕ) (from to : ℕ) (out : List ℕ) → List ℕ
  -- list, with a room of so many bytes, and the room after it
  pub list : (room : ℕ) (volume : List ℕ) → ListAnswer
  pub list_room : (out volume : List ℕ) → List ℕ

abbrev pub ours : Library
ours =
    record {
      read_header = header_answer;
      file_system_id = λ volume. field_answer "file system ID" volume;
      previous_hash = λ volume. field_answer "previous hash" volume;
      read = read_answer;
      check = check_answer;
      write_header = writing.write_answer;
      header_buffer = writing.write_buffer;
      append = writing.append_answer;
      append_buffer = writing.append_buffer;
      position = lookup.position_answer;
      runs = lookup.runs_answer;
      runs_list = lookup.runs_room;
      list = λ room volume. list_answer room (listing volume);
      list_room = λ out volume. put out 0 (listing volume);
    }
