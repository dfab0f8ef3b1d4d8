-- The samples at the edges that are to be proved, in one table, and one statement that covers it: every row holds. Proved in
-- proofs/Samples.antt.
--
-- A row is a call and what it gives. The calls are check (`check_answer`), Bookmark::read (`read_answer`), position
-- (`position_answer`) and runs (`runs_answer`, and `runs_room` for the lent list). They are made on the bytes of whole volumes.
use Rattle.std.specs.Prelude.{ℕ, ◌/◌, ◌≤◌, ◌≡◌, false, List, [], ◌∷◌, ◌++◌, length, drop, replicate, Some, Ok, Err}
use Rattle.number.specs.Number.{le_bytes}
use Rattle.refusal.specs.Refusal.{refusal_of}
use Rattle.format.specs.declared.Extent.{Extent}
use Rattle.format.specs.Layout.{All}
use Rattle.format.specs.Extents.{extent_list, top, kept_length}
use Rattle.format.specs.Blocks.{Block, Inode, Data}
use Rattle.format.specs.Headers.{Header, no_hash}
use Rattle.format.specs.Readings.{volume_of}
use Rattle.extent.specs.Extents.{extent_at}
use Rattle.block.specs.Fields.{rest_at}
use Rattle.block.specs.inner.Decoded.{block_at}
use Rattle.block.specs.Shown.{shown}
use Rattle.volume.specs.Reading.{read_answer}
use Rattle.volume.specs.inner.Check.{check_answer}
use Rattle.volume.specs.declared.Bookmark.{Bookmark}
use Rattle.lookup.specs.inner.Answers.{position_answer, runs_answer, runs_room}
use Rattle.lookup.specs.Answers.{PositionAnswer}
use Rattle.lookup.specs.declared.Position.TheVariants.{PastEnd}

-- an extent, by its fields in layout order
abbrev pub extent : (volume start size multiplicity count pre post logical : ℕ) → Extent
extent volume start size multiplicity count pre post logical =
    record {
      volume = volume;
      start = record { 0 = start };
      size = size;
      multiplicity = multiplicity;
      count = count;
      pre = pre;
      post = post;
      logical = record { 0 = logical };
    }

-- a regular file
pub record File : Type 0 where
  pub size : ℕ
  pub extents : List Extent

-- V has a header of volume 0 and a data block with the three bytes `1,5`, which stand from 97 on; it ends at 104. The inode
-- block of a file comes after it, at 104.
abbrev pub first : Header
first = record { id = replicate 16 0; sequence = 0; previous = no_hash }

abbrev pub payload : Block
payload = Data (record { time = 1; payload = 49 ∷ 44 ∷ 53 ∷ [] })

abbrev pub inode : File → Block
inode file =
    Inode (
    record {
      inode = 1;
      time = 2;
      mode = 0x8000;
      uid = 0;
      gid = 0;
      atime = 0;
      mtime = 0;
      ctime = 0;
      btime = 0;
      size = file.size;
      rest = extent_list file.extents;
    }
    )

abbrev pub with_file : File → List ℕ
with_file file = volume_of (record { header = first; blocks = payload ∷ inode file ∷ [] })

-- the bookmark after V's data block
abbrev pub after_v : Bookmark
after_v = record { offset = 104; due = false; last = Some 1; number = 1 }

-- the length table: one entry, 104
abbrev pub lengths : List ℕ
lengths = le_bytes 8 104

-- A call and what it gives.
pub data Row : Type 0 where
  -- any so many bytes: check refuses them with the number at the offset, after no block
  check_refuses : (len number offset : ℕ) → Row
  -- the inode block is read as it is, and the bookmark after it is at the end
  read_gives : File → Row
  -- or it is refused with the number
  read_refuses : File → (number : ℕ) → Row
  -- L of the file's first extent
  kept_length_is : File → (len : ℕ) → Row
  -- what stands at a position
  position_is : File → (position : ℕ) → PositionAnswer → Row
  -- the runs of a range, five numbers each, in any list that has room for them
  runs_are : File → (from to : ℕ) (numbers : List ℕ) → Row
  -- any list of so many numbers: the runs of a range are refused with the number
  runs_refuse : File → (from to room number : ℕ) → Row

abbrev pub Holds : Row → Type 0
Holds (check_refuses len number offset) =
    (volume : List ℕ) → length volume ≡ len
    → check_answer volume ≡ Err (record { refusal = refusal_of number; offset = offset; blocks = 0 })
Holds (read_gives file) =
    (shown (with_file file) (block_at (with_file file) 104) ≡ inode file)
    × (read_answer (with_file file) after_v
    ≡ Ok (Some (record {
      block = block_at (with_file file) 104;
      number = 1;
      next = record { offset = length (with_file file); due = false; last = Some 2; number = 2 };
    })))
Holds (read_refuses file number) = read_answer (with_file file) after_v ≡ Err (refusal_of number)
Holds (kept_length_is file len) = kept_length (extent_at (rest_at (with_file file) 104) 0) ≡ len
Holds (position_is file position answer) = position_answer (with_file file) 104 lengths position ≡ answer
Holds (runs_are file from to numbers) =
    (out : List ℕ) → length numbers ≤ length out
    → (runs_answer (with_file file) 104 lengths from to (length out) ≡ Ok (length numbers / 5))
    × (runs_room (with_file file) 104 lengths from to out ≡ numbers ++ drop (length numbers) out)
Holds (runs_refuse file from to room number) =
    (out : List ℕ) → length out ≡ room
    → (runs_answer (with_file file) 104 lengths from to (length out) ≡ Err (refusal_of number))
    × (runs_room (with_file file) 104 lengths from to out ≡ out)

-- The files of the samples.
abbrev pub file_a : (post : ℕ) → File
file_a post = record { size = 3; extents = extent 0 97 3 67 1 0 post 0 ∷ [] }

abbrev pub file_b : File
file_b = record { size = 14; extents = extent 0 97 3 82 3 1 1 4 ∷ [] }

-- S and C both 2^32
abbrev pub large : (multiplicity : ℕ) → File
large multiplicity = record { size = 3; extents = extent 0 97 0x100000000 multiplicity 0x100000000 0 0 0 ∷ [] }

-- S 0, C 2^64 - 1, pre and post 0
abbrev pub empty : (multiplicity : ℕ) → File
empty multiplicity = record { size = 3; extents = extent 0 97 0 multiplicity top 0 0 0 ∷ [] }

-- kept ranges 0 to 3 and 3 to 5
abbrev pub touching : File
touching = record { size = 5; extents = extent 0 97 3 67 1 0 0 0 ∷ extent 0 97 2 67 1 0 0 3 ∷ [] }

-- kept ranges 0 to 3 and 2 to 5
abbrev pub overlapping : File
overlapping = record { size = 5; extents = extent 0 97 3 67 1 0 0 0 ∷ extent 0 97 3 67 1 0 0 2 ∷ [] }

abbrev pub table : List Row
table =
    check_refuses 0 2 0
    ∷ check_refuses 79 2 0
    ∷ kept_length_is (file_a 0) 3
    ∷ runs_are (file_a 0) 0 3 (
    0 ∷ 3 ∷ 1 ∷ 0 ∷ 97 ∷ []
    )
    ∷ kept_length_is (file_a 2) 1
    ∷ runs_are (file_a 2) 0 3 (
    0 ∷ 1 ∷ 1 ∷ 0 ∷ 97 ∷
    1 ∷ 2 ∷ 0 ∷ 0 ∷ 0 ∷ []
    )
    ∷ position_is (file_a 0) 3 (Ok PastEnd)
    ∷ kept_length_is file_b 7
    ∷ runs_are file_b 0 14 (
    0 ∷ 4 ∷ 0 ∷ 0 ∷ 0 ∷
    4 ∷ 2 ∷ 1 ∷ 0 ∷ 98 ∷
    6 ∷ 3 ∷ 1 ∷ 0 ∷ 97 ∷
    9 ∷ 2 ∷ 1 ∷ 0 ∷ 97 ∷
    11 ∷ 3 ∷ 0 ∷ 0 ∷ 0 ∷ []
    )
    ∷ runs_refuse file_b 0 14 24 17
    ∷ read_refuses (large 67) 11
    ∷ read_refuses (large 82) 11
    ∷ kept_length_is (empty 67) 0
    ∷ read_gives (empty 67)
    ∷ kept_length_is (empty 82) 0
    ∷ read_gives (empty 82)
    ∷ read_gives touching
    ∷ read_refuses overlapping 12
    ∷ []

-- Every row of the table holds.
abbrev pub EveryRowHolds : Type 0
EveryRowHolds = All Holds table
