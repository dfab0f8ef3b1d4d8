-- Demand 2 on lookup: a position of a file that is not refused is either a hole or the place of a single byte, and that byte lies
-- inside the volume that the answer names, provided that the lengths lent are those of the volumes. A range query says of every
-- position of its range what the lookup of that position answers.
--
-- It is a claim about a library, by its calls. `lookup_fault` is the number of the first fault by the order of a lookup's checks, or 0
-- where there is none. Proved of ours in proofs/Demand2.antt.
use Rattle.std.specs.Prelude.{ℕ, ◌+◌, ◌-◌, ◌*◌, ◌%◌, ◌≤◌, ◌<◌, min, ◌≡◌, ◌⊎◌, ◌↔◌, List, [], ◌∷◌, ◌++◌, length, drop, Ok, Err}
use Rattle.number.specs.Number.{Bytes, part}
use Rattle.refusal.specs.Refusal.{Refusal, refusal_of}
use Rattle.format.specs.declared.Extent.{Extent}
use Rattle.format.specs.Layout.{laid}
use Rattle.format.specs.Extents.{extent_widths, extent_fields, kept_length, footprint, ExtentRules, KeepsPosition}
use Rattle.format.specs.Blocks.{InodeFields, Inode, image, BlockRules, file_type, regular}
use Rattle.extent.specs.Extents.{extent_at, extent_count}
use Rattle.block.specs.Fields.{size_at, rest_at}
use Rattle.runs.specs.Positions.{copy_of}
use Rattle.runs.specs.Runs.{hole, stored, label, IsRuns}
use Rattle.lookup.specs.Lookup.{entry_count, length_of, lookup_fault}
use Rattle.lookup.specs.Answers.{PositionAnswer as Answer}
use Rattle.lookup.specs.declared.Position.TheVariants.{Hole, PastEnd, Stored}
use Rattle.claims.specs.Library.{Library}

-- The file whose inode block stands at an offset: how many extents it has, and each by its number, counted from 0.
abbrev pub extents_in : (volume : List ℕ) (offset : ℕ) → ℕ
extents_in volume offset = extent_count (rest_at volume offset)

abbrev pub extent_of : (volume : List ℕ) (offset index : ℕ) → Extent
extent_of volume offset index = extent_at (rest_at volume offset) index

-- These are the file's by the format: the image of a regular file's inode block that keeps the rules stands there; it has this
-- size, and its n bytes are these extents, 57 bytes each.
pub record IsFile (volume : List ℕ) (offset : ℕ) : Type 0 where
  pub inode : InodeFields
  pub keeps : BlockRules (Inode inode)
  pub stands : part volume offset (length (image (Inode inode))) ≡ image (Inode inode)
  pub type : file_type inode.mode ≡ regular
  pub size : inode.size ≡ size_at volume offset
  pub list : inode.rest ≡ rest_at volume offset
  pub whole : length (rest_at volume offset) ≡ 57 * extents_in volume offset
  pub each : (index : ℕ) → index < extents_in volume offset
      → part (rest_at volume offset) (57 * index) 57 ≡ laid extent_widths (extent_fields (extent_of volume offset index))
  pub rules : (index : ℕ) → index < extents_in volume offset → ExtentRules (extent_of volume offset index)

-- The volume that an extent names has an entry, and the extent ends, at P+F, within the length there.
abbrev pub IsThere : (lengths : List ℕ) → Extent → Type 0
IsThere lengths e = (e.volume < entry_count lengths) × (e.start.0 + footprint e ≤ length_of lengths e.volume)

-- What a lookup asks for. A length table of whole entries, at most 4,096; a volume within the limit, and the inode block of a
-- regular file in it; and each extent that keeps something names an entry and ends, at P+F, within its length. 18 asks for
-- nothing more: where S is 0, so is L.
pub record AllIsThere (volume : List ℕ) (offset : ℕ) (lengths : List ℕ) : Type 0 where
  pub whole_entries : length lengths % 8 ≡ 0
  pub few_entries : entry_count lengths ≤ 4096
  pub small : length volume ≤ 16777216
  pub after_the_header : 80 ≤ offset
  pub file : IsFile volume offset
  pub there : (index : ℕ) → index < extents_in volume offset → 0 < kept_length (extent_of volume offset index)
      → IsThere lengths (extent_of volume offset index)

-- An extent of the file keeps the position: it lies from Q to below Q+L.
abbrev pub KeptBy : (volume : List ℕ) (offset position index : ℕ) → Type 0
KeptBy volume offset position index = (index < extents_in volume offset) × KeepsPosition (extent_of volume offset index) position

-- Where an extent stores a position that it keeps. With r = pre + (position - Q): P + r for 67, P + (r mod S) for 82.
pub data IsPlace (e : Extent) (position : ℕ) : (place : ℕ) → Type 0 where
  in_a_row : e.multiplicity ≡ 67 → IsPlace e position (e.start.0 + (e.pre + (position - e.logical.0)))
  in_each_copy : e.multiplicity ≡ 82 → 0 < e.size
      → IsPlace e position (e.start.0 + (e.pre + (position - e.logical.0)) % e.size)

-- The lengths lent are right: entry i is how long volume i is.
abbrev pub TrueLengths : (lengths : List ℕ) (volumes : ℕ → List ℕ) → Type 0
TrueLengths lengths volumes = (i : ℕ) → i < entry_count lengths → length_of lengths i ≡ length (volumes i)

-- What a run says of the k-th of its positions. Kind 0, with two zeros: a hole. Kind 1: a stored byte, k after the first.
pub data Says : (kind number start k : ℕ) → Answer → Type 0 where
  a_hole : {k : ℕ} → Says 0 0 0 k (Ok Hole)
  a_byte : {number start k : ℕ}
      → Says 1 number start k (Ok (Stored (record { volume = number; offset = record { 0 = start + k } })))

module _ (library : Library) where
  -- A hole: no extent of the file keeps the position, and the answer says so.
  pub record IsHole (volume : List ℕ) (offset : ℕ) (lengths : List ℕ) (position : ℕ) : Type 0 where
    pub kept_by_none : (index : ℕ) → KeptBy volume offset position index → ⊥
    pub answer : library.position volume offset lengths position ≡ Ok Hole
    -- for runs, it is part of a hole
    pub run_label : label (rest_at volume offset) position ≡ hole

  -- One stored byte: one extent of the file keeps the position and no other does, and the answer is the place of the byte.
  pub record IsStored (volume : List ℕ) (offset : ℕ) (lengths : List ℕ) (position : ℕ) : Type 0 where
    pub keeper : ℕ
    pub kept : KeptBy volume offset position keeper
    pub by_no_other : (index : ℕ) → KeptBy volume offset position index → index ≡ keeper
    pub place : ℕ
    pub is_place : IsPlace (extent_of volume offset keeper) position place
    pub answer : library.position volume offset lengths position
        ≡ Ok (Stored (record { volume = (extent_of volume offset keeper).volume; offset = record { 0 = place } }))
    -- the volume has an entry, and the place lies below its length
    pub named : (extent_of volume offset keeper).volume < entry_count lengths
    pub below : place < length_of lengths (extent_of volume offset keeper).volume
    -- so the byte is there
    pub inside : (volumes : ℕ → List ℕ) → TrueLengths lengths volumes → place < length (volumes (extent_of volume offset keeper).volume)
    -- for runs, it is part of this extent's copy of its block in which the raw byte lies
    pub run_label : label (rest_at volume offset) position ≡ stored keeper (copy_of (extent_of volume offset keeper) position)

  -- Runs that lie end to end from `from` to below `to`, by their lengths and by their numbers, five a run: logical start, length,
  -- kind, volume, offset. Each run says of its positions what the lookup of the position answers.
  pub data RunsSay (volume : List ℕ) (offset : ℕ) (lengths : List ℕ) : (from to : ℕ) (runs numbers : List ℕ) → Type 0 where
    -- nothing is left
    over : {from to : ℕ} → to ≤ from → RunsSay volume offset lengths from to [] []
    -- a run, and then the others
    run : {from to len kind number start : ℕ} {runs numbers : List ℕ} → 0 < len → from + len ≤ to
        → ((k : ℕ) → k < len → Says kind number start k (library.position volume offset lengths (from + k)))
        → RunsSay volume offset lengths (from + len) to runs numbers
        → RunsSay volume offset lengths from to (len ∷ runs) (from ∷ len ∷ kind ∷ number ∷ start ∷ numbers)

  -- What is claimed of a range, which is clipped to the size.
  pub record RangeClaim (volume : List ℕ) (offset : ℕ) (lengths : List ℕ) (from to : ℕ) : Type 0 where
    -- the lengths of its runs, and their numbers
    pub runs : List ℕ
    pub numbers : List ℕ
    pub runs_agree_with_positions : RunsSay volume offset lengths from (min to (size_at volume offset)) runs numbers
    -- the runs are the longest stretches of positions with one label, and nothing else is
    pub longest : IsRuns (rest_at volume offset) from (min to (size_at volume offset)) runs
    pub only : (others : List ℕ) → IsRuns (rest_at volume offset) from (min to (size_at volume offset)) others → others ≡ runs
    -- with room for five numbers a run, the answer is how many runs there are; the list then begins with their numbers, and the
    -- rest of it is as it was
    pub room_enough : (out : List ℕ) → 5 * length runs ≤ length out
        → (library.runs volume offset lengths from to (length out) ≡ Ok (length runs))
        × (library.runs_list volume offset lengths from to out ≡ numbers ++ drop (5 * length runs) out)
    -- with less room, the answer is 17 and the list stays
    pub room_too_small : (out : List ℕ) → length out < 5 * length runs
        → (library.runs volume offset lengths from to (length out) ≡ Err (refusal_of 17))
        × (library.runs_list volume offset lengths from to out ≡ out)

  -- What is claimed of a lookup where all is there: it is answered.
  pub record LookupClaim (volume : List ℕ) (offset : ℕ) (lengths : List ℕ) : Type 0 where
    pub hole_or_stored : (position : ℕ) → position < size_at volume offset
        → IsHole volume offset lengths position ⊎ IsStored volume offset lengths position
    pub never_both : (position : ℕ) → IsHole volume offset lengths position → IsStored volume offset lengths position → ⊥
    pub past_the_end : (position : ℕ) → size_at volume offset ≤ position
        → library.position volume offset lengths position ≡ Ok PastEnd
    pub ranges : (from to : ℕ) → RangeClaim volume offset lengths from to

  -- What is claimed of a lookup that is refused: every position and every range gets one refusal, with the number, no position a place
  -- and no range a number of runs, and the lent list stays as it was.
  pub record RefusedClaim (volume : List ℕ) (offset : ℕ) (lengths : List ℕ) (number : ℕ) : Type 0 where
    pub refusal : Refusal
    pub with_the_number : refusal.number ≡ number
    pub positions : (position : ℕ) → library.position volume offset lengths position ≡ Err refusal
    pub ranges : (from to : ℕ) (out : List ℕ)
        → (library.runs volume offset lengths from to (length out) ≡ Err refusal)
        × (library.runs_list volume offset lengths from to out ≡ out)

  -- Demand 2 on lookup. What is asked about a file is answered if all that the file needs is there, and otherwise refused, with the
  -- number of the first fault.
  pub record Demand2For (volume : List ℕ) (offset : ℕ) (lengths : List ℕ) : Type 0 where
    pub no_fault_iff_all_is_there : (lookup_fault volume offset lengths ≡ 0) ↔ AllIsThere volume offset lengths
    pub answered : AllIsThere volume offset lengths → LookupClaim volume offset lengths
    pub refused_otherwise : (AllIsThere volume offset lengths → ⊥) → RefusedClaim volume offset lengths (lookup_fault volume offset lengths)

  abbrev pub Demand2 : Type 0
  Demand2 = (volume : List ℕ) (offset : ℕ) (lengths : List ℕ) → Bytes volume → Demand2For volume offset lengths
