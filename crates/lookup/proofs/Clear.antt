-- What a lookup that is not refused knows: the block is the inode of a regular file, its extents keep their rules, and what
-- they name is there. Assumes nothing.
use Prim.Native.Nat.{ℕ, ◌+◌, ◌%◌, ◌≤◌, ◌<◌}
use mathlib.Core.Path.{◌≡◌, refl, sym, ap, subst, ◌∙◌}
use mathlib.Core.Bool.{true, false, false≢true}
use mathlib.Mathlib.Data.Bool.Basic.{or-eq-false-eq-eq-false-and-eq-false as both_false}
use mathlib.Core.List.{List}
use native.Mathlib.Omega.{arith}
use lib.Dec.{leb, eqb}
use lib.ListN.{length}
use borrow.Author.Tests.{lt-ltb, ltb-false, leb-false, eqb-true, not-false}
use Rattle.number.proofs.Same.{and_true}
use Rattle.number.proofs.Parts.{length_part}
use Rattle.checks.specs.Checks.{first_fault}
use Rattle.checks.proofs.Laws.{passed}
use Rattle.checks.proofs.Cleared.{rest_clear, both_clear}
use Rattle.checks.proofs.Scan.{any_false}
use Rattle.format.specs.declared.Extent.{Extent}
use Rattle.format.specs.Extents.{kept_length, footprint}
use Rattle.format.specs.Blocks.{inode_block, FileType, regular, symbolic_link, other}
use Rattle.extent.specs.Extents.{extent_at, extent_count}
use Rattle.extent.specs.inner.Tests.{some_broken, some_overlap}
use Rattle.block.specs.Fields.{id_at, kind_with, kind_at, fixed_length, field_at, is_regular, type_at, size_at, rest_at, body_length, body_end}
use Rattle.block.specs.Order.{kind_order, block_order}
use Rattle.block.proofs.Ids.{kind_known}
use Rattle.block.proofs.Passed.{ListPassed, RestPassed, kind_passed, BlockPassed, block_numbered, block_passed}
use Rattle.lookup.specs.Lookup.{entry_count, length_of, lengths_wrong, not_file, is_absent, some_absent, open_order, lookup_fault}
use Rattle.lookup.proofs.Deciding.{open_numbered}

-- a sound block that is the inode of a regular file
pub record RegularFile (volume : List ℕ) (offset : ℕ) : Type 0 where
  pub block : BlockPassed volume offset false
  pub kind : kind_at volume offset ≡ inode_block
  pub type : type_at volume offset ≡ regular
  pub own : first_fault (kind_order inode_block volume offset) ≡ 0
  -- it ends, with its CRC, within the volume
  pub whole : body_end inode_block volume offset + 4 ≤ length volume
  -- its n bytes are whole extents; they keep the rules of one extent, no position is kept twice, and there are at most 1,024
  pub entire : body_length inode_block volume offset % 57 ≡ 0
  pub sound : some_broken (rest_at volume offset) ≡ false
  pub apart : some_overlap (rest_at volume offset) ≡ false
  pub few : length (rest_at volume offset) ≤ 58368

-- what a lookup knows that has opened the file
pub record Opened (volume : List ℕ) (offset : ℕ) (lengths : List ℕ) : Type 0 where
  pub lengths_right : lengths_wrong lengths ≡ false
  pub file : RegularFile volume offset

-- what a lookup without a fault knows
pub record Clear (volume : List ℕ) (offset : ℕ) (lengths : List ℕ) : Type 0 where
  pub opening : Opened volume offset lengths
  pub none_absent : some_absent lengths (rest_at volume offset) ≡ false

is_regular_lem : (type : FileType) → is_regular type ≡ true → type ≡ regular
is_regular_lem regular e = refl
is_regular_lem symbolic_link e = absurd (false≢true e)
is_regular_lem other e = absurd (false≢true e)

-- by the ID and the file type
is_file : (volume : List ℕ) (offset : ℕ) → not_file volume offset ≡ false
    → (kind_at volume offset ≡ inode_block) × (type_at volume offset ≡ regular)
unfolding not_file
is_file volume offset n =
    let f = and_true (eqb (id_at volume offset) 1) (is_regular (type_at volume offset)) (not-false _ n) in
    (ap kind_with (eqb-true _ _ f.0) ∙ (kind_known inode_block).0, is_regular_lem (type_at volume offset) f.1)

-- the checks of the block and of its kind and file type tell all of that
regular_file : (volume : List ℕ) (offset : ℕ) → first_fault (block_order volume offset false) ≡ 0 → not_file volume offset ≡ false
    → RegularFile volume offset
unfolding body_length
regular_file volume offset e n =
    let f = is_file volume offset n in
    let p = block_passed volume offset false e in
    let c : first_fault (kind_order inode_block volume offset) ≡ 0 = rw f.0 at p.own in
    let k = kind_passed volume offset inode_block c in
    let few : field_at inode_block "n" volume offset ≤ 58368 = ltb-false _ _ (rw f.1 at k.own.few) in
    let list : ListPassed (rest_at volume offset)
    = subst (λ type. RestPassed type (size_at volume offset) (rest_at volume offset)) f.1 k.own.sound in
    let whole : body_end inode_block volume offset + 4 ≤ length volume = k.whole in
    let long : length (rest_at volume offset) ≡ body_length inode_block volume offset
    = length_part volume (offset + fixed_length inode_block) (body_length inode_block volume offset) (omega arith) in
    record {
      block = p;
      kind = f.0;
      type = f.1;
      own = c;
      whole = whole;
      entire = rw long at list.whole;
      sound = list.sound;
      apart = list.apart;
      few = rw long few;
    }

-- Only here and above are the checks of the opening, of a lookup and of an inode counted.
pub opened : (volume : List ℕ) (offset : ℕ) (lengths : List ℕ) → first_fault (open_order volume offset lengths) ≡ 0
    → Opened volume offset lengths
opened volume offset lengths e =
    let order = open_order volume offset lengths in
    let numbered = open_numbered volume offset lengths in
    let parts = both_clear (block_order volume offset false) _ (block_numbered volume offset false) (rest_clear 1 order numbered e) in
    record {
      lengths_right = passed 0 order numbered e;
      file = regular_file volume offset parts.0 (passed 0 _ tt parts.1);
    }

pub a_lookup_without_a_fault_is_clear : (volume : List ℕ) (offset : ℕ) (lengths : List ℕ) → lookup_fault volume offset lengths ≡ 0
    → Clear volume offset lengths
unfolding lookup_fault
a_lookup_without_a_fault_is_clear volume offset lengths e =
    let parts = both_clear (open_order volume offset lengths) _ (open_numbered volume offset lengths) e in
    record { opening = opened volume offset lengths parts.0; none_absent = passed 0 _ tt parts.1 }

-- the file that such a lookup opens
pub file_of : (volume : List ℕ) (offset : ℕ) (lengths : List ℕ) → 0 ≡ lookup_fault volume offset lengths → RegularFile volume offset
file_of volume offset lengths e = (a_lookup_without_a_fault_is_clear volume offset lengths (sym e)).opening.file

-- no extent of a list is absent
pub each_present : (lengths list : List ℕ) → some_absent lengths list ≡ false
    → (i : ℕ) → i < extent_count list → is_absent lengths (extent_at list i) ≡ false
unfolding some_absent
each_present lengths list h i l = any_false (λ i. is_absent lengths (extent_at list i)) (extent_count list) h i l

-- one that keeps something names an entry, and its place lies within that volume's length
pub present : (lengths : List ℕ) (e : Extent) → is_absent lengths e ≡ false → 0 < kept_length e
    → (e.volume < entry_count lengths) × (e.start.0 + footprint e ≤ length_of lengths e.volume)
unfolding is_absent
present lengths e h k =
    let b = (both_false (leb (entry_count lengths) e.volume) _).0 (rw (lt-ltb 0 (kept_length e) k) at h) in
    (leb-false _ _ b.0, ltb-false _ _ b.1)
