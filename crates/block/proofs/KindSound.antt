-- What each kind supplies in reading: the block shown has the fields and variable parts that stand there, and where its checks
-- find no fault it keeps the kind's rules. Assumes nothing.
use Prim.Native.Nat.{ℕ, ◌+◌, ◌≤◌}
use mathlib.Core.Path.{◌≡◌, refl, sym}
use mathlib.Core.List.{List, ◌++◌}
use native.Mathlib.Omega.{arith}
use lib.ListN.{length, drop, length-drop}
use borrow.Author.Tests.{ltb-false}
use Rattle.number.specs.Number.{Bytes, part}
use Rattle.number.proofs.Digits.{bytes_drop}
use Rattle.number.proofs.Parts.{length_part, bytes_part, part_add}
use Rattle.format.specs.Blocks.{Kind, inode_block, link_block, unlink_block, xattr_block, removed_xattr_block, data_block, rename_block, link_table}
use Rattle.format.specs.Blocks.{Block, kind_of, fields, body, FileType, regular, symbolic_link, other, InodeRules, KindRules}
use Rattle.extent.proofs.ListRules as extents
use Rattle.links.specs.Links.{link_start}
use Rattle.links.proofs.Tables.{links_sound}
use Rattle.block.specs.Fields.{fixed_length, field_at, body_length, body_end, type_at, size_at, rest_at}
use Rattle.block.specs.inner.Decoded.{block_of}
use Rattle.block.specs.Shown.{shown}
use Rattle.block.proofs.Passed.{InodePassed, OwnPassed}
use Rattle.block.proofs.Standing.{fields_at, body_at}

pub record Shows (kind : Kind) (volume : List ℕ) (offset : ℕ) (block : Block) : Type 0 where
  pub same_kind : kind_of block ≡ kind
  pub same_fields : fields block ≡ fields_at kind volume offset
  pub same_body : body block ≡ body_at kind volume offset

-- two variable parts in a row that end within the volume
two_parts : (volume : List ℕ) (start m n : ℕ) → start + (m + n) ≤ length volume
    → (length (part volume start m) ≡ m)
    × (length (part volume (start + m) n) ≡ n)
    × (part volume start m ++ part volume (start + m) n ≡ part volume start (m + n))
two_parts volume start m n h =
    (length_part volume start m (omega arith), length_part volume (start + m) n (omega arith), sym (part_add volume start m n))

-- the links of a table that end within the volume
links_within : (volume : List ℕ) (offset : ℕ) → body_end link_table volume offset ≤ length volume
    → link_start (drop (offset + fixed_length link_table) volume) (field_at link_table "link count" volume offset)
    ≤ length (drop (offset + fixed_length link_table) volume)
unfolding body_length
links_within volume offset h = omega (arith, length-drop (offset + fixed_length link_table) volume)

pub shows : (kind : Kind) (volume : List ℕ) (offset : ℕ) → body_end kind volume offset ≤ length volume
    → Shows kind volume offset (shown volume (block_of kind volume offset))
unfolding shown block_of body_length
shows inode_block volume offset h =
    let e = length_part volume (offset + fixed_length inode_block) (field_at inode_block "n" volume offset) h in
    record { same_kind = refl; same_fields = rw e; same_body = refl }
shows link_block volume offset h =
    let e = length_part volume (offset + fixed_length link_block) (field_at link_block "n" volume offset) h in
    record { same_kind = refl; same_fields = rw e; same_body = refl }
shows unlink_block volume offset h =
    let e = length_part volume (offset + fixed_length unlink_block) (field_at unlink_block "n" volume offset) h in
    record { same_kind = refl; same_fields = rw e; same_body = refl }
shows xattr_block volume offset h =
    let n : ℕ = field_at xattr_block "n" volume offset in
    let e = two_parts volume (offset + fixed_length xattr_block) n (field_at xattr_block "m" volume offset) h in
    record { same_kind = refl; same_fields = rw (e.0, e.1); same_body = e.2 }
shows removed_xattr_block volume offset h =
    let e = length_part volume (offset + fixed_length removed_xattr_block) (field_at removed_xattr_block "n" volume offset) h in
    record { same_kind = refl; same_fields = rw e; same_body = refl }
shows data_block volume offset h =
    let e = length_part volume (offset + fixed_length data_block) (field_at data_block "n" volume offset) h in
    record { same_kind = refl; same_fields = rw e; same_body = refl }
shows rename_block volume offset h =
    let n : ℕ = field_at rename_block "n" volume offset in
    let e = two_parts volume (offset + fixed_length rename_block) n (field_at rename_block "m" volume offset) h in
    record { same_kind = refl; same_fields = rw (e.0, e.1); same_body = e.2 }
shows link_table volume offset h = record { same_kind = refl; same_fields = refl; same_body = refl }

-- an inode, by file type
pub inode_rules : (type : FileType) (size : ℕ) (rest : List ℕ) → Bytes rest → InodePassed type size (length rest) rest
    → InodeRules type size rest
inode_rules regular size rest b p =
    extents.list_sound rest b
    (record {
      few = ltb-false _ _ p.few;
      whole = p.sound.whole;
      sound = p.sound.sound;
      apart = p.sound.apart;
    })
inode_rules symbolic_link size rest b p = p.sound
inode_rules other size rest b p = p.sound

pub kind_rules : (kind : Kind) (volume : List ℕ) (offset : ℕ) → Bytes volume → body_end kind volume offset ≤ length volume
    → OwnPassed kind volume offset → KindRules (shown volume (block_of kind volume offset))
unfolding shown block_of body_length
kind_rules inode_block volume offset b h p =
    let start : ℕ = offset + fixed_length inode_block in
    let n : ℕ = field_at inode_block "n" volume offset in
    inode_rules (type_at volume offset) (size_at volume offset) (rest_at volume offset) (bytes_part volume start n b)
    (rw (length_part volume start n h) p)
kind_rules link_block volume offset b h p = p
kind_rules unlink_block volume offset b h p = p
kind_rules xattr_block volume offset b h p = p
kind_rules removed_xattr_block volume offset b h p = p
kind_rules data_block volume offset b h p = tt
kind_rules rename_block volume offset b h p = p
kind_rules link_table volume offset b h p =
    let start : ℕ = offset + fixed_length link_table in
    links_sound (drop start volume) (bytes_drop start volume b) (field_at link_table "link count" volume offset)
    (links_within volume offset h) p
