-- Where the fields and the variable parts of a block stand, by its kind's layout, and what they hold.
use Rattle.std.specs.Prelude.{ℕ, suc, ◌+◌, Bool, true, false, cond, List, eqb, drop}
use Prim.Native.String.{String}
use Rattle.number.specs.Number.{number_at, part}
use Rattle.format.specs.Layout.{start_of, width_of, total}
use Rattle.format.specs.Blocks.{Kind, inode_block, link_block, unlink_block, xattr_block, removed_xattr_block, data_block, rename_block, link_table, layout, widths, FileType, regular, symbolic_link, other, file_type}
use Rattle.links.specs.Links.{link_start}
use Rattle.block.specs.declared.Part.{Part}

-- the ID of the block at an offset
abbrev pub id_at : (volume : List ℕ) (offset : ℕ) → ℕ
id_at volume offset = number_at volume offset 1

-- the kind with the given ID; IDs that no kind has are refused before it matters
unfoldable pub kind_with : (id : ℕ) → Kind
kind_with id =
    cond (eqb id 1) inode_block
    (cond (eqb id 2) link_block
    (cond (eqb id 3) unlink_block
    (cond (eqb id 4) xattr_block
    (cond (eqb id 5) removed_xattr_block
    (cond (eqb id 6) data_block
    (cond (eqb id 7) rename_block link_table))))))

abbrev pub kind_at : (volume : List ℕ) (offset : ℕ) → Kind
kind_at volume offset = kind_with (id_at volume offset)

-- how many bytes stand before the first variable part: the ID and the fixed fields
abbrev pub fixed_length : Kind → ℕ
fixed_length kind = suc (total (widths kind))

-- a fixed field, by its name in the layout
abbrev pub field_at : Kind → (name : String) (volume : List ℕ) (offset : ℕ) → ℕ
field_at kind name volume offset =
    number_at volume (offset + suc (start_of name (layout kind))) (width_of name (layout kind))

-- how many bytes the variable parts take
unfoldable pub body_length : Kind → (volume : List ℕ) (offset : ℕ) → ℕ
body_length inode_block volume offset = field_at inode_block "n" volume offset
body_length link_block volume offset = field_at link_block "n" volume offset
body_length unlink_block volume offset = field_at unlink_block "n" volume offset
body_length xattr_block volume offset = field_at xattr_block "n" volume offset + field_at xattr_block "m" volume offset
body_length removed_xattr_block volume offset = field_at removed_xattr_block "n" volume offset
body_length data_block volume offset = field_at data_block "n" volume offset
body_length rename_block volume offset = field_at rename_block "n" volume offset + field_at rename_block "m" volume offset
body_length link_table volume offset =
    link_start (drop (offset + fixed_length link_table) volume) (field_at link_table "link count" volume offset)

-- where the variable parts end and the CRC begins
abbrev pub body_end : Kind → (volume : List ℕ) (offset : ℕ) → ℕ
body_end kind volume offset = offset + fixed_length kind + body_length kind volume offset

-- the first variable part, of n bytes, and the second, of m bytes
abbrev pub first_part : Kind → (volume : List ℕ) (offset : ℕ) → Part
first_part kind volume offset = record { offset = offset + fixed_length kind; len = field_at kind "n" volume offset }

abbrev pub second_part : Kind → (volume : List ℕ) (offset : ℕ) → Part
second_part kind volume offset =
    record { offset = offset + fixed_length kind + field_at kind "n" volume offset; len = field_at kind "m" volume offset }

-- the bytes of a part
abbrev pub bytes_of : (volume : List ℕ) → Part → List ℕ
bytes_of volume p = part volume p.offset p.len

abbrev pub is_regular : FileType → Bool
is_regular regular = true
is_regular symbolic_link = false
is_regular other = false

-- an inode's file type, size and n bytes
abbrev pub type_at : (volume : List ℕ) (offset : ℕ) → FileType
type_at volume offset = file_type (field_at inode_block "mode" volume offset)

abbrev pub size_at : (volume : List ℕ) (offset : ℕ) → ℕ
size_at volume offset = field_at inode_block "size" volume offset

abbrev pub rest_at : (volume : List ℕ) (offset : ℕ) → List ℕ
rest_at volume offset = bytes_of volume (first_part inode_block volume offset)
