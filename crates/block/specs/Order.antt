-- The checks of a block, in their order, up to the time: what a block at an offset is refused for. The whole order is
-- 1, 8 (below 80), 2 (offset or nothing left), 7, 8, 2 (fixed fields), 9, 2 (rest), 5, 10, 11, 12, 13;
-- each kind has those of its checks that can find a fault.
use Rattle.std.specs.Prelude.{ℕ, ◌+◌, ◌-◌, ◌%◌, Bool, not, ◌&&◌, ◌||◌, List, [], ◌∷◌, leb, ltb, eqb, length, drop}
use Rattle.std.specs.Bool.{beq}
use Rattle.number.specs.Number.{number_at, part}
use Rattle.checks.specs.Checks.{Check, check}
use Rattle.crc32.specs.Crc.{crc}
use Rattle.utf8.specs.inner.Length.{is_text}
use Rattle.format.specs.Blocks.{Kind, inode_block, link_block, unlink_block, xattr_block, removed_xattr_block, data_block, rename_block, link_table, FileType, regular, symbolic_link, other}
use Rattle.extent.specs.inner.Tests.{some_broken, some_overlap}
use Rattle.links.specs.inner.Tests.{some_name_not_text, some_link_twice}
use Rattle.block.specs.Fields.{id_at, kind_at, fixed_length, field_at, body_end, first_part, second_part, bytes_of, is_regular, type_at, size_at, rest_at}
use Rattle.block.specs.declared.Part.{Part}

-- the most bytes that a volume may have
abbrev pub volume_limit : ℕ
volume_limit = 16777216

-- 7: an ID that no kind has
abbrev pub unknown_id : (id : ℕ) → Bool
unknown_id id = eqb id 0 || ltb 8 id

-- 8: a table is due and another block is met, or a table is met and not due
abbrev pub wrong_place : (due : Bool) (id : ℕ) → Bool
wrong_place due id = not (beq due (eqb id 8))

-- 2 (fixed fields): the bytes end within them
abbrev pub fixed_fields_cut : Kind → (volume : List ℕ) (offset : ℕ) → Bool
fixed_fields_cut kind volume offset = ltb (length volume) (offset + fixed_length kind)

-- 9: n of a regular file above that of 1,024 extents; other files have no such limit
abbrev pub too_long : FileType → (n : ℕ) → Bool
too_long type n = is_regular type && ltb 58368 n

-- 2 (rest): the bytes end within the variable parts or the CRC, which begins at `end`
abbrev pub rest_cut : (volume : List ℕ) (end : ℕ) → Bool
rest_cut volume end = ltb (length volume) (end + 4)

-- 5: the four bytes at `end` are not the CRC of all earlier bytes of the block
unfoldable pub checksum_wrong : (volume : List ℕ) (offset end : ℕ) → Bool
checksum_wrong volume offset end = not (eqb (number_at volume end 4) (crc (part volume offset (end - offset))))

-- 10: a name or a path is no text
abbrev pub not_text : (volume : List ℕ) → Part → Bool
not_text volume p = not (is_text (bytes_of volume p))

-- an inode's size and n bytes, by file type: 10, 11, 12; each rule of 11 has a line of its own
abbrev pub rest_order : FileType → (size : ℕ) (rest : List ℕ) → List Check
rest_order regular size rest =
    check (not (eqb (length rest % 57) 0)) 11
    ∷ check (some_broken rest) 11
    ∷ check (some_overlap rest) 12
    ∷ []
rest_order symbolic_link size rest = check (not (is_text rest)) 10 ∷ check (not (eqb size (70 + length rest))) 11 ∷ []
rest_order other size rest = check (not (eqb (length rest) 0)) 11 ∷ check (not (eqb size 70)) 11 ∷ []

-- a block whose variable parts begin with a name: 2 (fixed fields), 2 (rest), 5, 10
abbrev pub named_order : Kind → (volume : List ℕ) (offset : ℕ) → List Check
named_order kind volume offset =
    check (fixed_fields_cut kind volume offset) 2
    ∷ check (rest_cut volume (body_end kind volume offset)) 2
    ∷ check (checksum_wrong volume offset (body_end kind volume offset)) 5
    ∷ check (not_text volume (first_part kind volume offset)) 10
    ∷ []

-- the checks of a block of a known kind: 2 (fixed fields), 9, 2 (rest), 5, 10, 11, 12, 13
abbrev pub kind_order : Kind → (volume : List ℕ) (offset : ℕ) → List Check
kind_order inode_block volume offset =
    check (fixed_fields_cut inode_block volume offset) 2
    ∷ check (too_long (type_at volume offset) (field_at inode_block "n" volume offset)) 9
    ∷ check (rest_cut volume (body_end inode_block volume offset)) 2
    ∷ check (checksum_wrong volume offset (body_end inode_block volume offset)) 5
    ∷ rest_order (type_at volume offset) (size_at volume offset) (rest_at volume offset)
kind_order link_block volume offset = named_order link_block volume offset
kind_order unlink_block volume offset = named_order unlink_block volume offset
kind_order xattr_block volume offset = named_order xattr_block volume offset
kind_order removed_xattr_block volume offset = named_order removed_xattr_block volume offset
kind_order data_block volume offset =
    check (fixed_fields_cut data_block volume offset) 2
    ∷ check (rest_cut volume (body_end data_block volume offset)) 2
    ∷ check (checksum_wrong volume offset (body_end data_block volume offset)) 5
    ∷ []
kind_order rename_block volume offset =
    check (fixed_fields_cut rename_block volume offset) 2
    ∷ check (rest_cut volume (body_end rename_block volume offset)) 2
    ∷ check (checksum_wrong volume offset (body_end rename_block volume offset)) 5
    ∷ check (not_text volume (first_part rename_block volume offset)) 10
    ∷ check (not_text volume (second_part rename_block volume offset)) 10
    ∷ []
kind_order link_table volume offset =
    let links : List ℕ = drop (offset + fixed_length link_table) volume in
    let count : ℕ = field_at link_table "link count" volume offset in
    check (fixed_fields_cut link_table volume offset) 2
    ∷ check (ltb 4096 count) 9
    ∷ check (rest_cut volume (body_end link_table volume offset)) 2
    ∷ check (checksum_wrong volume offset (body_end link_table volume offset)) 5
    ∷ check (some_name_not_text links count) 10
    ∷ check (some_link_twice links count) 13
    ∷ []

-- the checks of a block: 1, 8 (below 80), 2 (offset beyond the end or nothing left), 7, 8, and those of its kind
abbrev pub block_order : (volume : List ℕ) (offset : ℕ) (due : Bool) → List Check
block_order volume offset due =
    check (ltb volume_limit (length volume)) 1
    ∷ check (ltb offset 80) 8
    ∷ check (leb (length volume) offset) 2
    ∷ check (unknown_id (id_at volume offset)) 7
    ∷ check (wrong_place due (id_at volume offset)) 8
    ∷ kind_order (kind_at volume offset) volume offset
