-- What a lookup that is not refused knows of its file, and the other way. Each check has passed exactly if a regular file's inode
-- block stands there by the format and its extents that keep something lie within the volumes that they name. Assumes nothing.
use Prim.Native.Nat.{ℕ, ◌+◌, ◌*◌, ◌%◌, ◌≤◌, ◌<◌}
use mathlib.Core.Path.{◌≡◌, refl, sym, ap, ◌∙◌}
use mathlib.Core.Bool.{false, not, and-false, ◌&&◌}
use mathlib.Core.List.{List, ◌++◌}
use mathlib.Mathlib.Data.Bool.Basic.{or-eq-false-eq-eq-false-and-eq-false as both_false}
use native.Mathlib.Omega.{arith}
use lib.Dec.{eqb}
use lib.ListN.{length, drop, get_or, length-append, length-drop}
use borrow.Author.Tests.{ltb-false, eqb-true, not-false, le-ltb, lt-leb, eq-eqb}
use Rattle.number.specs.Number.{Bytes, part}
use Rattle.number.proofs.Digits.{bytes_drop}
use Rattle.number.proofs.Parts.{length_part, bytes_part, part_stands}
use Rattle.checks.specs.Checks.{first_fault, clear, miss}
use Rattle.checks.proofs.Laws.{decided, rest, none-append}
use Rattle.checks.proofs.Scan.{any_nowhere}
use Rattle.order.proofs.Cases.{cases}
use Rattle.format.specs.declared.Extent.{Extent}
use Rattle.format.specs.Layout.{laid}
use Rattle.format.specs.Extents.{extent_widths, extent_fields, kept_length, footprint}
use Rattle.format.specs.Blocks.{InodeFields, Block, Inode, inode_block, id_of, fields, image, regular, file_type}
use Rattle.format.proofs.Fields.{laid_values}
use Rattle.extent.specs.Extents.{extent_at}
use Rattle.extent.proofs.Sound.{each_sound, sound_rules}
use Rattle.extent.proofs.ListRules.{fields_stand, fields_fit}
use Rattle.block.specs.Fields.{id_at, kind_with, kind_at, fixed_length, field_at, body_length, is_regular, type_at, size_at, rest_at}
use Rattle.block.specs.Order.{unknown_id, wrong_place, kind_order, block_order}
use Rattle.block.specs.inner.Decoded.{block_of}
use Rattle.block.specs.Shown.{shown}
use Rattle.format.proofs.Images.{length-image}
use Rattle.block.proofs.Ids.{id_known, kind_known}
use Rattle.block.proofs.Passed.{block_numbered, passed_block}
use Rattle.block.proofs.BlockImage.{Stands, block_sound, Reads, block_complete}
use Rattle.lookup.specs.Lookup.{entry_count, length_of, lengths_wrong, not_file, is_absent, some_absent, open_order, extents_order, lookup_fault}
use Rattle.lookup.proofs.Deciding.{open_numbered}
use Rattle.lookup.proofs.Clear.{RegularFile, Clear, each_present, present}
use Rattle.lookup.proofs.Stray.{none_stray}
use Rattle.claims.specs.Demand2.{extents_in, extent_of, IsFile, IsThere, AllIsThere}

-- an extent is not absent if it keeps nothing or is there
not_absent : (lengths : List ℕ) (e : Extent) → (0 < kept_length e → IsThere lengths e) → is_absent lengths e ≡ false
unfolding is_absent
not_absent lengths e there =
    cases 0 (kept_length e)
    (λ some.
    let t = there some in
    rw (lt-leb (entry_count lengths) e.volume t.0, le-ltb (length_of lengths e.volume) (e.start.0 + footprint e) t.1, and-false))
    (λ none. rw (le-ltb 0 (kept_length e) none))

-- the 57 bytes of an extent are its fields, laid out
extent_stands : (list : List ℕ) (index : ℕ) → Bytes list → 57 * index + 57 ≤ length list
    → part list (57 * index) 57 ≡ laid extent_widths (extent_fields (extent_at list index))
extent_stands list index b h =
    let long : 57 ≤ length (drop (57 * index) list) = omega (arith, length-drop (57 * index) list) in
    rw (fields_stand list index) (sym (laid_values extent_widths (drop (57 * index) list) (bytes_drop (57 * index) list b) long))

module _ (volume : List ℕ) (offset : ℕ) (b : Bytes volume) (p : RegularFile volume offset) where
  abbrev list : List ℕ
  list = rest_at volume offset

  list_whole : length list ≡ 57 * extents_in volume offset
  unfolding body_length
  list_whole =
      let n : ℕ = body_length inode_block volume offset in
      let within = p.whole in
      let l : length list ≡ n = length_part volume (offset + fixed_length inode_block) n (omega arith) in
      omega (arith, p.entire)

  -- the inode that is read there
  abbrev inode_at : InodeFields
  inode_at =
      record {
        inode = field_at inode_block "inode" volume offset;
        time = field_at inode_block "time" volume offset;
        mode = field_at inode_block "mode" volume offset;
        uid = field_at inode_block "uid" volume offset;
        gid = field_at inode_block "gid" volume offset;
        atime = field_at inode_block "atime" volume offset;
        mtime = field_at inode_block "mtime" volume offset;
        ctime = field_at inode_block "ctime" volume offset;
        btime = field_at inode_block "btime" volume offset;
        size = size_at volume offset;
        rest = rest_at volume offset;
      }

  pub file_stands : IsFile volume offset
  unfolding shown block_of body_length
  file_stands =
      let id : id_at volume offset ≡ id_of inode_block = sym (id_known (id_at volume offset) p.block.known) ∙ ap id_of p.kind in
      let s : Stands inode_block volume offset (shown volume (block_of inode_block volume offset))
      = block_sound inode_block volume offset b id p.own in
      let bytes : Bytes list = bytes_part volume (offset + fixed_length inode_block) (body_length inode_block volume offset) b in
      record {
        inode = inode_at;
        keeps = s.keeps;
        stands = s.same;
        type = p.type;
        size = refl;
        list = refl;
        whole = list_whole;
        each = λ index h. extent_stands list index bytes (omega (arith, list_whole));
        rules = λ index h. sound_rules (extent_at list index) (each_sound list p.sound index h) (fields_fit list bytes index);
      }

-- an extent that keeps something is there
module _ (volume : List ℕ) (offset : ℕ) (lengths : List ℕ) (p : Clear volume offset lengths) where
  pub is_there : (index : ℕ) → index < extents_in volume offset → 0 < kept_length (extent_of volume offset index)
      → IsThere lengths (extent_of volume offset index)
  is_there index h =
      present lengths (extent_of volume offset index) (each_present lengths (rest_at volume offset) p.none_absent index h)

pub all_is_there : (volume : List ℕ) (offset : ℕ) (lengths : List ℕ) → Bytes volume → Clear volume offset lengths
    → AllIsThere volume offset lengths
unfolding lengths_wrong
all_is_there volume offset lengths b p =
    let e = (both_false (not (eqb (length lengths % 8) 0)) _).0 p.opening.lengths_right in
    record {
      whole_entries = eqb-true _ _ (not-false _ e.0);
      few_entries = ltb-false _ _ e.1;
      small = p.opening.file.block.small;
      after_the_header = p.opening.file.block.base;
      file = file_stands volume offset b p.opening.file;
      there = is_there volume offset lengths p;
    }

-- The other way: where a regular file's inode block stands and its extents are there, no check is at fault.
module _ (volume : List ℕ) (offset : ℕ) (lengths : List ℕ) (m : AllIsThere volume offset lengths) where
  abbrev block : Block
  block = Inode m.file.inode

  image_stands : drop offset volume ≡ image block ++ drop (offset + length (image block)) volume
  image_stands = part_stands volume (image block) offset (length (image block)) m.file.stands

  reads : Reads volume offset block
  reads = block_complete block volume offset (drop (offset + length (image block)) volume) m.file.keeps image_stands

  more : offset < length volume
  more =
      let after : List ℕ = drop (offset + length (image block)) volume in
      let l = sym (length-drop offset volume) ∙ ap length image_stands ∙ length-append (image block) after in
      omega (arith, l, length-image block)

  kind_is : kind_at volume offset ≡ inode_block
  kind_is = ap kind_with reads.id ∙ (kind_known inode_block).0

  type_is : type_at volume offset ≡ regular
  unfolding shown block_of
  type_is =
      ap (λ b. file_type (get_or (fields b) 2 0)) reads.same ∙ m.file.type

  entries_right : lengths_wrong lengths ≡ false
  unfolding lengths_wrong
  entries_right = rw (eq-eqb (length lengths % 8) 0 m.whole_entries, le-ltb 4096 (entry_count lengths) m.few_entries)

  extents_clear : first_fault (extents_order lengths (rest_at volume offset)) ≡ 0
  unfolding some_absent
  extents_clear =
      sym (
      decided (
      miss (any_nowhere _ (extents_in volume offset) (λ i h. not_absent lengths (extent_of volume offset i) (m.there i h)))
      (miss (none_stray (rest_at volume offset)) clear)
      )
      )

  pub no_fault : lookup_fault volume offset lengths ≡ 0
  unfolding lookup_fault not_file
  no_fault =
      let id : id_at volume offset ≡ 1 = reads.id in
      let known : unknown_id (id_at volume offset) ≡ false = rw id in
      let place : wrong_place false (id_at volume offset) ≡ false = rw id in
      let own : first_fault (kind_order (kind_at volume offset) volume offset) ≡ 0 = rw kind_is reads.no_fault in
      let file : not (eqb (id_at volume offset) 1 && is_regular (type_at volume offset)) ≡ false = rw (id, type_is) in
      let block_clear : first_fault (block_order volume offset false) ≡ 0
      = passed_block volume offset false
      (record { small = m.small; base = m.after_the_header; more = more; known = known; place = place; own = own }) in
      let opening : first_fault (open_order volume offset lengths) ≡ 0
      = sym (decided (miss entries_right (rest (sym (none-append (block_order volume offset false) _ (block_numbered volume offset false)
      block_clear (sym (decided (miss file clear)))))))) in
      none-append (open_order volume offset lengths) _ (open_numbered volume offset lengths) opening extents_clear
