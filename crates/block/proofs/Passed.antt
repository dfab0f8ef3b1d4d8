-- What a block in which no fault is found has passed, by name. The positions of the checks in their tables stand on this page and
-- on no other. Assumes nothing.
use Prim.Native.Nat.{ℕ, ◌+◌, ◌%◌, ◌≤◌, ◌<◌}
use mathlib.Core.Path.{◌≡◌, sym, ap}
use mathlib.Core.Bool.{Bool, false, not}
use mathlib.Core.List.{List, ◌++◌}
use mathlib.Core.Logic.{◌↔◌}
use lib.Dec.{T, ltb}
use lib.ListN.{length, drop}
use borrow.Author.Tests.{ltb-false, leb-false, le-ltb, lt-leb, eqb-true, not-false}
use Rattle.checks.specs.Checks.{Check, first_fault, clear, miss}
use Rattle.checks.proofs.Laws.{decided, rest, numbered, passed}
use Rattle.checks.proofs.Cleared.{rest_clear}
use Rattle.checks.proofs.Tests.{eq_neb}
use Rattle.utf8.specs.Grammar.{WellFormed}
use Rattle.utf8.specs.inner.Length.{is_text}
use Rattle.utf8.proofs.Longest.{text_iff_well_formed}
use Rattle.format.specs.Blocks.{Kind, inode_block, link_block, unlink_block, xattr_block, removed_xattr_block, data_block, rename_block, link_table}
use Rattle.format.specs.Blocks.{FileType, regular, symbolic_link, other}
use Rattle.extent.specs.inner.Tests.{some_broken, some_overlap}
use Rattle.links.proofs.Tables.{LinksPass}
use Rattle.block.specs.Fields.{id_at, kind_at, fixed_length, field_at, body_end, first_part, second_part, bytes_of, type_at, size_at, rest_at}
use Rattle.block.specs.Order.{volume_limit, unknown_id, wrong_place, too_long, checksum_wrong, rest_order, named_order, kind_order, block_order}
use Rattle.block.specs.inner.Parts.{sealed_order, text_order}

pub text : (bytes : List ℕ) → (not (is_text bytes) ≡ false) ↔ WellFormed bytes
text bytes = (λ e. (text_iff_well_formed bytes).0 (not-false _ e), λ w. ap not ((text_iff_well_formed bytes).1 w))

-- An inode's size and n bytes, by file type.

pub record ListPassed (rest : List ℕ) : Type 0 where
  pub whole : length rest % 57 ≡ 0
  pub sound : some_broken rest ≡ false
  pub apart : some_overlap rest ≡ false

abbrev pub RestPassed : FileType → (size : ℕ) (rest : List ℕ) → Type 0
RestPassed regular size rest = ListPassed rest
RestPassed symbolic_link size rest = WellFormed rest × (size ≡ 70 + length rest)
RestPassed other size rest = (length rest ≡ 0) × (size ≡ 70)

pub rest_numbered : (type : FileType) (size : ℕ) (rest : List ℕ) → T (numbered (rest_order type size rest))
rest_numbered regular size rest = tt
rest_numbered symbolic_link size rest = tt
rest_numbered other size rest = tt

pub rest_passed : (type : FileType) (size : ℕ) (bytes : List ℕ) → first_fault (rest_order type size bytes) ≡ 0 → RestPassed type size bytes
rest_passed regular size bytes e =
    let order = rest_order regular size bytes in
    record { whole = eqb-true _ _ (not-false _ (passed 0 order tt e)); sound = passed 1 order tt e; apart = passed 2 order tt e }
rest_passed symbolic_link size bytes e =
    let order = rest_order symbolic_link size bytes in
    ((text bytes).0 (passed 0 order tt e), eqb-true _ _ (not-false _ (passed 1 order tt e)))
rest_passed other size bytes e =
    let order = rest_order other size bytes in
    (eqb-true _ _ (not-false _ (passed 0 order tt e)), eqb-true _ _ (not-false _ (passed 1 order tt e)))

pub passed_rest : (type : FileType) (size : ℕ) (bytes : List ℕ) → RestPassed type size bytes → first_fault (rest_order type size bytes) ≡ 0
passed_rest regular size bytes p =
    sym (decided (miss (eq_neb (length bytes % 57) 0 p.whole) (miss p.sound (miss p.apart clear))))
passed_rest symbolic_link size bytes p =
    sym (decided (miss ((text bytes).1 p.0) (miss (eq_neb size (70 + length bytes) p.1) clear)))
passed_rest other size bytes p =
    sym (decided (miss (eq_neb (length bytes) 0 p.0) (miss (eq_neb size 70 p.1) clear)))

-- A block of a known kind.

pub record InodePassed (type : FileType) (size n : ℕ) (bytes : List ℕ) : Type 0 where
  pub few : too_long type n ≡ false
  pub sound : RestPassed type size bytes

-- the checks that a kind has besides 2, 2 and 5
abbrev pub OwnPassed : Kind → (volume : List ℕ) (offset : ℕ) → Type 0
OwnPassed inode_block volume offset =
    InodePassed (type_at volume offset) (size_at volume offset) (field_at inode_block "n" volume offset) (rest_at volume offset)
OwnPassed link_block volume offset = WellFormed (bytes_of volume (first_part link_block volume offset))
OwnPassed unlink_block volume offset = WellFormed (bytes_of volume (first_part unlink_block volume offset))
OwnPassed xattr_block volume offset = WellFormed (bytes_of volume (first_part xattr_block volume offset))
OwnPassed removed_xattr_block volume offset = WellFormed (bytes_of volume (first_part removed_xattr_block volume offset))
OwnPassed data_block volume offset = Unit {0}
OwnPassed rename_block volume offset =
    WellFormed (bytes_of volume (first_part rename_block volume offset)) × WellFormed (bytes_of volume (second_part rename_block volume offset))
OwnPassed link_table volume offset =
    LinksPass (drop (offset + fixed_length link_table) volume) (field_at link_table "link count" volume offset)

pub record KindPassed (kind : Kind) (volume : List ℕ) (offset : ℕ) : Type 0 where
  pub fixed_fields : offset + fixed_length kind ≤ length volume
  pub whole : body_end kind volume offset + 4 ≤ length volume
  pub sum : checksum_wrong volume offset (body_end kind volume offset) ≡ false
  pub own : OwnPassed kind volume offset

module _ (volume : List ℕ) (offset : ℕ) where
  pub kind_numbered : (kind : Kind) → T (numbered (kind_order kind volume offset))
  kind_numbered inode_block = rest_numbered (type_at volume offset) (size_at volume offset) (rest_at volume offset)
  kind_numbered link_block = tt
  kind_numbered unlink_block = tt
  kind_numbered xattr_block = tt
  kind_numbered removed_xattr_block = tt
  kind_numbered data_block = tt
  kind_numbered rename_block = tt
  kind_numbered link_table = tt

  -- a kind whose own check is that of a name
  named_passed : (kind : Kind) → (WellFormed (bytes_of volume (first_part kind volume offset)) → OwnPassed kind volume offset)
      → first_fault (named_order kind volume offset) ≡ 0 → KindPassed kind volume offset
  named_passed kind own e =
      let order = named_order kind volume offset in
      record {
        fixed_fields = ltb-false _ _ (passed 0 order tt e);
        whole = ltb-false _ _ (passed 1 order tt e);
        sum = passed 2 order tt e;
        own = own ((text (bytes_of volume (first_part kind volume offset))).0 (passed 3 order tt e));
      }

  pub kind_passed : (kind : Kind) → first_fault (kind_order kind volume offset) ≡ 0 → KindPassed kind volume offset
  kind_passed inode_block e =
      let order = kind_order inode_block volume offset in
      let n = kind_numbered inode_block in
      record {
        fixed_fields = ltb-false _ _ (passed 0 order n e);
        whole = ltb-false _ _ (passed 2 order n e);
        sum = passed 3 order n e;
        own = record { few = passed 1 order n e; sound = rest_passed (type_at volume offset) (size_at volume offset) (rest_at volume offset) (rest_clear 4 order n e) };
      }
  kind_passed link_block e = named_passed link_block (λ w. w) e
  kind_passed unlink_block e = named_passed unlink_block (λ w. w) e
  kind_passed xattr_block e = named_passed xattr_block (λ w. w) e
  kind_passed removed_xattr_block e = named_passed removed_xattr_block (λ w. w) e
  kind_passed data_block e =
      let order = kind_order data_block volume offset in
      record {
        fixed_fields = ltb-false _ _ (passed 0 order tt e);
        whole = ltb-false _ _ (passed 1 order tt e);
        sum = passed 2 order tt e;
        own = tt;
      }
  kind_passed rename_block e =
      let order = kind_order rename_block volume offset in
      record {
        fixed_fields = ltb-false _ _ (passed 0 order tt e);
        whole = ltb-false _ _ (passed 1 order tt e);
        sum = passed 2 order tt e;
        own = ((text _).0 (passed 3 order tt e), (text _).0 (passed 4 order tt e));
      }
  kind_passed link_table e =
      let order = kind_order link_table volume offset in
      record {
        fixed_fields = ltb-false _ _ (passed 0 order tt e);
        whole = ltb-false _ _ (passed 2 order tt e);
        sum = passed 3 order tt e;
        own = record { few = ltb-false _ _ (passed 1 order tt e); texts = passed 4 order tt e; once = passed 5 order tt e };
      }

  -- And back.

  fields_there : (kind : Kind) → KindPassed kind volume offset → ltb (length volume) (offset + fixed_length kind) ≡ false
  fields_there kind p = le-ltb (length volume) (offset + fixed_length kind) p.fixed_fields

  rest_there : (kind : Kind) → KindPassed kind volume offset → ltb (length volume) (body_end kind volume offset + 4) ≡ false
  rest_there kind p = le-ltb (length volume) (body_end kind volume offset + 4) p.whole

  passed_named : (kind : Kind) (p : KindPassed kind volume offset) → WellFormed (bytes_of volume (first_part kind volume offset))
      → first_fault (named_order kind volume offset) ≡ 0
  passed_named kind p w =
      sym (decided (miss (fields_there kind p) (miss (rest_there kind p) (miss p.sum (miss ((text _).1 w) clear)))))

  pub passed_kind : (kind : Kind) → KindPassed kind volume offset → first_fault (kind_order kind volume offset) ≡ 0
  passed_kind inode_block p =
      sym (
      decided (
      miss (fields_there inode_block p)
      (miss p.own.few
      (miss (rest_there inode_block p)
      (miss p.sum (rest (sym (passed_rest (type_at volume offset) (size_at volume offset) (rest_at volume offset) p.own.sound))))))
      )
      )
  passed_kind link_block p = passed_named link_block p p.own
  passed_kind unlink_block p = passed_named unlink_block p p.own
  passed_kind xattr_block p = passed_named xattr_block p p.own
  passed_kind removed_xattr_block p = passed_named removed_xattr_block p p.own
  passed_kind data_block p =
      sym (decided (miss (fields_there data_block p) (miss (rest_there data_block p) (miss p.sum clear))))
  passed_kind rename_block p =
      sym (
      decided (
      miss (fields_there rename_block p)
      (miss (rest_there rename_block p) (miss p.sum (miss ((text _).1 p.own.0) (miss ((text _).1 p.own.1) clear))))
      )
      )
  passed_kind link_table p =
      sym (
      decided (
      miss (fields_there link_table p)
      (miss (le-ltb 4096 (field_at link_table "link count" volume offset) p.own.few)
      (miss (rest_there link_table p) (miss p.sum (miss p.own.texts (miss p.own.once clear)))))
      )
      )

-- The block at an offset.

pub record BlockPassed (volume : List ℕ) (offset : ℕ) (due : Bool) : Type 0 where
  pub small : length volume ≤ volume_limit
  pub base : 80 ≤ offset
  pub more : offset < length volume
  pub known : unknown_id (id_at volume offset) ≡ false
  pub place : wrong_place due (id_at volume offset) ≡ false
  pub own : first_fault (kind_order (kind_at volume offset) volume offset) ≡ 0

module _ (volume : List ℕ) (offset : ℕ) (due : Bool) where
  pub block_numbered : T (numbered (block_order volume offset due))
  block_numbered = kind_numbered volume offset (kind_at volume offset)

  pub block_passed : first_fault (block_order volume offset due) ≡ 0 → BlockPassed volume offset due
  block_passed e =
      let order = block_order volume offset due in
      let n = block_numbered in
      record {
        small = ltb-false _ _ (passed 0 order n e);
        base = ltb-false _ _ (passed 1 order n e);
        more = leb-false _ _ (passed 2 order n e);
        known = passed 3 order n e;
        place = passed 4 order n e;
        own = rest_clear 5 order n e;
      }

  pub passed_block : BlockPassed volume offset due → first_fault (block_order volume offset due) ≡ 0
  passed_block p =
      sym (
      decided (
      miss (le-ltb volume_limit (length volume) p.small)
      (miss (le-ltb offset 80 p.base)
      (miss (lt-leb (length volume) offset p.more) (miss p.known (miss p.place (rest (sym p.own))))))
      )
      )

-- The parts of a table that functions answer.

-- where no fault is found in the end of a block and in what comes after it, the block ends within the volume
pub end_whole : (volume : List ℕ) (offset end : ℕ) (others : List Check) → T (numbered others)
    → 0 ≡ first_fault (sealed_order volume offset end ++ others) → end + 4 ≤ length volume
end_whole volume offset end others n e = ltb-false _ _ (passed 0 (sealed_order volume offset end ++ others) n (sym e))

-- the same of a block whose variable parts begin with a text
pub text_whole : (volume : List ℕ) (offset from text len : ℕ) → 0 ≡ first_fault (text_order volume offset from text len)
    → from + len + 4 ≤ length volume
text_whole volume offset from text len e = ltb-false _ _ (passed 1 (text_order volume offset from text len) tt (sym e))

-- Where `decode` is called: no fault is found, and the block is of this kind.

-- the block ends, with its CRC, within the volume
pub block_within : (kind : Kind) (volume : List ℕ) (offset : ℕ) → kind_at volume offset ≡ kind
    → first_fault (kind_order (kind_at volume offset) volume offset) ≡ 0 → body_end kind volume offset + 4 ≤ length volume
block_within kind volume offset k e = (kind_passed volume offset kind (rw k at e)).whole

-- a table has at most 4,096 links
pub few_links : (volume : List ℕ) (offset : ℕ) → kind_at volume offset ≡ link_table
    → first_fault (kind_order (kind_at volume offset) volume offset) ≡ 0 → field_at link_table "link count" volume offset ≤ 4096
few_links volume offset k e = (kind_passed volume offset link_table (rw k at e)).own.few
