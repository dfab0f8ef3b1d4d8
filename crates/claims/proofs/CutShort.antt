-- A block that was read is refused with 2 once its end is cut off: its fixed fields are cut, or they are as they were, so that they say
-- how long it is, and the rest is cut. Assumes nothing.
use Rattle.std.specs.Prelude.{Err}
use Prim.Native.Nat.{ℕ, suc, ◌+◌, ◌≤◌, ◌<◌}
use Prim.Native.String.{String}
use mathlib.Core.Path.{◌≡◌, refl, sym, ap, ap₂, ◌∙◌}
use mathlib.Core.Bool.{Bool, true, false, false≢true}
use mathlib.Core.List.{List, ◌∷◌, ◌++◌}
use native.Mathlib.Omega.{arith}
use lib.Dec.{eqb}
use lib.ListN.{length, length-append}
use borrow.Author.Tests.{ltb-false, lt-ltb, le-ltb, lt-leb, eq-eqb}
use Rattle.number.specs.Number.{le}
use Rattle.number.proofs.Parts.{part-append}
use Rattle.checks.specs.Checks.{Check, check, first_fault, hit, miss}
use Rattle.checks.proofs.Laws.{decided, rest, stopped}
use Rattle.refusal.specs.Refusal.{refusal_of, refusal_with}
use Rattle.format.specs.Layout.{start_of, width_of, total}
use Rattle.format.specs.Blocks.{Kind, inode_block, link_block, unlink_block, xattr_block, removed_xattr_block, data_block, rename_block, link_table, layout, widths, id_of}
use Rattle.block.specs.Fields.{id_at, kind_at, fixed_length, field_at, body_length, body_end, type_at}
use Rattle.block.specs.Order.{volume_limit, unknown_id, wrong_place, fixed_fields_cut, too_long, rest_cut, kind_order, block_order}
use Rattle.block.proofs.Ids.{id_known}
use Rattle.block.proofs.Passed.{kind_passed, block_numbered}
use Rattle.volume.specs.Reading.{read_fault, next_mark, read_answer}
use Rattle.volume.specs.declared.Bookmark.{Bookmark}
use Rattle.volume.specs.Answers.{ReadAnswer}
use Rattle.volume.proofs.Passed.{ReadPassed, read_passed}
use Rattle.volume.proofs.Steps.{Answers, ends, finds, refuses, answers, end_read}
use Rattle.volume.proofs.OneCall.{right_place, end_sound}

-- what is left, and what was cut off
module _ (left off : List ℕ) where
  abbrev whole : List ℕ
  whole = left ++ off

  module _ (offset : ℕ) where
    -- a fixed field that lies in what is left is read as it was
    field_left : (kind : Kind) (name : String) → start_of name (layout kind) + width_of name (layout kind) ≤ total (widths kind)
        → offset + fixed_length kind ≤ length left → field_at kind name left offset ≡ field_at kind name whole offset
    field_left kind name inside h =
        sym (ap le (part-append left off (offset + suc (start_of name (layout kind))) (width_of name (layout kind)) (omega arith)))

    -- so the block says as before how long it is
    same_length : (kind : Kind) → (kind ≡ link_table → ⊥) → offset + fixed_length kind ≤ length left
        → body_length kind left offset ≡ body_length kind whole offset
    unfolding body_length
    same_length inode_block n h = field_left inode_block "n" (omega arith) h
    same_length link_block n h = field_left link_block "n" (omega arith) h
    same_length unlink_block n h = field_left unlink_block "n" (omega arith) h
    same_length xattr_block n h = ap₂ ◌+◌ (field_left xattr_block "n" (omega arith) h) (field_left xattr_block "m" (omega arith) h)
    same_length removed_xattr_block n h = field_left removed_xattr_block "n" (omega arith) h
    same_length data_block n h = field_left data_block "n" (omega arith) h
    same_length rename_block n h = ap₂ ◌+◌ (field_left rename_block "n" (omega arith) h) (field_left rename_block "m" (omega arith) h)
    same_length link_table n h = absurd (n refl)

    -- and ends behind what is left
    rest_cut_lem : (kind : Kind) → (kind ≡ link_table → ⊥) → offset + fixed_length kind ≤ length left
        → length left < body_end kind whole offset + 4 → rest_cut left (body_end kind left offset) ≡ true
    rest_cut_lem kind n h short =
        let same = same_length kind n h in
        lt-ltb (length left) (body_end kind left offset + 4) (omega arith)

    -- where a kind has no check between the two of 2
    two_checks : (kind : Kind) (others : List Check) → (kind ≡ link_table → ⊥) → length left < body_end kind whole offset + 4
        → 2 ≡ first_fault (check (fixed_fields_cut kind left offset) 2 ∷ check (rest_cut left (body_end kind left offset)) 2 ∷ others)
    two_checks kind others n short = go (fixed_fields_cut kind left offset) refl
      where
        go : (cut : Bool) → fixed_fields_cut kind left offset ≡ cut
            → 2 ≡ first_fault (check (fixed_fields_cut kind left offset) 2 ∷ check (rest_cut left (body_end kind left offset)) 2 ∷ others)
        go true e = decided (hit e)
        go false e = decided (miss e (hit (rest_cut_lem kind n (ltb-false _ _ e) short)))

    -- between those of an inode there is one, which its fields pass as before
    inode_checks : (inode_block ≡ link_table → ⊥) → too_long (type_at whole offset) (field_at inode_block "n" whole offset) ≡ false
        → length left < body_end inode_block whole offset + 4 → 2 ≡ first_fault (kind_order inode_block left offset)
    inode_checks no_table few short = go (fixed_fields_cut inode_block left offset) refl
      where
        go : (cut : Bool) → fixed_fields_cut inode_block left offset ≡ cut → 2 ≡ first_fault (kind_order inode_block left offset)
        go true e = decided (hit e)
        go false e =
            let h : offset + fixed_length inode_block ≤ length left = ltb-false _ _ e in
            let mode = field_left inode_block "mode" (omega arith) h in
            let n = field_left inode_block "n" (omega arith) h in
            let few_left : too_long (type_at left offset) (field_at inode_block "n" left offset) ≡ false = rw (mode, n) few in
            decided (miss e (miss few_left (hit (rest_cut_lem inode_block no_table h short))))

    kind_cut : (kind : Kind) → (kind ≡ link_table → ⊥) → first_fault (kind_order kind whole offset) ≡ 0
        → length left < body_end kind whole offset + 4 → 2 ≡ first_fault (kind_order kind left offset)
    kind_cut inode_block n e short = inode_checks n (kind_passed whole offset inode_block e).own.few short
    kind_cut link_block n e short = two_checks link_block _ n short
    kind_cut unlink_block n e short = two_checks unlink_block _ n short
    kind_cut xattr_block n e short = two_checks xattr_block _ n short
    kind_cut removed_xattr_block n e short = two_checks removed_xattr_block _ n short
    kind_cut data_block n e short = two_checks data_block _ n short
    kind_cut rename_block n e short = two_checks rename_block _ n short
    kind_cut link_table n e short = absurd (n refl)

-- a block that is read in the whole at a bookmark where no table is due, and that begins in what is left but ends behind it
module _ (left off : List ℕ) (mark : Bookmark) (sound : read_fault (left ++ off) mark ≡ 0) (no_table : mark.due ≡ false)
    (begins : mark.offset < length left) (short : length left < (next_mark (left ++ off) mark).offset) where
  passed : ReadPassed (left ++ off) mark
  passed = read_passed (left ++ off) mark sound

  same_id : id_at left mark.offset ≡ id_at (left ++ off) mark.offset
  same_id = sym (ap le (part-append left off mark.offset 1 (omega arith)))

  another_kind : kind_at (left ++ off) mark.offset ≡ link_table → ⊥
  another_kind e =
      let id : id_at (left ++ off) mark.offset ≡ 8
      = sym (id_known (id_at (left ++ off) mark.offset) passed.block.known) ∙ ap id_of e in
      let due : mark.due ≡ eqb (id_at (left ++ off) mark.offset) 8 = right_place mark.due _ passed.block.place in
      false≢true (sym no_table ∙ due ∙ eq-eqb (id_at (left ++ off) mark.offset) 8 id)

  own_fault : 2 ≡ first_fault (kind_order (kind_at left mark.offset) left mark.offset)
  own_fault =
      rw (same_id)
      (kind_cut left off mark.offset (kind_at (left ++ off) mark.offset) another_kind passed.block.own short)

  cut_fault : 2 ≡ read_fault left mark
  unfolding read_fault
  cut_fault =
      let offset : ℕ = mark.offset in
      let small = passed.block.small in
      let l = length-append left off in
      let known : unknown_id (id_at left offset) ≡ false = rw same_id passed.block.known in
      let place : wrong_place mark.due (id_at left offset) ≡ false = rw same_id passed.block.place in
      stopped (block_order left offset mark.due) _ (block_numbered left offset mark.due)
      (decided (
      miss (le-ltb volume_limit (length left) (omega arith))
      (miss (le-ltb offset 80 passed.block.base)
      (miss (lt-leb (length left) offset begins)
      (miss known
      (miss place
      (rest own_fault)))))
      ))
      (λ z. omega arith)

  pub cut_refused : read_answer left mark ≡ Err (refusal_of 2)
  unfolding refusal_with
  cut_refused = go (answers left mark)
    where
      go : {a : ReadAnswer} → Answers left mark a → a ≡ Err (refusal_of 2)
      go (ends p) = let at = (end_sound left mark (sym (end_read left mark p))).offset in absurd (omega arith)
      go (finds p f) = let fault = cut_fault in absurd (omega arith)
      go (refuses p f) = rw (← cut_fault)
