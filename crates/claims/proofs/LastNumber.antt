-- At the last number reading is refused after every other check, and an append right after 8. Assumes nothing.
use Rattle.std.specs.Prelude.{Some, None, Ok, Err}
use Prim.Native.Nat.{ℕ, ◌<◌}
use mathlib.Core.Path.{◌≡◌, refl, sym, ap, ◌∙◌, subst}
use mathlib.Core.Bool.{Bool, true, false, not, cond, beq}
use mathlib.Core.List.{List}
use native.Mathlib.Nat.{suc-ne-zero}
use native.Mathlib.Omega.{arith}
use lib.Dec.{ltb, eqb}
use lib.ListN.{length}
use borrow.Author.Tests.{le-leb, lt-leb, le-ltb, ltb-false, ne_eqb}
use Rattle.checks.specs.Checks.{first_fault, hit, miss}
use Rattle.checks.proofs.Laws.{first_fault-append, decided, stopped}
use Rattle.refusal.specs.Refusal.{refusal_of, refusal_with}
use Rattle.refusal.proofs.Laws.{with_other}
use Rattle.format.specs.Blocks.{Block}
use Rattle.block.specs.Order.{block_order}
use Rattle.block.specs.inner.Decoded.{block_at, time_of_block}
use Rattle.block.proofs.Ids.{is_table}
use Rattle.block.proofs.Passed.{block_numbered}
use Rattle.volume.specs.Reading.{is_end, may_follow, count_full, read_fault, read_answer}
use Rattle.texts.specs.Texts.{texts, texts_at}
use Rattle.volume.specs.Writing.{place_order, append_fault, append_answer, append_buffer}
use Rattle.volume.specs.declared.Bookmark.{Bookmark}
use Rattle.volume.specs.declared.Found.{Found}
use Rattle.volume.proofs.Steps.{found_at}
use Rattle.volume.proofs.OneCall.{right_place, place_right}
use Rattle.claims.specs.Library.{ours}
use Rattle.claims.specs.AnyBookmark.{InPlace, NextAfter}
use Rattle.claims.specs.LastNumber.{numbered, last_number, uncounted, LastNumber}
use Rattle.claims.proofs.Appending.{append-accepted}
use Rattle.claims.proofs.AnyBookmark.{due_table, table_due_lem, next_after}

-- Reading.

-- the fault of a reading, by that of the block itself, by whether its time is at fault, and by whether it can be counted
abbrev fault_by : (fault : ℕ) (untimely full : Bool) → ℕ
fault_by fault untimely full = cond (eqb fault 0) (cond untimely 14 (cond full 9 0)) fault

module _ (volume : List ℕ) (mark : Bookmark) where
  abbrev own : ℕ
  own = first_fault (block_order volume mark.offset mark.due)

  abbrev late : Bool
  late = not (may_follow mark.last (time_of_block (block_at volume mark.offset)))

  fault_by_lem : (number : ℕ) (full : Bool) → count_full (numbered number mark) ≡ full → read_fault volume (numbered number mark) ≡ fault_by own late full
  unfolding read_fault first_fault
  fault_by_lem number full e =
      first_fault-append (block_order volume mark.offset mark.due) _ (block_numbered volume mark.offset mark.due)
      ∙ ap (λ (f : Bool). fault_by own late f) e

-- the answer at the last number is made from that at another
from_other : (end : Bool) (fault : ℕ) (zero : Bool) → eqb fault 0 ≡ zero → (untimely : Bool) (one other : Found) (texts : List (List ℕ))
    → cond end (Ok None)
    (cond (eqb (fault_by fault untimely true) 0) (Ok (Some one)) (Err (refusal_with (fault_by fault untimely true) texts)))
    ≡ uncounted (cond end (Ok None)
    (cond (eqb (fault_by fault untimely false) 0) (Ok (Some other)) (Err (refusal_with (fault_by fault untimely false) texts))))
unfolding refusal_with
from_other true fault zero e untimely one other texts = refl
from_other false fault true e true one other texts = rw e refl
from_other false fault true e false one other texts = rw e refl
from_other false fault false e untimely one other texts = rw (e, e) refl

read_last : (volume : List ℕ) (mark : Bookmark) (number : ℕ) → number < last_number
    → read_answer volume (numbered last_number mark) ≡ uncounted (read_answer volume (numbered number mark))
unfolding read_answer is_end
read_last volume mark number h =
    rw (
      fault_by_lem volume mark last_number true (le-leb last_number last_number (omega arith)),
      fault_by_lem volume mark number false (lt-leb last_number number h),
    )
    (from_other (is_end volume mark) (own volume mark) _ refl (late volume mark) (found_at volume (numbered last_number mark))
    (found_at volume (numbered number mark)) (texts_at volume mark.offset))

-- Appending.

module _ (room : ℕ) (mark : Bookmark) (block : Block) where
  -- the first fault of an append is that of the place, which is 8 or 9
  placed : (below wrong : Bool) → ltb mark.offset 80 ≡ below → not (beq mark.due (is_table block)) ≡ wrong
      → append_fault room (numbered last_number mark) block ≡ cond below 8 (cond wrong 8 9)
  unfolding append_fault
  placed true wrong e f = sym (stopped (place_order (numbered last_number mark) (is_table block)) _ tt (decided (hit e)) (suc-ne-zero 7))
  placed false true e f =
      sym (stopped (place_order (numbered last_number mark) (is_table block)) _ tt (decided (miss e (hit f))) (suc-ne-zero 7))
  placed false false e f =
      let full = le-leb last_number last_number (omega arith) in
      sym (stopped (place_order (numbered last_number mark) (is_table block)) _ tt (decided (miss e (miss f (hit full)))) (suc-ne-zero 8))

  in_place : InPlace mark block → append_fault room (numbered last_number mark) block ≡ 9
  in_place p =
      placed false false (le-ltb _ _ p.after_the_header)
      (place_right mark.due (is_table block) (table_due_lem mark.due block p.a_table_where_due))

  out_of_place : (InPlace mark block → ⊥) → append_fault room (numbered last_number mark) block ≡ 8
  out_of_place n = go (ltb mark.offset 80) refl (not (beq mark.due (is_table block))) refl
    where
      go : (below : Bool) → ltb mark.offset 80 ≡ below → (wrong : Bool) → not (beq mark.due (is_table block)) ≡ wrong
          → append_fault room (numbered last_number mark) block ≡ 8
      go true e wrong f = placed true wrong e f
      go false e true f = placed false true e f
      go false e false f =
          absurd
          (n (record {
            after_the_header = ltb-false _ _ e;
            a_table_where_due = due_table mark.due block (right_place mark.due (is_table block) f);
          }))

  refused : {fault : ℕ} → append_fault room (numbered last_number mark) block ≡ fault → (fault ≡ 0 → ⊥) → (fault ≡ 10 → ⊥)
      → append_answer room (numbered last_number mark) block ≡ Err (refusal_of fault)
  unfolding append_answer
  refused {fault} e n t = rw (e, ne_eqb fault 0 n) (ap Err (sym (with_other fault (texts block) t)))

  counts_on : (next : Bookmark) → append_answer room mark block ≡ Ok next → NextAfter mark block next
  counts_on next e = subst (NextAfter mark block) (append-accepted room mark next block e).1 (next_after mark block)

buffer_stays : (buffer : List ℕ) (mark : Bookmark) (block : Block) → append_buffer buffer (numbered last_number mark) block ≡ buffer
unfolding append_buffer
buffer_stays buffer mark block = go (ltb mark.offset 80) refl (not (beq mark.due (is_table block))) refl
  where
    go : (below : Bool) → ltb mark.offset 80 ≡ below → (wrong : Bool) → not (beq mark.due (is_table block)) ≡ wrong
        → append_buffer buffer (numbered last_number mark) block ≡ buffer
    go true e wrong f = rw (placed (length buffer) mark block true wrong e f)
    go false e true f = rw (placed (length buffer) mark block false true e f)
    go false e false f = rw (placed (length buffer) mark block false false e f)

pub last_number_holds : LastNumber ours
last_number_holds =
    record {
      read_last = read_last;
      out_of_place = λ room mark block n. refused room mark block (out_of_place room mark block n) (omega arith) (omega arith);
      in_place = λ room mark block p. refused room mark block (in_place room mark block p) (omega arith) (omega arith);
      buffer_stays = buffer_stays;
      counts_on = λ room mark next block. counts_on room mark block next;
    }
