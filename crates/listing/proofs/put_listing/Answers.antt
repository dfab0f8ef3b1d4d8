-- After the heading stands what the length of the volume and then its header decide. The text is never too long to count.
use Prim.Native.Nat.{ℕ, ◌+◌, ◌≤◌, ◌<◌}
use mathlib.Core.Path.{◌≡◌, sym}
use mathlib.Core.List.{List, ◌++◌}
use native.Mathlib.Omega.{arith}
use lib.ListN.{length, length-append}
use borrow.Author.Tests.{lt-ltb, le-ltb}
use Rattle.volume.specs.Heading.{header_answer}
use Rattle.volume.specs.Answers.{HeaderAnswer}
use Rattle.listing.specs.Listing.{heading_line, refused_line, list_limit}
use Rattle.listing.specs.inner.Text.{lines_from, after_heading, listing}
use Rattle.listing.specs.inner.Writing.{Wrote}
use Rattle.listing.proofs.Pieces.{then}
use Rattle.listing.proofs.Room.{listing_short}
use Rattle.listing.proofs.put_listing.Goals as goal

-- what stands after the heading is short enough, and with the heading it is the text
rest-fits : (volume : List ℕ) {rest old mid : List ℕ} {at : ℕ} → listing volume ≡ heading_line ++ rest → Wrote old 0 heading_line mid at
    → at + length rest ≤ list_limit
rest-fits volume e w = omega (arith, w.after, simp length-append at (rw e at (listing_short volume)))

rest-written : {text rest old mid new : List ℕ} {at next : ℕ} → text ≡ heading_line ++ rest → Wrote old 0 heading_line mid at
    → Wrote mid at rest new next → Wrote old 0 text new next
rest-written e w v = rw e (then w v)

-- it is decided by the length, and then by the header
over : (volume : List ℕ) → list_limit < length volume → listing volume ≡ heading_line ++ refused_line 1 0
unfolding listing
over volume h = rw (lt-ltb list_limit (length volume) h)

after : (volume : List ℕ) → length volume ≤ list_limit → {a : HeaderAnswer} → header_answer volume ≡ a
    → listing volume ≡ heading_line ++ after_heading volume a
unfolding listing
after volume h e = rw (le-ltb list_limit (length volume) h, e)

pub refused_line-requires : goal.refused_line-requires
refused_line-requires c = rw c.from.ensures (rest-fits _ (over c.args.volume.now c.if-volume-gt-LIST_LIMIT.true) c.put_word-at.ensures)

pub returns-then-volume-gt-LIST_LIMIT : goal.returns-then-volume-gt-LIST_LIMIT
returns-then-volume-gt-LIST_LIMIT c =
    rest-written (over _ c.if-volume-gt-LIST_LIMIT.true) c.put_word-at.ensures (rw c.from.ensures at c.refused_line.ensures)

pub put_lines-requires : goal.put_lines-requires
unfolding after_heading
put_lines-requires c =
    let sound : listing c.args.volume.now ≡ heading_line ++ lines_from c.args.volume.now c.in-Ok.header.next = after _ c.if-volume-gt-LIST_LIMIT.false (sym c.in-Ok.ensures) in
    record { first_bound = rest-fits _ sound c.put_word-at.ensures }

pub refused_line-requires-in-Err : goal.refused_line-requires-in-Err
unfolding after_heading
refused_line-requires-in-Err c =
    let unsound : listing c.args.volume.now ≡ heading_line ++ refused_line c.in-Err.why.number 0 = after _ c.if-volume-gt-LIST_LIMIT.false (sym c.in-Err.ensures) in
    rw (c.from-in-Err.ensures, c.fault.ensures) (rest-fits _ unsound c.put_word-at.ensures)

pub returns-in-Ok : goal.returns-in-Ok
unfolding after_heading
returns-in-Ok c =
    let sound : listing c.args.volume.now ≡ heading_line ++ lines_from c.args.volume.now c.in-Ok.header.next = after _ c.if-volume-gt-LIST_LIMIT.false (sym c.in-Ok.ensures) in
    rest-written sound c.put_word-at.ensures c.put_lines.ensures

pub returns-in-Err : goal.returns-in-Err
unfolding after_heading
returns-in-Err c =
    let unsound : listing c.args.volume.now ≡ heading_line ++ refused_line c.in-Err.why.number 0 = after _ c.if-volume-gt-LIST_LIMIT.false (sym c.in-Err.ensures) in
    rest-written unsound c.put_word-at.ensures (rw (c.from-in-Err.ensures, c.fault.ensures) at c.refused_line-in-Err.ensures)
