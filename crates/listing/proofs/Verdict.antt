-- The text ends as the whole-volume check does: its last line has the check's number of blocks, or its refusal. Assumes nothing.
use Rattle.std.specs.Prelude.{Ok, Err}
use Prim.Native.Nat.{ℕ, ◌≤◌}
use mathlib.Core.Path.{◌≡◌, refl, sym, ap, ◌∙◌}
use mathlib.Core.List.{List, [], ◌++◌, append_assoc}
use lib.ListN.{length}
use borrow.Author.Tests.{le-ltb}
use Rattle.volume.specs.Heading.{header_answer}
use Rattle.volume.specs.Checking.{CheckedFrom, accepted_at_the_end, refused_at_a_block, after_a_block, Checked, refused_at_the_header, after_the_header}
use Rattle.volume.specs.inner.Walk.{on_read}
use Rattle.volume.specs.inner.Check.{check_answer}
use Rattle.volume.specs.declared.Bookmark.{Bookmark}
use Rattle.volume.specs.Answers.{Verdict}
use Rattle.volume.proofs.Walk.{walk_step}
use Rattle.volume.proofs.Checked.{checked}
use Rattle.listing.specs.Listing.{heading_line, end_line, refused_line, list_limit}
use Rattle.listing.specs.inner.Text.{found_line, listing_way, lines_from, after_heading, listing}

-- the last line of a verdict
abbrev pub last_of : Verdict → List ℕ
last_of (Ok a) = end_line a.end.offset a.end.number
last_of (Err r) = refused_line r.refusal.number r.offset

pub record Ends (text last : List ℕ) : Type 0 where
  pub front : List ℕ
  pub joined : text ≡ front ++ last

more_front : (line : List ℕ) {text last : List ℕ} → Ends text last → Ends (line ++ text) last
more_front line {text} {last} e =
    record { front = line ++ e.front; joined = ap (λ (s : List ℕ). line ++ s) e.joined ∙ sym (append_assoc line e.front last) }

-- the lines from a bookmark on, by what is checked from it on
lines_end : {volume : List ℕ} {sequence : ℕ} {mark : Bookmark} {answer : Verdict}
    → CheckedFrom volume sequence mark answer → Ends (lines_from volume mark) (last_of answer)
unfolding on_read
lines_end {volume} {mark = mark} (accepted_at_the_end e) =
    record { front = []; joined = walk_step volume (listing_way volume) mark e }
lines_end {volume} {mark = mark} (refused_at_a_block e) =
    record { front = []; joined = walk_step volume (listing_way volume) mark e }
lines_end {volume} {mark = mark} (after_a_block {found = found} e later) =
    rw (walk_step volume (listing_way volume) mark e) (more_front (found_line volume mark found) (lines_end later))

text_ends : {volume : List ℕ} {answer : Verdict} → Checked volume answer → Ends (after_heading volume (header_answer volume)) (last_of answer)
unfolding after_heading
text_ends (refused_at_the_header e) = rw e (record { front = []; joined = refl })
text_ends (after_the_header e later) = rw e (lines_end later)

pub listing_ends_as_the_check : (volume : List ℕ) → length volume ≤ list_limit → Ends (listing volume) (last_of (check_answer volume))
unfolding listing
listing_ends_as_the_check volume h =
    rw (le-ltb list_limit (length volume) h) (more_front heading_line (text_ends (checked volume)))
