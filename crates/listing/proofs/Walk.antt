-- The walk over the blocks: at each bookmark, whoever writes the lines from there on has written all of them. Assumes nothing.
use Rattle.std.specs.Prelude.{Some, Ok}
use Prim.Native.Nat.{ℕ, ◌+◌, ◌≤◌}
use mathlib.Core.Path.{◌≡◌}
use mathlib.Core.List.{List}
use native.Mathlib.Omega.{arith}
use lib.ListN.{length, length-append}
use Rattle.volume.specs.Reading.{read_answer}
use Rattle.volume.specs.declared.Bookmark.{Bookmark}
use Rattle.volume.specs.declared.Found.{Found}
use Rattle.volume.specs.Answers.{ReadAnswer}
use Rattle.volume.specs.inner.Walk.{on_read}
use Rattle.volume.proofs.Walk.{walk_step}
use Rattle.listing.specs.Listing.{list_limit}
use Rattle.listing.specs.inner.Text.{found_line, listing_way, lines_from}
use Rattle.listing.specs.inner.Writing.{Wrote}
use Rattle.listing.proofs.Pieces.{then}

module _ (volume old : List ℕ) (at : ℕ) (first : Bookmark) where
  -- the room, the bookmark and the offset in the room, so far
  pub record Reached (out : List ℕ) (mark : Bookmark) (place : ℕ) : Type 0 where
    pub fits : place + length (lines_from volume mark) ≤ list_limit
    pub onward : (new : List ℕ) (answer : ℕ) → Wrote out place (lines_from volume mark) new answer
        → Wrote old at (lines_from volume first) new answer

pub start : (volume old : List ℕ) (at : ℕ) (first : Bookmark) → at + length (lines_from volume first) ≤ list_limit
    → Reached volume old at first old first at
start volume old at first h = record { fits = h; onward = λ new answer w. w }

module _ {volume old : List ℕ} {at : ℕ} {first : Bookmark} {out : List ℕ} {mark : Bookmark} {place : ℕ} where
  -- the lines from here on, by what the reading answers
  pub left_fits : Reached volume old at first out mark place → {a : ReadAnswer} → read_answer volume mark ≡ a
      → place + length (on_read (listing_way volume) mark (lines_from volume) a) ≤ list_limit
  left_fits r e = rw (walk_step volume (listing_way volume) mark e) at r.fits

  pub left_written : Reached volume old at first out mark place → {a : ReadAnswer} → read_answer volume mark ≡ a
      → (new : List ℕ) (answer : ℕ) → Wrote out place (on_read (listing_way volume) mark (lines_from volume) a) new answer
      → Wrote old at (lines_from volume first) new answer
  left_written r e new answer w = r.onward new answer (rw (walk_step volume (listing_way volume) mark e) w)

  -- the line of the block at a bookmark, and then the next bookmark
  pub line_fits : Reached volume old at first out mark place → (found : Found) → read_answer volume mark ≡ Ok (Some found)
      → place + length (found_line volume mark found) ≤ list_limit
  unfolding on_read
  line_fits r found e = omega (arith, simp length-append at (left_fits r e))

  pub passed : Reached volume old at first out mark place → (found : Found) → read_answer volume mark ≡ Ok (Some found)
      → {new : List ℕ} {next : ℕ} → Wrote out place (found_line volume mark found) new next
      → Reached volume old at first new found.next next
  unfolding on_read
  passed r found e {new} {next} w =
      record {
        fits = omega (arith, simp length-append at (left_fits r e), w.after);
        onward = λ last answer v. left_written r e last answer (then w v);
      }
