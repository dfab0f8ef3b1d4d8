-- The listing is the text that is claimed: its lines are got from the calls of the reader, block by block, and so is every other such
-- text. Assumes nothing.
use Rattle.std.specs.Prelude.{Some, Ok, Err}
use Prim.Native.Nat.{ℕ, ◌+◌, ◌≤◌, ◌<◌}
use mathlib.Core.Path.{◌≡◌, refl, sym, ap, subst, ◌∙◌}
use mathlib.Core.Bool.{Bool, true, false}
use mathlib.Core.List.{List, ◌∷◌, ◌++◌, append_assoc}
use native.Mathlib.Nat.{zero-add}
use native.Mathlib.Omega.{arith}
use lib.Dec.{ltb}
use lib.ListN.{length}
use borrow.Author.Tests.{ltb-true, ltb-false, lt-ltb, le-ltb, le-leb, lt-leb}
use Rattle.number.specs.Number.{Bytes}
use Rattle.number.proofs.Put.{put_fits, put_past}
use Rattle.refusal.specs.Refusal.{Refusal}
use Rattle.format.specs.Blocks.{Block, image}
use Rattle.format.specs.Readings.{Reading}
use Rattle.block.specs.Shown.{shown}
use Rattle.volume.specs.Heading.{header_answer}
use Rattle.volume.specs.Reading.{read_answer}
use Rattle.volume.specs.Checking.{Checked, refused_at_the_header, after_the_header}
use Rattle.volume.specs.inner.Walk.{on_read}
use Rattle.volume.specs.inner.Check.{check_answer}
use Rattle.volume.specs.declared.Bookmark.{Bookmark}
use Rattle.volume.specs.declared.Found.{Found}
use Rattle.volume.specs.declared.HeaderRead.{HeaderRead}
use Rattle.volume.specs.Answers.{HeaderAnswer}
use Rattle.volume.specs.Answers.{Verdict}
use Rattle.volume.proofs.Walk.{walk_step}
use Rattle.volume.proofs.Checked.{checked}
use Rattle.volume.proofs.OneCall.{read_sound, end_sound}
use Rattle.listing.specs.Listing.{heading_line, end_line, refused_line, list_answer}
use Rattle.listing.specs.inner.Text.{listing_way, lines_from, after_heading, listing}
use Rattle.listing.proofs.BlockLine.{block_has_its_line}
use Rattle.claims.specs.Library.{ours}
use Rattle.claims.specs.Demand3Reading.{Calls, ended, handed, ReaderGives, Stops, stopped, handed_before}
use Rattle.claims.specs.Listed.{lines_of, IsListing, of_an_accepted_volume, of_a_refused_header, of_a_refused_block, of_a_longer_volume, Listed}
use Rattle.claims.proofs.Reader.{Told, told}
use Rattle.claims.proofs.Demand3Reading.{first_given, demand_3_reading_holds}
use Rattle.claims.proofs.Refused.{from_zero}

-- The lines from a bookmark on, by the calls of the reader.

module _ (volume : List ℕ) (b : Bytes volume) where
  -- a block that is handed out has its line, and the lines go on where its image ends
  lines_go_on : (mark : Bookmark) (found : Found) (blocks : List Block) (last : List ℕ)
      → read_answer volume mark ≡ Ok (Some found)
      → lines_from volume found.next ≡ lines_of found.next.offset blocks ++ last
      → lines_from volume mark ≡ lines_of mark.offset (shown volume found.block ∷ blocks) ++ last
  lines_go_on mark found blocks last e others =
      let end : found.next.offset ≡ mark.offset + length (image (shown volume found.block))
      = ap (λ a. a.offset) (read_sound volume mark found b e).next in
      block_has_its_line volume mark found b e ∙ rw (others, end) (simp append_assoc)

  lines_of_calls : {number : ℕ} {mark end : Bookmark} {blocks : List Block} → Calls ours volume number mark blocks end
      → lines_from volume mark ≡ lines_of mark.offset blocks ++ end_line end.offset end.number
  unfolding on_read
  lines_of_calls {mark = mark} (ended e) = walk_step volume (listing_way volume) mark e
  lines_of_calls {mark = mark} (handed {found = found} {blocks = blocks} e numbered calls) =
      lines_go_on mark found blocks _ e (lines_of_calls calls)

  lines_of_stops : {number : ℕ} {mark at : Bookmark} {blocks : List Block} {refusal : Refusal}
      → Stops ours volume number mark blocks at refusal
      → lines_from volume mark ≡ lines_of mark.offset blocks ++ refused_line refusal.number at.offset
  unfolding on_read
  lines_of_stops {mark = mark} (stopped e) = walk_step volume (listing_way volume) mark e
  lines_of_stops {mark = mark} (handed_before {found = found} {blocks = blocks} e numbered calls) =
      lines_go_on mark found blocks _ e (lines_of_stops calls)

-- "end" is said at the volume's length
calls_end : {volume : List ℕ} {number : ℕ} {mark end : Bookmark} {blocks : List Block} → Calls ours volume number mark blocks end
    → end.offset ≡ length volume
calls_end {volume} {mark = mark} (ended e) = (end_sound volume mark e).offset
calls_end (handed e numbered calls) = calls_end calls

-- From the header on.

-- the reader begins at 80
first_at_80 : (volume : List ℕ) (header : HeaderRead) → header_answer volume ≡ Ok header → header.next.offset ≡ 80
first_at_80 volume header e = sym (ap (λ (mark : Bookmark). mark.offset) (first_given volume header e))

module _ (volume : List ℕ) (b : Bytes volume) (small : length volume ≤ 65536) where
  text_after : {a : HeaderAnswer} → header_answer volume ≡ a → listing volume ≡ heading_line ++ after_heading volume a
  unfolding listing
  text_after e = rw (le-ltb 65536 (length volume) small, e)

  -- the lines of blocks and a last one, after an accepted header
  text_with : (header : HeaderRead) (blocks : List Block) (last : List ℕ) → header_answer volume ≡ Ok header
      → lines_from volume header.next ≡ lines_of header.next.offset blocks ++ last
      → listing volume ≡ heading_line ++ (lines_of 80 blocks ++ last)
  unfolding after_heading
  text_with header blocks last e lines =
      text_after e
      ∙ ap (λ s. heading_line ++ s) (lines ∙ ap (λ (n : ℕ). lines_of n blocks ++ last) (first_at_80 volume header e))

  text_of_accepted : (reading : Reading) (end : Bookmark) → ReaderGives ours volume reading end
      → listing volume ≡ heading_line ++ (lines_of 80 reading.blocks ++ end_line (length volume) (length reading.blocks))
  text_of_accepted reading end g =
      text_with _ reading.blocks _ g.header
      (rw (calls_end g.blocks, g.counted) at (lines_of_calls volume b g.blocks))

  -- a reading, or where the reader is refused, makes the listing such a text
  listed_after : (header : HeaderRead) → header_answer volume ≡ Ok header → (answer : Verdict) → check_answer volume ≡ answer
      → Told volume header.next answer → IsListing ours volume (listing volume)
  listed_after header e (Ok accepted) same t =
      let reading = (demand_3_reading_holds volume b (omega arith)).accepted_iff_it_has_a_reading.0 (accepted, same) in
      let gives = ((demand_3_reading_holds volume b (omega arith)).reader_gives_the_reading reading.0).0 reading.1 in
      subst (IsListing ours volume) (sym (text_of_accepted reading.0 _ gives.1)) (of_an_accepted_volume reading.0 small reading.1)
  listed_after header e (Err rejected) same (blocks, at, stops, _) =
      subst (IsListing ours volume) (sym (text_with header blocks _ e (lines_of_stops volume b stops)))
      (of_a_refused_block header blocks at rejected.refusal small e (from_zero e stops))

  listed_here : IsListing ours volume (listing volume)
  unfolding after_heading
  listed_here = go (checked volume) refl
    where
      go : {answer : Verdict} → Checked volume answer → check_answer volume ≡ answer → IsListing ours volume (listing volume)
      go (refused_at_the_header {refusal = refusal} e) same =
          subst (IsListing ours volume) (sym (text_after e)) (of_a_refused_header refusal small e)
      go (after_the_header {header = header} {answer = answer} e later) same = listed_after header e answer same (told later)

module _ (volume : List ℕ) (b : Bytes volume) where
  too_long : 65536 < length volume → listing volume ≡ heading_line ++ refused_line 1 0
  unfolding listing
  too_long long = rw (lt-ltb 65536 (length volume) long)

  is_listing : IsListing ours volume (listing volume)
  is_listing = go (ltb 65536 (length volume)) refl
    where
      go : (longer : Bool) → ltb 65536 (length volume) ≡ longer → IsListing ours volume (listing volume)
      go true e =
          let long : 65536 < length volume = ltb-true 65536 (length volume) e in
          subst (IsListing ours volume) (sym (too_long long)) (of_a_longer_volume long)
      go false e = listed_here volume b (ltb-false 65536 (length volume) e)

  only_listing : (other : List ℕ) → IsListing ours volume other → other ≡ listing volume
  unfolding after_heading
  only_listing other (of_an_accepted_volume reading small r) =
      let gives = ((demand_3_reading_holds volume b (omega arith)).reader_gives_the_reading reading).0 r in
      sym (text_of_accepted volume b small reading _ gives.1)
  only_listing other (of_a_refused_header refusal small e) = sym (text_after volume b small e)
  only_listing other (of_a_refused_block header blocks at refusal small e stops) =
      sym (text_with volume b small header blocks _ e (lines_of_stops volume b stops))
  only_listing other (of_a_longer_volume long) = sym (too_long long)

pub listed_holds : Listed ours
unfolding list_answer
listed_holds volume b =
    record {
      text = listing volume;
      is_listing = is_listing volume b;
      only = only_listing volume b;
      room_enough =
          λ out h. (rw (le-leb (length (listing volume)) (length out) h), put_fits out 0 (listing volume) (omega arith) ∙ rw zero-add);
      room_too_small =
          λ out h. (rw (lt-leb (length (listing volume)) (length out) h), put_past out 0 (listing volume) (omega arith));
    }
