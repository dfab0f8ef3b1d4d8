-- The text has at most 65,536 bytes: the line of a block is never longer than the block, and the heading and the last line
-- together are shorter than a header. Assumes nothing.
use Rattle.std.specs.Prelude.{Some, Ok}
use Prim.Native.Nat.{ℕ, suc, ◌+◌, ◌-◌, ◌≤◌, ◌<◌}
use mathlib.Core.Path.{◌≡◌, refl, sym}
use mathlib.Core.Bool.{Bool, true, false, ◌&&◌, and-eq-true_iff}
use mathlib.Core.List.{List, [], ◌∷◌, ◌++◌}
use mathlib.Mathlib.Data.Bool.Basic.{or-eq-false-eq-eq-false-and-eq-false}
use native.Mathlib.Omega.{arith}
use lib.Dec.{leb, ltb, eqb, lit≤, lit<}
use lib.ListN.{length, length-append}
use borrow.Author.Tests.{ltb-true, ltb-false, leb-true, eqb-true, le-leb}
use Rattle.checks.specs.Checks.{Check, check, first_fault}
use Rattle.format.specs.Blocks.{Kind, inode_block, link_block, unlink_block, xattr_block, removed_xattr_block, data_block, rename_block, link_table, FileType, regular, symbolic_link, other}
use Rattle.refusal.proofs.Laws.{with_number}
use Rattle.texts.specs.Texts.{texts_at}
use Rattle.block.specs.Fields.{id_at, kind_at, fixed_length, type_at, size_at, rest_at}
use Rattle.block.specs.Order.{rest_order, kind_order}
use Rattle.volume.specs.Heading.{sequence_of, header_order, header_fault, first_mark, header_answer}
use Rattle.volume.specs.Reading.{read_order, read_fault, next_mark, read_answer}
use Rattle.volume.specs.inner.Walk.{on_read}
use Rattle.volume.specs.declared.Bookmark.{Bookmark}
use Rattle.volume.specs.declared.Found.{Found}
use Rattle.volume.specs.Answers.{ReadAnswer}
use Rattle.volume.proofs.Passed.{read_passed}
use Rattle.volume.proofs.Whole.{header-length}
use Rattle.volume.proofs.Steps.{found_at, Answers, ends, finds, refuses, answers, found_read, sound_further}
use Rattle.volume.proofs.Walk.{block_after_block, walk_step}
use Rattle.listing.specs.Decimal.{decimal}
use Rattle.listing.specs.Listing.{block_line, end_line, refused_line, list_limit, list_answer}
use Rattle.listing.specs.inner.Text.{found_line, listing_way, lines_from, after_heading, listing}
use Rattle.listing.proofs.Digits.{decimal_short}

-- the numbers of a table of checks are at most a given one
abbrev up_to : ℕ → List Check → Bool
up_to most [] = true
up_to most (check fault number ∷ checks) = leb number most && up_to most checks

fault_most : (most : ℕ) (checks : List Check) → up_to most checks ≡ true → first_fault checks ≤ most
unfolding first_fault
fault_most most [] e = omega arith
fault_most most (check true number ∷ checks) e = leb-true number most ((and-eq-true_iff (leb number most) (up_to most checks)).0 e).0
fault_most most (check false number ∷ checks) e = fault_most most checks ((and-eq-true_iff (leb number most) (up_to most checks)).0 e).1

up_to-append : (most : ℕ) (a b : List Check) → up_to most a ≡ true → up_to most b ≡ true → up_to most (a ++ b) ≡ true
up_to-append most [] b p q = q
up_to-append most (check fault number ∷ a) b p q =
    let e = (and-eq-true_iff (leb number most) (up_to most a)).0 p in
    rw e.0 (up_to-append most a b e.1 q)

module _ (volume : List ℕ) (offset : ℕ) where
  rest_most : (type : FileType) → up_to 14 (rest_order type (size_at volume offset) (rest_at volume offset)) ≡ true
  rest_most regular = refl
  rest_most symbolic_link = refl
  rest_most other = refl

  kind_most : (kind : Kind) → up_to 14 (kind_order kind volume offset) ≡ true
  kind_most inode_block = rest_most (type_at volume offset)
  kind_most link_block = refl
  kind_most unlink_block = refl
  kind_most xattr_block = refl
  kind_most removed_xattr_block = refl
  kind_most data_block = refl
  kind_most rename_block = refl
  kind_most link_table = refl

-- every block has its ID and at least one field of eight bytes
fixed_least : (kind : Kind) → 9 ≤ fixed_length kind
fixed_least inode_block = lit≤ tt
fixed_least link_block = lit≤ tt
fixed_least unlink_block = lit≤ tt
fixed_least xattr_block = lit≤ tt
fixed_least removed_xattr_block = lit≤ tt
fixed_least data_block = lit≤ tt
fixed_least rename_block = lit≤ tt
fixed_least link_table = lit≤ tt

-- the line of a block of 13 bytes or more is not longer than the block
block_line_short : (offset id len : ℕ) → offset < 100000 → id < 10 → 13 ≤ len → len < 100000 → length (block_line offset id len) ≤ len
unfolding block_line
block_line_short offset id len p q l h = simp length-append (go (ltb len 100) refl)
  where
    go : (t : Bool) → ltb len 100 ≡ t
        → length (decimal offset) + suc (length (decimal id) + suc (length (decimal len) + 1)) ≤ len
    go true e = omega (arith, decimal_short 4 offset p, decimal_short 0 id q, decimal_short 1 len (ltb-true len 100 e))
    go false e = omega (arith, decimal_short 4 offset p, decimal_short 0 id q, decimal_short 4 len h, ltb-false len 100 e)

-- a last line has at most 23 bytes
end_line_short : (offset blocks : ℕ) → offset < 100000 → blocks < 100000 → length (end_line offset blocks) ≤ 23
unfolding end_line
end_line_short offset blocks p q = simp length-append (omega (arith, decimal_short 4 offset p, decimal_short 4 blocks q))

refused_line_short : (number offset : ℕ) → number < 100 → offset < 100000 → length (refused_line number offset) ≤ 23
unfolding refused_line
refused_line_short number offset p q = simp length-append (omega (arith, decimal_short 1 number p, decimal_short 4 offset q))

-- a block that is accepted has one of the IDs 1 to 8
sound_id : (volume : List ℕ) (mark : Bookmark) → read_fault volume mark ≡ 0 → id_at volume mark.offset < 10
sound_id volume mark f =
    let known = (or-eq-false-eq-eq-false-and-eq-false (eqb (id_at volume mark.offset) 0) (ltb 8 (id_at volume mark.offset))
    ).0 (read_passed volume mark f).block.known in
    omega (arith, ltb-false 8 (id_at volume mark.offset) known.1)

read_fault_most : (volume : List ℕ) (mark : Bookmark) → read_fault volume mark ≤ 14
unfolding read_fault
read_fault_most volume mark =
    let kind : Kind = kind_at volume mark.offset in
    fault_most 14 (read_order volume mark) (up_to-append 14 (kind_order kind volume mark.offset) _ (kind_most volume mark.offset kind) refl)

-- what the lines from a bookmark on may take: the bytes of the volume that are left, and a last line
abbrev room_at : (volume : List ℕ) → Bookmark → ℕ
room_at volume mark = length volume - mark.offset + 23

module _ (volume : List ℕ) (small : length volume ≤ list_limit) where
  -- the lines from a bookmark on take no more
  abbrev Short : Bookmark → Type 0
  Short mark = mark.offset ≤ length volume → mark.number ≤ mark.offset → length (lines_from volume mark) ≤ room_at volume mark

  line_short : (mark : Bookmark) → mark.offset ≤ length volume → mark.number ≤ mark.offset
      → ((found : Found) → read_answer volume mark ≡ Ok (Some found) → Short found.next)
      → {a : ReadAnswer} → Answers volume mark a → length (on_read (listing_way volume) mark (lines_from volume) a) ≤ room_at volume mark
  unfolding on_read
  line_short mark h b later (ends p) =
      omega (arith, end_line_short mark.offset mark.number (omega arith) (omega arith))
  line_short mark h b later (finds p f) =
      let next : ℕ = (next_mark volume mark).offset in
      let further = sound_further volume mark f in
      let least : 13 ≤ next - mark.offset = omega (arith, fixed_least (kind_at volume mark.offset)) in
      let line : length (found_line volume mark (found_at volume mark)) ≤ next - mark.offset
      = block_line_short _ _ _ (omega arith) (sound_id volume mark f) least (omega arith) in
      let rest = later (found_at volume mark) (sym (found_read volume mark p f)) further.1 (omega arith) in
      simp length-append (omega (arith, rest))
  line_short mark h b later (refuses p f) =
      rw (with_number (read_fault volume mark) (texts_at volume mark.offset))
      (omega (arith, refused_line_short (read_fault volume mark) mark.offset (omega (arith, read_fault_most volume mark)) (omega arith)))

  lines_short : (mark : Bookmark) → Short mark
  lines_short =
      block_after_block volume Short
      (λ mark later h b. rw (walk_step volume (listing_way volume) mark refl) (line_short mark h b later (answers volume mark)))

header_fault_most : (volume : List ℕ) → header_fault volume ≤ 6
unfolding header_fault
header_fault_most volume = fault_most 6 (header_order volume) refl

after_heading_short : (volume : List ℕ) → length volume ≤ list_limit → length (after_heading volume (header_answer volume)) ≤ list_limit - 17
unfolding after_heading header_answer
after_heading_short volume l = go (eqb (header_fault volume) 0) refl
  where
    go : (t : Bool) → eqb (header_fault volume) 0 ≡ t → length (after_heading volume (header_answer volume)) ≤ list_limit - 17
    go true e =
        let whole : 80 ≤ length volume = header-length volume (eqb-true _ _ e) in
        rw e (omega (arith, lines_short volume l (first_mark (sequence_of volume)) whole (omega arith)))
    go false e = rw e (omega (arith, refused_line_short (header_fault volume) 0 (omega (arith, header_fault_most volume)) (lit< tt)))

-- no text is longer than the longest volume that is listed
pub listing_short : (volume : List ℕ) → length (listing volume) ≤ list_limit
unfolding listing
listing_short volume = go (ltb list_limit (length volume)) refl
  where
    go : (t : Bool) → ltb list_limit (length volume) ≡ t → length (listing volume) ≤ list_limit
    go true e = rw e (omega (arith, refused_line_short 1 0 (lit< tt) (lit< tt)))
    go false e = rw e (omega (arith, after_heading_short volume (ltb-false list_limit (length volume) e)))

-- so a room of that length is never too small
pub listing_fits : (room : ℕ) (volume : List ℕ) → list_limit ≤ room → list_answer room (listing volume) ≡ Ok (length (listing volume))
unfolding list_answer
listing_fits room volume h =
    let fits : length (listing volume) ≤ room = omega (arith, listing_short volume) in
    rw (le-leb (length (listing volume)) room fits)
