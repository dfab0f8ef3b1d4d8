-- What is read of a volume depends on the bytes that are read: a header or a block is read in every volume that has its bytes in the same
-- place. Assumes nothing.
use Rattle.std.specs.Prelude.{Some, Ok}
use Prim.Native.Nat.{ℕ, ◌+◌, ◌-◌, ◌≤◌}
use mathlib.Core.Path.{◌≡◌, sym, ap, ◌∙◌}
use mathlib.Core.List.{List, ◌++◌}
use native.Mathlib.Omega.{arith}
use lib.ListN.{length, take, drop, take-append-drop}
use Rattle.number.specs.Number.{Bytes, part}
use Rattle.number.proofs.Parts.{part-append, part_at, part_stands}
use Rattle.format.specs.Blocks.{Block, image}
use Rattle.block.specs.Order.{volume_limit}
use Rattle.block.specs.inner.Decoded.{block_at}
use Rattle.block.specs.Shown.{shown}
use Rattle.block.proofs.SameBlock.{same_block}
use Rattle.volume.specs.Heading.{sequence_of, header_fault, header_answer}
use Rattle.volume.specs.Reading.{read_answer}
use Rattle.volume.specs.declared.Bookmark.{Bookmark}
use Rattle.volume.specs.declared.Found.{Found}
use Rattle.volume.proofs.Steps.{found_at, found_there, read_further}
use Rattle.volume.proofs.HeaderImage.{HeaderStands, header_sound, HeaderShown, header_complete}
use Rattle.volume.proofs.OneCall.{HandedOut, read_sound, Hands, read_complete}
use Rattle.claims.specs.Library.{ours}
use Rattle.claims.specs.Demand3.{StillRead}

module _ (volume other : List ℕ) (mark : Bookmark) (found : Found) (b : Bytes volume) (small : length other ≤ volume_limit) where
  -- a block that is read in a volume is read in another that has its bytes
  pub read_alike : read_answer volume mark ≡ Ok (Some found)
      → part other mark.offset (found.next.offset - mark.offset) ≡ part volume mark.offset (found.next.offset - mark.offset)
      → StillRead ours volume other mark found
  read_alike e alike =
      let offset : ℕ = mark.offset in
      let block : Block = shown volume found.block in
      let p : HandedOut volume mark found = read_sound volume mark found b e in
      let after : List ℕ = drop found.next.offset volume in
      let end : found.next.offset ≡ offset + length (image block) = ap (λ (m : Bookmark). m.offset) p.next in
      let len : length (image block) ≡ found.next.offset - offset = omega arith in
      let stands : part volume offset (found.next.offset - offset) ≡ image block
      = part_at volume (image block) after offset (found.next.offset - offset) p.same len in
      let others : List ℕ = drop (offset + (found.next.offset - offset)) other in
      let d : drop offset other ≡ image block ++ others
      = part_stands other (image block) offset (found.next.offset - offset) (alike ∙ stands) in
      let h : Hands other mark block = read_complete other mark block small p.base p.allowed others d in
      let here : found_at volume mark ≡ found = found_there volume mark found e in
      let same : block_at other offset ≡ found.block
      = same_block block other volume offset others after p.allowed.keeps d p.same ∙ ap (λ (f : Found). f.block) here in
      let number : mark.number ≡ found.number = sym p.number in
      let next : (found_at other mark).next ≡ found.next = h.next ∙ sym p.next in
      record {
        same_place = h.answer ∙ ap (λ f. Ok (Some f)) (λ i. record { block = same i; number = number i; next = next i });
        same_reading = ap (shown other) (sym same) ∙ h.same;
      }

-- so it is read in every longer volume
pub still_read : (volume more : List ℕ) (mark : Bookmark) (found : Found) → Bytes volume → length (volume ++ more) ≤ volume_limit
    → read_answer volume mark ≡ Ok (Some found) → StillRead ours volume (volume ++ more) mark found
still_read volume more mark found b small e =
    let further = read_further volume mark found e in
    read_alike volume (volume ++ more) mark found b small e
    (part-append volume more mark.offset (found.next.offset - mark.offset) (omega (arith, further.0, further.1)))

-- and in every beginning that it lies in
pub read_in_beginning : (volume more : List ℕ) (mark : Bookmark) (found : Found) → Bytes (volume ++ more) → length volume ≤ volume_limit
    → found.next.offset ≤ length volume → read_answer (volume ++ more) mark ≡ Ok (Some found)
    → read_answer volume mark ≡ Ok (Some found)
read_in_beginning volume more mark found b small within e =
    let further = read_further (volume ++ more) mark found e in
    (read_alike (volume ++ more) volume mark found b small e
    (sym (part-append volume more mark.offset (found.next.offset - mark.offset) (omega (arith, further.0))))).same_place

-- the same of the header, which has 80 bytes
pub header_alike : (volume other : List ℕ) → Bytes volume → length other ≤ volume_limit → take 80 other ≡ take 80 volume
    → header_fault volume ≡ 0 → header_answer other ≡ header_answer volume
unfolding header_answer
header_alike volume other b small alike e =
    let h : HeaderStands volume = header_sound volume b e in
    let stands = sym (take-append-drop 80 other) ∙ ap (λ first. first ++ drop 80 other) (alike ∙ h.image) in
    let s : HeaderShown other _ = header_complete other _ (drop 80 other) h.rules small stands in
    let sequence : sequence_of other ≡ sequence_of volume = ap (λ a. a.sequence) s.shown in
    rw (s.no_fault, e, sequence)
