-- Writing a reading afresh is accepted at every call and leaves its bytes. Assumes nothing.
use Prim.Native.Nat.{ℕ, ◌+◌, ◌≤◌}
use mathlib.Core.Path.{◌≡◌, refl, sym, ap, ◌∙◌, subst}
use mathlib.Core.List.{List, [], ◌∷◌, ◌++◌}
use native.Mathlib.Omega.{arith}
use lib.ListN.{length, take, drop, length-append}
use lib.Seq.{length-take-le}
use Rattle.number.specs.Number.{put}
use Rattle.number.proofs.Put.{length-put, drop-put}
use Rattle.format.specs.Layout.{All}
use Rattle.format.specs.Blocks.{Block, image}
use Rattle.format.specs.Headers.{header_image}
use Rattle.format.specs.Readings.{Reading, Keeps, images, volume_of, ReadingOf}
use Rattle.block.specs.Order.{volume_limit}
use Rattle.volume.specs.declared.Bookmark.{Bookmark}
use Rattle.volume.proofs.HeaderImage.{length-header}
use Rattle.volume.proofs.OneCall.{after}
use Rattle.claims.specs.Library.{ours}
use Rattle.claims.specs.Demand3.{Outcome, appends, extended, IsNext, FreshClaim}
use Rattle.claims.proofs.Appending.{Admitted, admitted_appended, Written, header_written}
use Rattle.claims.proofs.Sofar.{Follow, start_of, Sofar, keeps_follow, sofar_more}
use Rattle.claims.proofs.Appends.{extended_none, extended_twice, drop-later}
use Rattle.claims.proofs.Starts.{header_stands}

-- what appending allowed blocks leaves
record Wrote (buffer : List ℕ) (mark : Bookmark) (sofar : Reading) (blocks : List Block) (outcome : Outcome) : Type 0 where
  answers : All IsNext outcome.answers
  stands : Sofar outcome.buffer outcome.mark (extended sofar blocks)
  grows : mark.offset ≤ outcome.mark.offset
  rest : drop outcome.mark.offset outcome.buffer ≡ drop outcome.mark.offset buffer

wrote : (blocks : List Block) (buffer : List ℕ) (mark : Bookmark) (sofar : Reading) → Sofar buffer mark sofar → Follow mark blocks
    → mark.offset + length (images blocks) ≤ volume_limit → mark.offset + length (images blocks) ≤ length buffer
    → Wrote buffer mark sofar blocks (appends ours buffer mark blocks)
unfolding appends images
wrote [] buffer mark sofar s f small fits =
    record { answers = tt; stands = subst (Sofar buffer mark) (extended_none sofar) s; grows = omega arith; rest = refl }
wrote (block ∷ blocks) buffer mark sofar s f small fits =
    let l : length (image block ++ images blocks) ≡ length (image block) + length (images blocks)
    = length-append (image block) (images blocks) in
    let a : Admitted (length buffer) mark block
    = record { allowed = f.0; base = s.base; small = omega arith; fits = omega arith } in
    let next : List ℕ = put buffer mark.offset (image block) in
    let same : length next ≡ length buffer = length-put buffer mark.offset (image block) in
    let w : Wrote next (after mark block) (extended sofar (block ∷ [])) blocks (appends ours next (after mark block) blocks)
    = wrote blocks next (after mark block) (extended sofar (block ∷ [])) (sofar_more buffer mark sofar block s a) f.1
    (omega arith) (omega arith) in
    let p = admitted_appended buffer mark block a in
    let outcome : Outcome = appends ours next (after mark block) blocks in
    let grows : mark.offset + length (image block) ≤ outcome.mark.offset = w.grows in
    rw (p.0, p.1)
    (record {
      answers = (tt, w.answers);
      stands = subst (Sofar outcome.buffer outcome.mark) (extended_twice sofar block blocks) w.stands;
      grows = omega arith;
      rest =
          w.rest
          ∙ drop-later (mark.offset + length (image block)) outcome.mark.offset next buffer grows
          (drop-put buffer mark.offset (image block) (mark.offset + length (image block)) (omega arith));
    })

pub fresh : (volume : List ℕ) (reading : Reading) (buffer : List ℕ) → length volume ≤ volume_limit → ReadingOf volume reading
    → length volume ≤ length buffer → FreshClaim ours volume reading buffer
unfolding volume_of
fresh volume reading buffer small r room =
    let k : Keeps reading = r.keeps in
    let header : List ℕ = header_image reading.header in
    let l : length header ≡ 80 = length-header reading.header k.header in
    let whole : length volume ≡ length header + length (images reading.blocks)
    = ap length (sym r.bytes) ∙ length-append header (images reading.blocks) in
    let h : Written buffer reading.header = header_written buffer reading.header k.header (omega arith) in
    let first : List ℕ = put buffer 0 header in
    let same : length first ≡ length buffer = length-put buffer 0 header in
    let start : Reading = record { header = reading.header; blocks = [] } in
    let w : Wrote first (start_of reading) start reading.blocks (appends ours first (start_of reading) reading.blocks)
    = wrote reading.blocks first (start_of reading) start (header_stands buffer reading.header k.header (omega arith))
    (keeps_follow reading k (rw r.bytes small)) (omega arith) (omega arith) in
    let outcome : Outcome = appends ours first (start_of reading) reading.blocks in
    let stands : Sofar outcome.buffer outcome.mark reading = w.stands in
    let bytes : take outcome.mark.offset outcome.buffer ≡ volume = stands.same ∙ r.bytes in
    let end : outcome.mark.offset ≡ length volume
    = sym (length-take-le outcome.mark.offset outcome.buffer stands.room) ∙ ap length bytes in
    let base : 80 ≤ outcome.mark.offset = w.grows in
    record {
      header_accepted = h.answer;
      each_append_accepted = rw h.holds w.answers;
      same_bytes = rw h.holds bytes;
      rest_as_it_was =
          rw (h.holds, ← end)
          (w.rest ∙ drop-later 80 outcome.mark.offset first buffer base (drop-put buffer 0 header 80 (omega arith)));
    }
