-- At a start of appending a header and blocks stand in the buffer below the bookmark. Assumes nothing.
use Prim.Native.Nat.{ℕ, ◌+◌, ◌≤◌}
use mathlib.Core.Path.{◌≡◌, refl, sym, ap, ◌∙◌, subst}
use mathlib.Core.List.{List, [], ◌++◌, append-nil}
use native.Mathlib.Omega.{arith}
use lib.ListN.{length, length-append}
use lib.Seq.{take_at}
use Rattle.number.specs.Number.{Bytes, put}
use Rattle.number.proofs.Digits.{bytes_take}
use Rattle.number.proofs.Put.{length-put}
use Rattle.format.specs.Headers.{Header, header_image, HeaderRules}
use Rattle.format.specs.Readings.{Reading, Keeps, images, volume_of, ReadingOf}
use Rattle.block.specs.Order.{volume_limit}
use Rattle.volume.specs.Heading.{first_mark}
use Rattle.volume.specs.declared.Bookmark.{Bookmark}
use Rattle.volume.specs.declared.Accepted.{Accepted}
use Rattle.volume.proofs.HeaderImage.{length-header, HeaderStands, header_sound}
use Rattle.claims.specs.Library.{ours}
use Rattle.claims.specs.Demand3Reading.{ReaderGives}
use Rattle.claims.specs.Demand3.{Start, from_volume, from_header}
use Rattle.claims.proofs.Appending.{Written, written_header}
use Rattle.claims.proofs.Walk.{after_all}
use Rattle.claims.proofs.Demand3Reading.{given, gives_reading, reading_gives, check_answers}
use Rattle.claims.proofs.Sofar.{start_of, offset_after, Sofar, take-written, keeps_follow}

-- A header just written.
pub header_stands : (buffer : List ℕ) (header : Header) → HeaderRules header → 80 ≤ length buffer
    → Sofar (put buffer 0 (header_image header)) (first_mark header.sequence) (record { header = header; blocks = [] })
unfolding images volume_of
header_stands buffer header rules room =
    let l : length (header_image header) ≡ 80 = length-header header rules in
    let end : 0 + length (header_image header) ≡ 80 = omega arith in
    record {
      header = rules;
      follow = tt;
      mark_after_lem = refl;
      base = omega arith;
      room = omega (arith, length-put buffer 0 (header_image header));
      small = omega arith;
      same = rw end at (take-written buffer 0 (header_image header) (omega arith)) ∙ sym (append-nil (header_image header));
    }

-- A volume with a reading, with room after it.
pub volume_stands : (volume spare : List ℕ) (reading : Reading) → length volume ≤ volume_limit → ReadingOf volume reading
    → Sofar (volume ++ spare) (after_all (start_of reading) reading.blocks) reading
unfolding volume_of
volume_stands volume spare reading small r =
    let k : Keeps reading = r.keeps in
    let header : List ℕ = header_image reading.header in
    let l : length header ≡ 80 = length-header reading.header k.header in
    let whole : length volume ≡ length header + length (images reading.blocks)
    = ap length (sym r.bytes) ∙ length-append header (images reading.blocks) in
    let end : length volume ≡ (after_all (start_of reading) reading.blocks).offset
    = omega (arith, offset_after (start_of reading) reading.blocks) in
    record {
      header = k.header;
      follow = keeps_follow reading k (rw r.bytes small);
      mark_after_lem = refl;
      base = omega arith;
      room = omega (arith, length-append volume spare);
      small = omega arith;
      same = take_at volume spare _ end ∙ sym r.bytes;
    }

-- the reader comes to "end" at one bookmark only
one_end : (volume : List ℕ) (reading : Reading) (a b : Bookmark) → ReaderGives ours volume reading a → ReaderGives ours volume reading b → a ≡ b
one_end volume reading a b p q =
    let accepted : Bookmark → Accepted
    = λ end. record { sequence = reading.header.sequence; end = end } in
    let c = check_answers volume reading a p in
    let d = check_answers volume reading b q in
    let same : accepted a ≡ accepted b = cc in
    ap (λ (answer : Accepted). answer.end) same

pub start_stands : (buffer : List ℕ) (mark : Bookmark) (sofar : Reading) → Bytes buffer → Start ours buffer mark sofar → Sofar buffer mark sofar
start_stands buffer mark sofar b (from_volume volume spare reading e a g) =
    let v : Bytes volume = subst Bytes (take_at volume spare (length volume) refl) (bytes_take (length volume) (volume ++ spare) (rw e b)) in
    let r : ReadingOf volume reading = gives_reading volume reading mark v g in
    let h : HeaderStands volume = header_sound volume v (given volume reading mark g).no_fault in
    let end : after_all (start_of reading) reading.blocks ≡ mark
    = one_end volume reading _ mark (reading_gives volume reading h.small r) g in
    rw (← e, ← end) (volume_stands volume spare reading h.small r)
start_stands buffer mark sofar b (from_header before header s answer e) =
    let w : Written before header = written_header before header mark s answer in
    let first : first_mark header.sequence ≡ mark = let p = w.answer in cc in
    rw (← e, w.holds, ← first) (header_stands before header w.rules w.room)
