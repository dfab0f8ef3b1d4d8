-- The check refuses a volume exactly as the reader does: both go from bookmark to bookmark. Assumes nothing.
use Rattle.std.specs.Prelude.{Ok, Err}
use Prim.Native.Nat.{ℕ}
use mathlib.Core.Path.{◌≡◌, sym, ap, subst}
use mathlib.Core.List.{List}
use native.Mathlib.Omega.{arith}
use lib.ListN.{length}
use Rattle.refusal.specs.Refusal.{Refusal}
use Rattle.format.specs.Blocks.{Block}
use Rattle.volume.specs.Heading.{header_answer}
use Rattle.volume.specs.Checking.{Checked, refused_at_the_header, after_the_header}
use Rattle.volume.specs.declared.Bookmark.{Bookmark}
use Rattle.volume.specs.declared.HeaderRead.{HeaderRead}
use Rattle.volume.specs.declared.Rejected.{Rejected}
use Rattle.volume.specs.Answers.{Verdict}
use Rattle.volume.proofs.Checked.{checked, checked_exactly}
use Rattle.claims.specs.Library.{ours}
use Rattle.claims.specs.Demand3Reading.{Stops, RefusedAt, at_the_header, at_a_block, RefusedVolumes}
use Rattle.claims.proofs.Reader.{check_stops, stops_count, Told, told}
use Rattle.claims.proofs.Demand3Reading.{first_given}

-- after the header no block is counted yet
first_number : (volume : List ℕ) (header : HeaderRead) → header_answer volume ≡ Ok header → header.next.number ≡ 0
first_number volume header e = sym (ap (λ (mark : Bookmark). mark.number) (first_given volume header e))

-- so the numbers count from 0
pub from_zero : {volume : List ℕ} {header : HeaderRead} {blocks : List Block} {at : Bookmark} {refusal : Refusal}
    → header_answer volume ≡ Ok header → Stops ours volume header.next.number header.next blocks at refusal
    → Stops ours volume 0 header.next blocks at refusal
from_zero {volume} {header} {blocks} {at} {refusal} e stops =
    subst (λ (number : ℕ). Stops ours volume number header.next blocks at refusal) (first_number volume header e) stops

refused_as_the_reader : {volume : List ℕ} {rejected : Rejected} → RefusedAt ours volume rejected → Checked volume (Err rejected)
refused_as_the_reader (at_the_header e) = refused_at_the_header e
refused_as_the_reader {volume} (at_a_block {header = header} {blocks = blocks} {at = at} {refusal = refusal} e stops) =
    subst (λ (n : ℕ). Checked volume (Err (record { refusal = refusal; offset = at.offset; blocks = n })))
    (omega (arith, stops_count stops, first_number volume header e)) (after_the_header e (check_stops header.sequence stops))

refused_there : {volume : List ℕ} {answer : Verdict} (rejected : Rejected) → Checked volume answer → answer ≡ Err rejected
    → RefusedAt ours volume rejected
refused_there {volume} rejected (refused_at_the_header {refusal = refusal} e) same =
    let r : record { refusal = refusal; offset = 0; blocks = 0 } ≡ rejected = cc in
    subst (RefusedAt ours volume) r (at_the_header e)
refused_there {volume} rejected (after_the_header {header = header} e later) same =
    let t : Told volume header.next (Err rejected) = subst (Told volume header.next) same (told later) in
    let count : length t.0 ≡ t.1.number = omega (arith, stops_count t.2, first_number volume header e) in
    subst (RefusedAt ours volume) (sym t.3) (rw (← count) (at_a_block e (from_zero e t.2)))

pub refused_volumes : RefusedVolumes ours
refused_volumes volume rejected =
    (refused_there rejected (checked volume), λ r. sym ((checked_exactly volume (Err rejected)).0 (refused_as_the_reader r)))
