-- Where the reader is refused and no table is due, the longest accepted beginning of the volume ends: up to there all is read as in the
-- volume, and a longer beginning that is accepted would take the reader further. Assumes nothing.
use Rattle.std.specs.Prelude.{Ok, Err}
use Prim.Native.Nat.{ℕ, ◌≤◌}
use mathlib.Core.Path.{◌≡◌, sym, ap, ◌∙◌, subst}
use mathlib.Core.Bool.{false}
use mathlib.Core.List.{List, ◌++◌}
use native.Mathlib.Omega.{arith}
use lib.ListN.{length, take, drop, take-append-drop}
use lib.Seq.{length-take-le, take-length, take-take}
use Rattle.number.specs.Number.{Bytes}
use Rattle.number.proofs.Digits.{bytes_take}
use Rattle.refusal.specs.Refusal.{Refusal}
use Rattle.block.specs.Order.{volume_limit}
use Rattle.volume.specs.Heading.{sequence_of, header_fault, first_mark, header_answer}
use Rattle.volume.specs.Reading.{read_answer}
use Rattle.volume.specs.Checking.{Checked, accepted_at_the_end, refused_at_the_header, after_the_header}
use Rattle.volume.specs.declared.Bookmark.{Bookmark}
use Rattle.volume.specs.declared.HeaderRead.{HeaderRead}
use Rattle.volume.specs.declared.Accepted.{Accepted}
use Rattle.volume.specs.Answers.{Verdict}
use Rattle.volume.proofs.Passed.{header_passed}
use Rattle.volume.proofs.OneCall.{AtEnd, end_sound, end_complete}
use Rattle.volume.proofs.Checked.{checked, checked_exactly}
use Rattle.claims.specs.Library.{ours}
use Rattle.claims.specs.Demand3Reading.{IsAccepted}
use Rattle.claims.specs.Torn.{LongestAccepted}
use Rattle.claims.proofs.Reader.{Told, told}
use Rattle.claims.proofs.Demand3Reading.{header_given}
use Rattle.claims.proofs.Alike.{header_alike}
use Rattle.claims.proofs.Passing.{Passes, calls_pass, checked_past, passes_further, not_refused_before, passes_on, passes_in_beginning}

-- what a volume with a sound header begins with
pub record Begun (volume : List ℕ) (header : HeaderRead) : Type 0 where
  pub no_fault : header_fault volume ≡ 0
  pub small : length volume ≤ volume_limit
  pub long : 80 ≤ length volume
  pub first : first_mark (sequence_of volume) ≡ header.next
  pub base : header.next.offset ≡ 80

pub begun : (volume : List ℕ) (header : HeaderRead) → header_answer volume ≡ Ok header → Begun volume header
begun volume header e =
    let given = header_given volume header e in
    let passed = header_passed volume given.0 in
    let first : first_mark (sequence_of volume) ≡ header.next = ap (λ (h : HeaderRead). h.next) given.1 in
    record {
      no_fault = given.0;
      small = passed.small;
      long = passed.whole;
      first = first;
      base = sym (ap (λ (mark : Bookmark). mark.offset) first);
    }

-- How an accepted volume is read: from the header to "end".
pub record ReadThrough (volume : List ℕ) : Type 0 where
  pub header : HeaderRead
  pub end : Bookmark
  pub sound_header : header_answer volume ≡ Ok header
  pub passes : Passes volume header.next end
  pub ends : AtEnd volume end

pub read_through : (volume : List ℕ) → IsAccepted ours volume → ReadThrough volume
read_through volume (answer, accepted) = go (checked volume) accepted
  where
    go : {v : Verdict} → Checked volume v → v ≡ Ok answer → ReadThrough volume
    go (refused_at_the_header e) same = let z : ◌≡◌ {A = ℕ} 0 1 = cc in absurd (omega arith)
    go (after_the_header {header = header} e later) same =
        let t : Told volume header.next (Ok answer) = subst (Told volume header.next) same (told later) in
        let p = calls_pass t.1 in
        record {
          header = header;
          end = answer.end;
          sound_header = e;
          passes = p.0;
          ends = end_sound volume answer.end p.1;
        }

module _ (volume : List ℕ) (b : Bytes volume) (header : HeaderRead) (sound_header : header_answer volume ≡ Ok header)
    (at : Bookmark) (passes : Passes volume header.next at) where
  start : Begun volume header
  start = begun volume header sound_header

  within : (80 ≤ at.offset) × (at.offset ≤ length volume)
  within =
      let base = start.base in
      let long = start.long in
      let far = passes_further passes (omega arith) in
      (omega (arith, far.0), far.1)

  beginning_accepted : at.due ≡ false → IsAccepted ours (take at.offset volume)
  beginning_accepted no_table =
      let left : List ℕ = take at.offset volume in
      let off : List ℕ = drop at.offset volume in
      let together : left ++ off ≡ volume = take-append-drop at.offset volume in
      let l : length left ≡ at.offset = length-take-le at.offset volume within.1 in
      let small : length left ≤ volume_limit = omega (arith, within.1, start.small) in
      let there : Passes left header.next at
      = passes_in_beginning left off (rw together b) small (omega arith)
      (subst (λ (bytes : List ℕ). Passes bytes header.next at) (sym together) passes) in
      let ends : AtEnd left at = record { small = small; base = within.0; offset = sym l; none_due = no_table } in
      let heads : header_answer left ≡ Ok header
      = header_alike volume left b small (take-take 80 at.offset volume within.0) start.no_fault ∙ sound_header in
      let answer : Accepted = record { sequence = header.sequence; end = at } in (
        answer,
        sym ((checked_exactly left (Ok answer)).0
            (after_the_header heads (checked_past there (accepted_at_the_end (end_complete left at ends))))),
      )

  no_longer : {refusal : Refusal} → read_answer volume at ≡ Err refusal
      → (m : ℕ) → m ≤ length volume → IsAccepted ours (take m volume) → m ≤ at.offset
  no_longer refused m h a =
      let left : List ℕ = take m volume in
      let off : List ℕ = drop m volume in
      let together : left ++ off ≡ volume = take-append-drop m volume in
      let l : length left ≡ m = length-take-le m volume h in
      let r : ReadThrough left = read_through left a in
      let g : Begun left r.header = begun left r.header r.sound_header in
      let heads : header_answer volume ≡ header_answer left
      = header_alike left volume (bytes_take m volume b) start.small
      (sym (take-take 80 m volume (omega (arith, g.long)))) g.no_fault in
      let same : r.header ≡ header = cc (heads, r.sound_header, sound_header) in
      let on : Passes volume r.header.next r.end
      = subst (λ (bytes : List ℕ). Passes bytes r.header.next r.end) together
      (passes_on left off (bytes_take m volume b) (rw together start.small) r.passes) in
      let from : header.next.offset ≤ length volume = omega (arith, start.base, start.long) in
      let there = not_refused_before from (subst (λ (k : HeaderRead). Passes volume k.next r.end) same on) passes refused in
      omega (arith, r.ends.offset)

  pub longest_there : {refusal : Refusal} → read_answer volume at ≡ Err refusal → at.due ≡ false
      → LongestAccepted ours volume at.offset
  longest_there refused no_table =
      record { within = within.1; accepted = beginning_accepted no_table; longest = no_longer refused }

-- Of an accepted volume it is the volume itself.
pub longest_whole : (volume : List ℕ) → IsAccepted ours volume → LongestAccepted ours volume (length volume)
longest_whole volume a =
    record { within = omega arith; accepted = rw (take-length volume) a; longest = λ m h other. h }

-- No volume has two.
pub one_longest : {volume : List ℕ} {m n : ℕ} → LongestAccepted ours volume m → LongestAccepted ours volume n → m ≡ n
one_longest {volume} {m} {n} p q =
    let above : m ≤ n = q.longest m p.within p.accepted in
    let below : n ≤ m = p.longest n q.within q.accepted in
    omega arith
