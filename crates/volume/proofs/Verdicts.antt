-- How the check ends: where it accepts, no table is due at the end bookmark, and where it refuses, the number is not 0, for the
-- reading that ends it is "end" or refuses with a fault. Assumes nothing.
use Rattle.std.specs.Prelude.{Ok, Err}
use Prim.Native.Nat.{ℕ}
use mathlib.Core.Path.{◌≡◌, sym, ap, ◌∙◌}
use mathlib.Core.Bool.{false}
use mathlib.Core.List.{List}
use native.Mathlib.Omega.{arith}
use Rattle.refusal.specs.Refusal.{refusal_of, Refusal}
use Rattle.refusal.proofs.Laws.{with_number}
use Rattle.volume.specs.Heading.{header_fault, header_answer}
use Rattle.volume.specs.Reading.{read_fault, read_answer}
use Rattle.volume.specs.Checking.{CheckedFrom, accepted_at_the_end, refused_at_a_block, after_a_block, Checked, refused_at_the_header, after_the_header}
use Rattle.volume.specs.declared.Bookmark.{Bookmark}
use Rattle.volume.specs.Answers.{HeaderAnswer, ReadAnswer, Verdict}
use Rattle.volume.specs.inner.Check.{check_answer}
use Rattle.volume.proofs.Steps.{refusal_at, Answers, ends, finds, refuses, answers}
use Rattle.volume.proofs.HeaderImage.{HeaderAnswers, accepts, rejects, header_answers}
use Rattle.volume.proofs.OneCall.{end_sound}
use Rattle.volume.proofs.Checked.{checked}

abbrev pub EndsWell : Verdict → Type 0
EndsWell (Ok answer) = answer.end.due ≡ false
EndsWell (Err answer) = answer.refusal.number ≡ 0 → ⊥

-- a refusal has a number
read_refusal : (volume : List ℕ) (mark : Bookmark) (refusal : Refusal) → read_answer volume mark ≡ Err refusal → refusal.number ≡ 0 → ⊥
read_refusal volume mark refusal = go (answers volume mark)
  where
    go : {a : ReadAnswer} → Answers volume mark a → a ≡ Err refusal → refusal.number ≡ 0 → ⊥
    go (ends p) e z = let clash : ◌≡◌ {A = ℕ} 0 1 = cc in omega arith
    go (finds p f) e z = let clash : ◌≡◌ {A = ℕ} 0 1 = cc in omega arith
    go (refuses p f) e z = let same : refusal_at volume mark ≡ refusal = cc in f (sym (with_number (read_fault volume mark) _) ∙ ap (λ r. r.number) same ∙ z)

header_refusal : (volume : List ℕ) (refusal : Refusal) → header_answer volume ≡ Err refusal → refusal.number ≡ 0 → ⊥
header_refusal volume refusal = go (header_answers volume)
  where
    go : {a : HeaderAnswer} → HeaderAnswers volume a → a ≡ Err refusal → refusal.number ≡ 0 → ⊥
    go (accepts f) e z = let clash : ◌≡◌ {A = ℕ} 0 1 = cc in omega arith
    go (rejects f) e z = let same : refusal_of (header_fault volume) ≡ refusal = cc in f (ap (λ r. r.number) same ∙ z)

from_ends_well : {volume : List ℕ} {sequence : ℕ} {mark : Bookmark} {answer : Verdict}
    → CheckedFrom volume sequence mark answer → EndsWell answer
from_ends_well {volume} {mark = mark} (accepted_at_the_end e) = (end_sound volume mark e).none_due
from_ends_well {volume} {mark = mark} (refused_at_a_block {refusal = refusal} e) = read_refusal volume mark refusal e
from_ends_well (after_a_block e later) = from_ends_well later

ends_well : {volume : List ℕ} {answer : Verdict} → Checked volume answer → EndsWell answer
ends_well {volume} (refused_at_the_header {refusal = refusal} e) = header_refusal volume refusal e
ends_well (after_the_header e later) = from_ends_well later

pub check_ends_well : (volume : List ℕ) → EndsWell (check_answer volume)
check_ends_well volume = ends_well (checked volume)
