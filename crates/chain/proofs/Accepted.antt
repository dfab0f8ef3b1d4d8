-- The header of an accepted volume has no fault, and its number is the one that the check answers. Assumes nothing.
use Rattle.std.specs.Prelude.{Ok}
use Prim.Native.Nat.{ℕ}
use mathlib.Core.Path.{◌≡◌, ap}
use mathlib.Core.List.{List}
use native.Mathlib.Omega.{arith}
use Rattle.volume.specs.Heading.{sequence_of, header_fault, first_mark}
use Rattle.volume.specs.Checking.{CheckedFrom, accepted_at_the_end, refused_at_a_block, after_a_block}
use Rattle.volume.specs.inner.Check.{after_header, check_answer}
use Rattle.volume.specs.declared.Bookmark.{Bookmark}
use Rattle.volume.specs.declared.Accepted.{Accepted}
use Rattle.volume.specs.Answers.{HeaderAnswer, Verdict}
use Rattle.volume.proofs.HeaderImage.{HeaderAnswers, accepts, rejects, header_answers}
use Rattle.volume.proofs.Checked.{checked_from}

module _ (volume : List ℕ) (accepted : Accepted) where
  -- the check of the blocks answers with the number that it was given
  same_number : {sequence : ℕ} {mark : Bookmark} {answer : Verdict} → CheckedFrom volume sequence mark answer
      → answer ≡ Ok accepted → accepted.sequence ≡ sequence
  same_number {sequence} {mark} (accepted_at_the_end e) same =
      let a : accepted ≡ record { sequence = sequence; end = mark } = cc in
      ap (λ (x : Accepted). x.sequence) a
  same_number (refused_at_a_block e) same = let z : ◌≡◌ {A = ℕ} 0 1 = cc in absurd (omega arith)
  same_number (after_a_block e later) same = same_number later same

  pub accepted_header : check_answer volume ≡ Ok accepted → (header_fault volume ≡ 0) × (accepted.sequence ≡ sequence_of volume)
  unfolding check_answer after_header
  accepted_header = go (header_answers volume)
    where
      go : {a : HeaderAnswer} → HeaderAnswers volume a → after_header volume a ≡ Ok accepted
          → (header_fault volume ≡ 0) × (accepted.sequence ≡ sequence_of volume)
      go (accepts f) e = (f, same_number (checked_from volume (sequence_of volume) (first_mark (sequence_of volume))) e)
      go (rejects f) e = let z : ◌≡◌ {A = ℕ} 0 1 = cc in absurd (omega arith)
