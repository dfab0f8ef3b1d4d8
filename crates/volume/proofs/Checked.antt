-- A volume has exactly one verdict, and it is the one that is computed. Assumes nothing.
use Rattle.std.specs.Prelude.{Some, None, Ok, Err}
use Prim.Native.Nat.{ℕ}
use mathlib.Core.Path.{◌≡◌, refl, sym, ap, ◌∙◌}
use mathlib.Core.Logic.{◌↔◌}
use mathlib.Core.List.{List}
use Rattle.volume.specs.Heading.{header_answer}
use Rattle.volume.specs.Reading.{read_answer}
use Rattle.volume.specs.Checking.{CheckedFrom, accepted_at_the_end, refused_at_a_block, after_a_block, Checked, refused_at_the_header, after_the_header}
use Rattle.volume.specs.declared.Bookmark.{Bookmark}
use Rattle.volume.specs.declared.Found.{Found}
use Rattle.volume.specs.Answers.{HeaderAnswer, ReadAnswer, Verdict}
use Rattle.volume.specs.inner.Walk.{on_read}
use Rattle.volume.specs.inner.Check.{check_way, check_from, after_header, check_answer}
use Rattle.volume.proofs.Walk.{block_after_block, walk_step}

module _ (volume : List ℕ) (sequence : ℕ) where
  -- what is computed from a bookmark on is checked from it on
  abbrev Holds : Bookmark → Type 0
  Holds mark = CheckedFrom volume sequence mark (check_from volume sequence mark)

  one_reading : (mark : Bookmark) → ((found : Found) → read_answer volume mark ≡ Ok (Some found) → Holds found.next)
      → (a : ReadAnswer) → read_answer volume mark ≡ a
      → CheckedFrom volume sequence mark (on_read (check_way sequence) mark (λ next. check_from volume sequence next) a)
  unfolding on_read
  one_reading mark later (Ok None) e = accepted_at_the_end e
  one_reading mark later (Ok (Some found)) e = after_a_block e (later found e)
  one_reading mark later (Err refusal) e = refused_at_a_block e

  pub checked_from : (mark : Bookmark) → Holds mark
  checked_from =
      block_after_block volume Holds
      (λ mark later. rw (walk_step volume (check_way sequence) mark refl) (one_reading mark later (read_answer volume mark) refl))

  -- and nothing else is
  pub only_from : {mark : Bookmark} {answer : Verdict} → CheckedFrom volume sequence mark answer → answer ≡ check_from volume sequence mark
  unfolding on_read
  only_from {mark} (accepted_at_the_end e) = sym (walk_step volume (check_way sequence) mark e)
  only_from {mark} (refused_at_a_block e) = sym (walk_step volume (check_way sequence) mark e)
  only_from {mark} (after_a_block e later) = only_from later ∙ sym (walk_step volume (check_way sequence) mark e)

module _ (volume : List ℕ) where
  pub checked : Checked volume (check_answer volume)
  unfolding check_answer after_header
  checked = go (header_answer volume) refl
    where
      go : (a : HeaderAnswer) → header_answer volume ≡ a → Checked volume (after_header volume a)
      go (Ok header) e = after_the_header e (checked_from volume header.sequence header.next)
      go (Err refusal) e = refused_at_the_header e

  only_answer : {answer : Verdict} → Checked volume answer → answer ≡ check_answer volume
  unfolding check_answer after_header
  only_answer (refused_at_the_header e) = sym (ap (after_header volume) e)
  only_answer (after_the_header {header = header} e later) = only_from volume header.sequence later ∙ sym (ap (after_header volume) e)

  pub checked_exactly : (answer : Verdict) → Checked volume answer ↔ (answer ≡ check_answer volume)
  checked_exactly answer = (only_answer, λ e. rw e checked)
