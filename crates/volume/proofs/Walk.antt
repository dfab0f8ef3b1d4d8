-- Each block takes the reader further in the volume, so reading after reading comes to an end. Therefore a walk is one reading and then
-- the walk from the next bookmark on: its fuel never runs out. Assumes nothing.
use Rattle.std.specs.Prelude.{Some, None, Ok, Err}
use Prim.Native.Nat.{ℕ, zero, suc, ◌-◌, ◌<◌}
use mathlib.Core.Path.{◌≡◌, refl, ap, ◌∙◌}
use mathlib.Core.List.{List}
use native.Mathlib.Omega.{arith}
use lib.ListN.{length}
use Rattle.volume.specs.Reading.{read_answer}
use Rattle.volume.specs.declared.Bookmark.{Bookmark}
use Rattle.volume.specs.declared.Found.{Found}
use Rattle.volume.specs.Answers.{ReadAnswer}
use Rattle.volume.specs.inner.Walk.{Way, on_read, walk, walk_from}
use Rattle.volume.proofs.Steps.{read_further}

-- what holds at a bookmark if it holds at the one after its block, if there is a block, holds at every bookmark
module _ (volume : List ℕ) (P : Bookmark → Type 0)
    (step : (mark : Bookmark) → ((found : Found) → read_answer volume mark ≡ Ok (Some found) → P found.next) → P mark) where
  within : (fuel : ℕ) (mark : Bookmark) → length volume - mark.offset < fuel → P mark
  within zero mark h = absurd (omega arith)
  within (suc fuel) mark h =
      step mark (λ found e. let further = read_further volume mark found e in within fuel found.next (omega arith))

  pub block_after_block : (mark : Bookmark) → P mark
  block_after_block mark = within (suc (length volume - mark.offset)) mark (omega arith)

module _ {Answer : Type 0} (volume : List ℕ) (way : Way Answer) where
  -- what a walk makes of a reading depends on the walk from the next bookmark alone
  read_same : (mark : Bookmark) (onward other : Bookmark → Answer) (a : ReadAnswer)
      → ((found : Found) → a ≡ Ok (Some found) → onward found.next ≡ other found.next)
      → on_read way mark onward a ≡ on_read way mark other a
  unfolding on_read
  read_same mark onward other (Ok (Some found)) same = ap (way.at_block mark found) (same found refl)
  read_same mark onward other (Ok None) same = refl
  read_same mark onward other (Err refusal) same = refl

  -- how much fuel there is does not matter, if it is more than the bytes that are left
  walk_same : (m n : ℕ) (mark : Bookmark) → length volume - mark.offset < m → length volume - mark.offset < n
      → walk m volume way mark ≡ walk n volume way mark
  unfolding walk
  walk_same zero n mark h k = absurd (omega arith)
  walk_same (suc m) zero mark h k = absurd (omega arith)
  walk_same (suc m) (suc n) mark h k =
      read_same mark (λ next. walk m volume way next) (λ next. walk n volume way next) (read_answer volume mark)
      (λ found e. let further = read_further volume mark found e in walk_same m n found.next (omega arith) (omega arith))

  -- one step of a walk, by what the reading answers
  pub walk_step : (mark : Bookmark) {a : ReadAnswer} → read_answer volume mark ≡ a
      → walk_from volume way mark ≡ on_read way mark (λ next. walk_from volume way next) a
  unfolding walk_from walk
  walk_step mark e =
      read_same mark (λ next. walk (length volume) volume way next) (λ next. walk (suc (length volume)) volume way next)
      (read_answer volume mark)
      (λ found f.
      let further = read_further volume mark found f in
      walk_same (length volume) (suc (length volume)) found.next (omega arith) (omega arith))
      ∙ ap (on_read way mark (λ next. walk_from volume way next)) e
