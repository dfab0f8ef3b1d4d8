-- What one reading at a bookmark answers, and why. A block takes the reader further in the volume. Assumes nothing.
use Rattle.std.specs.Prelude.{Some, None, Ok, Err}
use Prim.Native.Nat.{ℕ, suc, ◌≤◌, ◌<◌}
use mathlib.Core.Path.{◌≡◌, refl, sym, ap}
use mathlib.Core.Bool.{Bool, true, false, cond}
use mathlib.Core.List.{List}
use native.Mathlib.Omega.{arith}
use lib.Dec.{eqb}
use lib.ListN.{length}
use borrow.Author.Tests.{eqb-true, eqb-false, eq-eqb, ne_eqb}
use Rattle.refusal.specs.Refusal.{refusal_with, Refusal}
use Rattle.block.specs.Fields.{kind_at}
use Rattle.block.specs.inner.Decoded.{block_at}
use Rattle.block.proofs.Passed.{kind_passed}
use Rattle.texts.specs.Texts.{texts_at}
use Rattle.volume.specs.Reading.{is_end, read_fault, next_mark, read_answer}
use Rattle.volume.specs.declared.Bookmark.{Bookmark}
use Rattle.volume.specs.declared.Found.{Found}
use Rattle.volume.specs.Answers.{ReadAnswer}
use Rattle.volume.proofs.Passed.{read_passed}

-- the block at a bookmark, its number and the bookmark after it
abbrev pub found_at : (volume : List ℕ) → Bookmark → Found
found_at volume mark = record { block = block_at volume mark.offset; number = mark.number; next = next_mark volume mark }

-- the refusal at a bookmark
abbrev pub refusal_at : (volume : List ℕ) → Bookmark → Refusal
refusal_at volume mark = refusal_with (read_fault volume mark) (texts_at volume mark.offset)

-- the three answers of a reading, each with its reason
pub data Answers (volume : List ℕ) (mark : Bookmark) : ReadAnswer → Type 0 where
  ends : is_end volume mark ≡ true → Answers volume mark (Ok None)
  finds : is_end volume mark ≡ false → read_fault volume mark ≡ 0 → Answers volume mark (Ok (Some (found_at volume mark)))
  refuses : is_end volume mark ≡ false → (read_fault volume mark ≡ 0 → ⊥) → Answers volume mark (Err (refusal_at volume mark))

pub answers : (volume : List ℕ) (mark : Bookmark) → Answers volume mark (read_answer volume mark)
unfolding read_answer
answers volume mark = go (is_end volume mark) refl (eqb (read_fault volume mark) 0) refl
  where
    go : (end : Bool) → is_end volume mark ≡ end → (sound : Bool) → eqb (read_fault volume mark) 0 ≡ sound
        → Answers volume mark (cond end (Ok None) (cond sound (Ok (Some (found_at volume mark))) (Err (refusal_at volume mark))))
    go true p sound q = ends p
    go false p true q = finds p (eqb-true _ _ q)
    go false p false q = refuses p (eqb-false _ _ q)

-- each answer, from what decides it
module _ (volume : List ℕ) (mark : Bookmark) where
  pub end_read : is_end volume mark ≡ true → Ok None ≡ read_answer volume mark
  unfolding read_answer
  end_read e = rw e

  pub refusal_read : (fault : ℕ) {refusal : Refusal} → is_end volume mark ≡ false → read_fault volume mark ≡ fault → (fault ≡ 0 → ⊥)
      → refusal ≡ refusal_with fault (texts_at volume mark.offset) → Err refusal ≡ read_answer volume mark
  unfolding read_answer
  refusal_read fault e f n r = rw (e, f, ne_eqb fault 0 n, r)

  pub found_read : is_end volume mark ≡ false → read_fault volume mark ≡ 0 → Ok (Some (found_at volume mark)) ≡ read_answer volume mark
  unfolding read_answer
  found_read e f = rw (e, eq-eqb (read_fault volume mark) 0 f)

-- a block that is handed out is the one that stands there
pub found_there : (volume : List ℕ) (mark : Bookmark) (found : Found) → read_answer volume mark ≡ Ok (Some found) → found_at volume mark ≡ found
found_there volume mark found e = go (answers volume mark) e
  where
    go : {a : ReadAnswer} → Answers volume mark a → a ≡ Ok (Some found) → found_at volume mark ≡ found
    go (ends p) q = let z : ◌≡◌ {A = ℕ} 0 1 = cc in absurd (omega arith)
    go (finds p f) q = cc
    go (refuses p f) q = let z : ◌≡◌ {A = ℕ} 0 1 = cc in absurd (omega arith)

-- and nothing is at fault with it
pub found_sound : (volume : List ℕ) (mark : Bookmark) (found : Found) → read_answer volume mark ≡ Ok (Some found) → read_fault volume mark ≡ 0
found_sound volume mark found e = go (answers volume mark) e
  where
    go : {a : ReadAnswer} → Answers volume mark a → a ≡ Ok (Some found) → read_fault volume mark ≡ 0
    go (ends p) q = let z : ◌≡◌ {A = ℕ} 0 1 = cc in absurd (omega arith)
    go (finds p f) q = f
    go (refuses p f) q = let z : ◌≡◌ {A = ℕ} 0 1 = cc in absurd (omega arith)

-- it has the bookmark's number, and the next bookmark has one more
pub read_counts : (volume : List ℕ) (mark : Bookmark) (found : Found) → read_answer volume mark ≡ Ok (Some found)
    → (found.number ≡ mark.number) × (found.next.number ≡ suc mark.number)
read_counts volume mark found e =
    let here = found_there volume mark found e in
    (sym (ap (λ (f : Found). f.number) here), sym (ap (λ (f : Found). f.next.number) here))

-- where no check is at fault, the next bookmark lies further on, and within the volume
pub sound_further : (volume : List ℕ) (mark : Bookmark) → read_fault volume mark ≡ 0
    → (mark.offset < (next_mark volume mark).offset) × ((next_mark volume mark).offset ≤ length volume)
sound_further volume mark e =
    let own = (read_passed volume mark e).block.own in
    (omega arith, (kind_passed volume mark.offset (kind_at volume mark.offset) own).whole)

pub read_further : (volume : List ℕ) (mark : Bookmark) (found : Found) → read_answer volume mark ≡ Ok (Some found)
    → (mark.offset < found.next.offset) × (found.next.offset ≤ length volume)
read_further volume mark found e = go (answers volume mark) e
  where
    go : {a : ReadAnswer} → Answers volume mark a → a ≡ Ok (Some found)
        → (mark.offset < found.next.offset) × (found.next.offset ≤ length volume)
    go (ends p) q = let z : ◌≡◌ {A = ℕ} 0 1 = cc in absurd (omega arith)
    go (finds p f) q = let s : found_at volume mark ≡ found = cc in rw (← s) (sound_further volume mark f)
    go (refuses p f) q = let z : ◌≡◌ {A = ℕ} 0 1 = cc in absurd (omega arith)
