-- The refusal of a block with texts, by its number. Assumes nothing.
use Prim.Native.Nat.{ℕ}
use mathlib.Core.Path.{◌≡◌, refl}
use mathlib.Core.Bool.{Bool, true, false, true≢false, cond}
use mathlib.Core.List.{List, []}
use lib.Dec.{eqb}
use borrow.Author.Tests.{eqb-true, ne_eqb}
use Rattle.refusal.specs.Refusal.{refusal_of, refusal_at, refusal_with}
use Rattle.refusal.specs.inner.FirstBad.{first_bad}
use Rattle.refusal.specs.declared.BadText.{BadText}
use Rattle.refusal.specs.Refusal.{Refusal}

-- any number but 10
pub with_other : (number : ℕ) (texts : List (List ℕ)) → (number ≡ 10 → ⊥) → refusal_of number ≡ refusal_with number texts
unfolding refusal_with
with_other number texts d = go (eqb number 10) (ne_eqb number 10 d)
  where
    go : (t : Bool) → t ≡ false → refusal_of number ≡ cond t (refusal_at (first_bad texts)) (refusal_of number)
    go true e = absurd (true≢false e)
    go false e = refl

-- 10
pub with_text : (number : ℕ) (texts : List (List ℕ)) {bad : BadText} {refusal : Refusal} → number ≡ 10 → bad ≡ first_bad texts
    → refusal ≡ refusal_at bad → refusal ≡ refusal_with number texts
unfolding refusal_with
with_text number texts e b r = rw (e, ← b) r

-- it has the number, whichever that is
pub with_number : (number : ℕ) (texts : List (List ℕ)) → (refusal_with number texts).number ≡ number
unfolding refusal_with
with_number number texts = go (eqb number 10) refl
  where
    go : (t : Bool) → eqb number 10 ≡ t → (cond t (refusal_at (first_bad texts)) (refusal_of number)).number ≡ number
    go true q = rw (eqb-true number 10 q)
    go false q = refl

-- a block without texts has nothing to say of them
pub without_texts : (number : ℕ) → refusal_of number ≡ refusal_with number []
unfolding refusal_with first_bad
without_texts number = go (eqb number 10) refl
  where
    go : (t : Bool) → eqb number 10 ≡ t → refusal_of number ≡ cond t (refusal_at (first_bad [])) (refusal_of number)
    go true q = rw (eqb-true number 10 q)
    go false q = refl
