-- The first bad text: what is found in one text, in the texts after it, and that it is the first that is not well-formed. Assumes
-- nothing.
use Prim.Native.Nat.{ℕ, suc, ◌+◌, ◌≤◌}
use mathlib.Core.Path.{◌≡◌, refl, sym, ap, ◌∙◌}
use mathlib.Core.Bool.{Bool, true, false, false≢true}
use mathlib.Core.Logic.{◌⊎◌, inl, inr, ⊎_elim}
use mathlib.Core.List.{List, [], ◌∷◌}
use native.Mathlib.Omega.{arith}
use lib.Dec.{ltb, leb-suc-suc}
use lib.ListN.{length}
use borrow.Author.Tests.{lt-ltb, eq-eqb, ne_eqb}
use Rattle.utf8.specs.inner.Length.{well_formed_length, is_text}
use Rattle.utf8.proofs.Longest.{well_formed_length-is_the_longest, text_iff_well_formed}
use Rattle.refusal.specs.Texts.{FirstBad, this_one, a_later_one}
use Rattle.refusal.specs.inner.FirstBad.{one_later, first_bad, some_bad}
use Rattle.refusal.specs.declared.BadText.{BadText}

module _ (text : List ℕ) (texts : List (List ℕ)) where
  -- a text whose well-formed beginning is all of it is passed
  pub passes : well_formed_length text ≡ length text → first_bad (text ∷ texts) ≡ one_later (first_bad texts)
  unfolding first_bad is_text
  passes e = rw (eq-eqb (well_formed_length text) (length text) e)

  -- and any other is the one
  pub stops : (well_formed_length text ≡ length text → ⊥) → first_bad (text ∷ texts) ≡ record { text = 0; start = well_formed_length text }
  unfolding first_bad is_text
  stops d = rw (ne_eqb (well_formed_length text) (length text) d)

-- one text
module _ (text : List ℕ) where
  pub one_good : well_formed_length text ≡ length text → record { text = 1; start = 0 } ≡ first_bad (text ∷ [])
  unfolding first_bad
  one_good e = sym (passes text [] e)

  -- what is found in it alone is that it is passed, or that it is the one, whatever comes after it
  pub one : (texts : List (List ℕ))
      → ((first_bad (text ∷ []) ≡ record { text = 1; start = 0 }) × (first_bad (text ∷ texts) ≡ one_later (first_bad texts)))
      ⊎ (((first_bad (text ∷ [])).text ≡ 0) × (first_bad (text ∷ texts) ≡ first_bad (text ∷ [])))
  unfolding first_bad
  one texts = go (is_text text) refl
    where
      go : (t : Bool) → is_text text ≡ t
          → ((first_bad (text ∷ []) ≡ record { text = 1; start = 0 }) × (first_bad (text ∷ texts) ≡ one_later (first_bad texts)))
          ⊎ (((first_bad (text ∷ [])).text ≡ 0) × (first_bad (text ∷ texts) ≡ first_bad (text ∷ [])))
      go true q = inl (rw q, rw q)
      go false q = inr (rw q, rw q)

-- Two texts, looked at one by one.
module _ (first second : List ℕ) {bad : BadText} (b : bad ≡ first_bad (first ∷ [])) where
  pub first_of_two : bad.text ≡ 0 → bad ≡ first_bad (first ∷ second ∷ [])
  first_of_two z =
      ⊎_elim (λ p. let e : ◌≡◌ {A = ℕ} 1 0 = ap (λ r. r.text) (sym p.0 ∙ sym b) ∙ z in absurd (omega arith)) (λ p. b ∙ sym p.1)
      (one first (second ∷ []))

  pub second_of_two : {later : BadText} → (bad.text ≡ 0 → ⊥) → later ≡ first_bad (second ∷ [])
      → record { text = 1 + later.text; start = later.start } ≡ first_bad (first ∷ second ∷ [])
  second_of_two {later} d l =
      ⊎_elim (λ p. rw (p.1, ← l) (ap (λ n. record { text = n; start = later.start }) (omega arith)))
      (λ p. absurd (d (ap (λ r. r.text) b ∙ p.0)))
      (one first (second ∷ []))

pub at_most_one : (text : List ℕ) {bad : BadText} → bad ≡ first_bad (text ∷ []) → bad.text ≤ 1
at_most_one text e =
    ⊎_elim (λ p. omega (arith, ap (λ r. r.text) (e ∙ p.0))) (λ p. omega (arith, ap (λ r. r.text) e ∙ p.0)) (one text [])

-- one of the texts is bad exactly where the one that is found is among them
pub bad_within : (texts : List (List ℕ)) → ltb (first_bad texts).text (length texts) ≡ some_bad texts
unfolding some_bad first_bad
bad_within [] = refl
bad_within (text ∷ texts) = go (is_text text) refl (bad_within texts)
  where
    go : (t : Bool) → is_text text ≡ t → ltb (first_bad texts).text (length texts) ≡ some_bad texts
        → ltb (first_bad (text ∷ texts)).text (length (text ∷ texts)) ≡ some_bad (text ∷ texts)
    go true q e = rw q (leb-suc-suc (suc (first_bad texts).text) (length texts) ∙ e)
    go false q e = rw q (lt-ltb 0 (suc (length texts)) (omega arith))

-- Where one of the texts is bad, the one that is found is the first.
pub some_bad_first : (texts : List (List ℕ)) → some_bad texts ≡ true → FirstBad texts (first_bad texts).text (first_bad texts).start
unfolding some_bad first_bad
some_bad_first [] e = absurd (false≢true e)
some_bad_first (text ∷ texts) e = go (is_text text) refl (some_bad_first texts)
  where
    go : (t : Bool) → is_text text ≡ t
        → (some_bad texts ≡ true → FirstBad texts (first_bad texts).text (first_bad texts).start)
        → FirstBad (text ∷ texts) (first_bad (text ∷ texts)).text (first_bad (text ∷ texts)).start
    go true q others = rw q (a_later_one ((text_iff_well_formed text).0 q) (others (rw q at e)))
    go false q others = rw q (this_one (λ w. false≢true (sym q ∙ (text_iff_well_formed text).1 w)) (well_formed_length-is_the_longest text))
