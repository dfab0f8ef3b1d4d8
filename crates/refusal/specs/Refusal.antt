-- What a refusal tells.
use Rattle.std.specs.Prelude.{ℕ, cond, List, eqb}
use Rattle.refusal.specs.inner.FirstBad.{first_bad}
use Rattle.refusal.specs.declared.BadText.{BadText}

-- the number of the list of refusals; where it is 10, which text is the first that is not UTF-8, counted from 0, and where in it the
-- first ill-formed sequence starts
pub record Refusal : Type 0 where
  pub number : ℕ
  pub text : ℕ
  pub start : ℕ

-- any number but 10: it has nothing to say of a text
abbrev pub refusal_of : (number : ℕ) → Refusal
refusal_of number = record { number = number; text = 0; start = 0 }

-- 10: which text is the first that is bad, and where
abbrev pub refusal_at : BadText → Refusal
refusal_at bad = record { number = 10; text = bad.text; start = bad.start }

-- the refusal of a block that has these texts, once the checks have decided the number
unfoldable pub refusal_with : (number : ℕ) (texts : List (List ℕ)) → Refusal
refusal_with number texts = cond (eqb number 10) (refusal_at (first_bad texts)) (refusal_of number)
