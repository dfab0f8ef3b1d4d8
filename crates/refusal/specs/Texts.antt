-- Which of several texts is bad, and where: the first that is not well-formed, by its place among them, counted from 0, and the length
-- of its longest well-formed beginning, at which its first ill-formed sequence starts.
use Rattle.std.specs.Prelude.{ℕ, suc, List, ◌∷◌}
use Rattle.utf8.specs.Grammar.{WellFormed, Longest}

pub data FirstBad : (texts : List (List ℕ)) (place start : ℕ) → Type 0 where
  -- the first text is bad, whatever comes after it
  this_one : {text : List ℕ} {texts : List (List ℕ)} {start : ℕ} → (WellFormed text → ⊥) → Longest text start
      → FirstBad (text ∷ texts) 0 start
  -- the first text is well-formed, and another is bad
  a_later_one : {text : List ℕ} {texts : List (List ℕ)} {place start : ℕ} → WellFormed text → FirstBad texts place start
      → FirstBad (text ∷ texts) (suc place) start
