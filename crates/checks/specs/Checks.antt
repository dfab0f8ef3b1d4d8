-- Checks in order: the first fault decides.
use Rattle.std.specs.Prelude.{ℕ, ◌≡◌, Bool, true, false, cond, List, [], ◌∷◌}

-- whether something is at fault, and the refusal number that it then gives
pub data Check : Type 0 where
  check : (fault : Bool) (number : ℕ) → Check

-- what a table of checks answers: `Decides checks answer`
pub data Decides : List Check → ℕ → Type 0 where
  -- nothing is at fault: 0
  clear : Decides [] 0
  -- the first check is at fault: its number, whatever comes after it
  hit : {fault : Bool} {number : ℕ} {checks : List Check} → fault ≡ true → Decides (check fault number ∷ checks) number
  -- the first check is not at fault: what the others answer
  miss : {fault : Bool} {number answer : ℕ} {checks : List Check} → fault ≡ false → Decides checks answer
      → Decides (check fault number ∷ checks) answer

-- the same answer, computed
unfoldable pub first_fault : List Check → ℕ
first_fault [] = 0
first_fault (check fault number ∷ checks) = cond fault number (first_fault checks)
