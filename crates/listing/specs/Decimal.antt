-- Numbers as decimal text.
use Rattle.std.specs.Prelude.{ℕ, zero, suc, ◌+◌, ◌/◌, ◌%◌, cond, List, [], ◌∷◌, ◌++◌, ltb}

-- the ASCII code of a digit
abbrev pub digit : ℕ → ℕ
digit d = 48 + d

-- the decimal digits of a number, the highest first, without zeros in front. The first number counts down and is never used up:
-- a number has at most as many digits as it is high
unfoldable pub digits_within : (steps number : ℕ) → List ℕ
digits_within zero number = []
digits_within (suc steps) number =
    cond (ltb number 10) (digit number ∷ []) (digits_within steps (number / 10) ++ (digit (number % 10) ∷ []))

unfoldable pub decimal : (number : ℕ) → List ℕ
decimal number = digits_within (suc number) number
