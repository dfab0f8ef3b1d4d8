-- The decimal text of a number, digit by digit, and how long it is. Assumes nothing.
use Prim.Native.Nat.{ℕ, zero, suc, ◌+◌, ◌*◌, ◌/◌, ◌%◌, ◌^◌, ◌≤◌, ◌<◌}
use mathlib.Core.Path.{◌≡◌, refl, ap, ◌∙◌}
use mathlib.Core.Bool.{Bool, true, false}
use mathlib.Core.List.{List, [], ◌∷◌, ◌++◌}
use native.Mathlib.Nat.{pow-succ'}
use native.Mathlib.Omega.{arith}
use lib.Dec.{ltb}
use lib.ListN.{length, length-append}
use borrow.Author.Tests.{lt-ltb, le-ltb, ltb-true, ltb-false}
use Rattle.listing.specs.Decimal.{digit, digits_within, decimal}

-- how many steps are allowed does not matter, if they are more than the number is high
steps_same : (m n number : ℕ) → number < m → number < n → digits_within m number ≡ digits_within n number
unfolding digits_within
steps_same zero n number h k = absurd (omega arith)
steps_same (suc m) zero number h k = absurd (omega arith)
steps_same (suc m) (suc n) number h k =
    go (ltb number 10) refl (λ more. steps_same m n (number / 10) (omega arith) (omega arith))
  where
    go : (t : Bool) → ltb number 10 ≡ t → (10 ≤ number → digits_within m (number / 10) ≡ digits_within n (number / 10))
        → digits_within (suc m) number ≡ digits_within (suc n) number
    go true e same = simp e
    go false e same = simp e (ap (λ (s : List ℕ). s ++ (digit (number % 10) ∷ [])) (same (ltb-false number 10 e)))

pub decimal_one : (number : ℕ) → number < 10 → decimal number ≡ digit number ∷ []
unfolding decimal digits_within
decimal_one number h = simp (lt-ltb number 10 h)

pub decimal_more : (number : ℕ) → 10 ≤ number → decimal number ≡ decimal (number / 10) ++ (digit (number % 10) ∷ [])
unfolding decimal digits_within
decimal_more number h =
    simp (le-ltb number 10 h)
    (ap (λ (s : List ℕ). s ++ (digit (number % 10) ∷ []))
    (steps_same number (suc (number / 10)) (number / 10) (omega arith) (omega arith)))

pub length-one : (number : ℕ) → number < 10 → length (decimal number) ≡ 1
length-one number h = ap length (decimal_one number h)

pub length_more : (number : ℕ) → 10 ≤ number → length (decimal number) ≡ length (decimal (number / 10)) + 1
length_more number h = ap length (decimal_more number h) ∙ length-append (decimal (number / 10)) (digit (number % 10) ∷ [])

-- a number below a power of ten has at most as many digits as the power says
pub decimal_short : (k number : ℕ) → number < 10 ^ suc k → length (decimal number) ≤ suc k
decimal_short zero number h = omega (arith, length-one number (omega arith))
decimal_short (suc k) number h =
    go (ltb number 10) refl (λ tenth. decimal_short k (number / 10) tenth)
  where
    go : (t : Bool) → ltb number 10 ≡ t → (number / 10 < 10 ^ suc k → length (decimal (number / 10)) ≤ suc k)
        → length (decimal number) ≤ suc (suc k)
    go true e shorter = omega (arith, length-one number (ltb-true number 10 e))
    go false e shorter =
        let power : 10 ^ suc (suc k) ≡ 10 * 10 ^ suc k = pow-succ' 10 (suc k) in
        let tenth : number / 10 < 10 ^ suc k = omega arith in
        omega (arith, length_more number (ltb-false number 10 e), shorter tenth)
