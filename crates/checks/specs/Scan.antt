-- Whether one of several things passes a test.
use Rattle.std.specs.Prelude.{ℕ, zero, suc, Bool, false, cond, ◌||◌}
use Rattle.std.proofs.Math.Option.{Option, none, some}

-- whether some number below the bound passes the test
unfoldable pub any_below : (test : ℕ → Bool) (bound : ℕ) → Bool
any_below test zero = false
any_below test (suc n) = any_below test n || test n

-- whether two different numbers below the bound pass a test of pairs
abbrev pub any_pair_below : (test : ℕ → ℕ → Bool) (bound : ℕ) → Bool
any_pair_below test bound = any_below (λ j. any_below (λ i. test i j) j) bound

-- one of two, the first if it is there
abbrev pub or_else : {A : Type 0} → Option A → Option A → Option A
or_else none b = b
or_else (some x) b = some x

-- the first number below the bound that passes the test, if there is one
unfoldable pub first_below : (test : ℕ → Bool) (bound : ℕ) → Option ℕ
first_below test zero = none
first_below test (suc n) = or_else (first_below test n) (cond (test n) (some n) none)
