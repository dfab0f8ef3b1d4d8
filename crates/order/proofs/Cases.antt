-- Two numbers compared. Assumes nothing.
use Prim.Native.Nat.{ℕ, ◌≤◌, ◌<◌}
use mathlib.Core.Logic.{⊎_elim}
use mathlib.Mathlib.Data.Bool.Basic.{dichotomy}
use lib.Dec.{ltb}
use borrow.Author.Tests.{ltb-true, ltb-false}

-- what follows where m is below n, and where it is not, follows
pub cases : {A : Type 0} (m n : ℕ) → (m < n → A) → (n ≤ m → A) → A
cases m n below other = ⊎_elim (λ e. other (ltb-false m n e)) (λ e. below (ltb-true m n e)) (dichotomy (ltb m n))
