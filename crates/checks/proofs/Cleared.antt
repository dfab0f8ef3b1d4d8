-- Tables that find no fault, taken apart. Assumes nothing.
use mathlib.Core.Path.{◌≡◌, refl}
use mathlib.Core.Bool.{true, false}
use mathlib.Core.List.{List, [], ◌∷◌, ◌++◌}
use Prim.Native.Nat.{ℕ, zero, suc}
use native.Mathlib.Nat.{suc-ne-zero}
use lib.Dec.{T}
use lib.ListN.{drop}
use lib.Seq.{drop-nil}
use Rattle.checks.specs.Checks.{Check, check, first_fault}
use Rattle.checks.proofs.Laws.{numbered}

-- the checks after the first k find none
pub rest_clear : (k : ℕ) (checks : List Check) → T (numbered checks) → first_fault checks ≡ 0 → first_fault (drop k checks) ≡ 0
unfolding first_fault
rest_clear k [] p e = rw drop-nil
rest_clear k (check true zero ∷ checks) p e = absurd p
rest_clear k (check true (suc n) ∷ checks) p e = absurd (suc-ne-zero n e)
rest_clear k (check false zero ∷ checks) p e = absurd p
rest_clear zero (check false (suc n) ∷ checks) p e = e
rest_clear (suc k) (check false (suc n) ∷ checks) p e = rest_clear k checks p e

-- of two tables in a row, neither does
pub both_clear : (a b : List Check) → T (numbered a) → first_fault (a ++ b) ≡ 0 → (first_fault a ≡ 0) × (first_fault b ≡ 0)
unfolding first_fault
both_clear [] b p e = (refl, e)
both_clear (check true zero ∷ a) b p e = absurd p
both_clear (check true (suc n) ∷ a) b p e = absurd (suc-ne-zero n e)
both_clear (check false zero ∷ a) b p e = absurd p
both_clear (check false (suc n) ∷ a) b p e = both_clear a b p e

pub numbered-append : (a b : List Check) → T (numbered a) → T (numbered b) → T (numbered (a ++ b))
numbered-append [] b p q = q
numbered-append (check f zero ∷ a) b p q = absurd p
numbered-append (check f (suc n) ∷ a) b p q = numbered-append a b p q
