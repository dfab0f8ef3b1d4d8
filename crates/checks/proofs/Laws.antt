-- `first_fault` computes what `Decides` says; a table that finds no fault clears each of its checks; two tables in a row; the checks
-- that a number can come from. Assumes nothing.
use mathlib.Core.Path.{◌≡◌, refl, sym, ◌∙◌}
use mathlib.Core.Bool.{Bool, true, false, false≢true, cond, ◌||◌}
use mathlib.Core.List.{List, [], ◌∷◌, ◌++◌}
use Prim.Native.Nat.{ℕ, zero, suc}
use native.Mathlib.Nat.{suc-ne-zero}
use lib.Dec.{T, eqb, eqb-suc-zero}
use lib.ListN.{take, drop}
use lib.Seq.{take-nil, drop-nil}
use borrow.Author.Tests.{eq-eqb, ne_eqb}
use Rattle.checks.specs.Checks.{Check, check, Decides, clear, hit, miss, first_fault}

-- every table gives an answer
pub decides : (checks : List Check) → Decides checks (first_fault checks)
unfolding first_fault
decides [] = clear
decides (check true n ∷ checks) = hit refl
decides (check false n ∷ checks) = miss refl (decides checks)

-- and only one
pub decided : {checks : List Check} {m : ℕ} → Decides checks m → m ≡ first_fault checks
unfolding first_fault
decided clear = refl
decided (hit e) = rw e
decided (miss e d) = rw e (decided d)

-- the rest of a table, answered by a call of its own
pub rest : {checks : List Check} {m : ℕ} → m ≡ first_fault checks → Decides checks m
rest {checks} e = rw e (decides checks)

-- whether the k-th check is at fault; past the end, none is
abbrev pub fault_at : ℕ → List Check → Bool
fault_at k [] = false
fault_at zero (check b n ∷ checks) = b
fault_at (suc k) (check b n ∷ checks) = fault_at k checks

-- no check gives 0, the answer of a table with no fault
abbrev pub numbered : List Check → Bool
numbered [] = true
numbered (check b zero ∷ checks) = false
numbered (check b (suc n) ∷ checks) = numbered checks

-- where the table finds no fault, no check is at fault
pub passed : (k : ℕ) (checks : List Check) → T (numbered checks) → first_fault checks ≡ 0 → fault_at k checks ≡ false
unfolding first_fault
passed k [] p e = refl
passed k (check true zero ∷ checks) p e = absurd p
passed k (check true (suc n) ∷ checks) p e = absurd (suc-ne-zero n e)
passed zero (check false n ∷ checks) p e = refl
passed (suc k) (check false zero ∷ checks) p e = absurd p
passed (suc k) (check false (suc n) ∷ checks) p e = passed k checks p e

-- and no part of the table finds one
pub passed_part : (k n : ℕ) (checks : List Check) → T (numbered checks) → first_fault checks ≡ 0 → first_fault (take n (drop k checks)) ≡ 0
unfolding first_fault
passed_part k n [] p e = rw (drop-nil, take-nil)
passed_part k n (check true zero ∷ checks) p e = absurd p
passed_part k n (check true (suc m) ∷ checks) p e = absurd (suc-ne-zero m e)
passed_part k n (check false zero ∷ checks) p e = absurd p
passed_part zero zero (check false (suc m) ∷ checks) p e = refl
passed_part zero (suc n) (check false (suc m) ∷ checks) p e = passed_part zero n checks p e
passed_part (suc k) n (check false (suc m) ∷ checks) p e = passed_part k n checks p e

-- two tables in a row: the second answers where the first finds no fault
pub first_fault-append : (a b : List Check) → T (numbered a) → first_fault (a ++ b) ≡ cond (eqb (first_fault a) 0) (first_fault b) (first_fault a)
unfolding first_fault
first_fault-append [] b p = refl
first_fault-append (check true zero ∷ a) b p = absurd p
first_fault-append (check true (suc n) ∷ a) b p = rw (eqb-suc-zero n)
first_fault-append (check false zero ∷ a) b p = absurd p
first_fault-append (check false (suc n) ∷ a) b p = first_fault-append a b p

pub none-append : (a b : List Check) → T (numbered a) → first_fault a ≡ 0 → first_fault b ≡ 0 → first_fault (a ++ b) ≡ 0
none-append a b p e f = first_fault-append a b p ∙ rw (e, f)

-- where the first part of a table has a fault, it stands
pub stopped : (a b : List Check) {m : ℕ} → T (numbered a) → m ≡ first_fault a → (m ≡ 0 → ⊥) → m ≡ first_fault (a ++ b)
stopped a b {m} p e h = rw (first_fault-append a b p, ← e, ne_eqb m 0 h)

-- where it has none, the second part answers
pub continued : (a b : List Check) {m n : ℕ} → T (numbered a) → m ≡ first_fault a → m ≡ 0 → n ≡ first_fault b
    → n ≡ first_fault (a ++ b)
continued a b {m} p e z f = rw (first_fault-append a b p, ← e, eq-eqb m 0 z, f)

-- and each of its checks is passed
pub passed_told : (k : ℕ) (a : List Check) {m : ℕ} → T (numbered a) → m ≡ first_fault a → m ≡ 0 → fault_at k a ≡ false
passed_told k a p e z = passed k a p (sym e ∙ z)

-- a check of two faults is two checks with the same number
pub either : (x y : Bool) (n m : ℕ) → cond (x || y) n m ≡ cond x n (cond y n m)
either true y n m = refl
either false y n m = refl

pub either_side : {x y : Bool} {n m : ℕ} {checks : List Check}
    → Decides (check x n ∷ check y n ∷ checks) m → Decides (check (x || y) n ∷ checks) m
unfolding first_fault
either_side {x} {y} {n} {m} {checks} d = rest (decided d ∙ sym (either x y n (first_fault checks)))

-- whether a check that is at fault has this number
abbrev pub gives : (number : ℕ) → List Check → Bool
gives number [] = false
gives number (check fault other ∷ checks) = cond (eqb other number) (fault || gives number checks) (gives number checks)

-- a number above 0 is given only by a check that has it
pub given : (number : ℕ) (checks : List Check) → (number ≡ 0 → ⊥) → first_fault checks ≡ number → gives number checks ≡ true
unfolding first_fault
given number [] n e = absurd (n (sym e))
given number (check true other ∷ checks) n e = rw (eq-eqb other number e)
given number (check false other ∷ checks) n e = go (eqb other number) (given number checks n e)
  where
    go : (t : Bool) → gives number checks ≡ true → cond t (gives number checks) (gives number checks) ≡ true
    go true h = h
    go false h = h

-- so a table with no such check does not give it
pub not_given : (number : ℕ) (checks : List Check) {m : ℕ} → (number ≡ 0 → ⊥) → gives number checks ≡ false → m ≡ first_fault checks
    → m ≡ number → ⊥
not_given number checks n e f h = false≢true (sym e ∙ given number checks n (sym f ∙ h))
