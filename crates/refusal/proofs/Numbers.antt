-- The numbers of the faults. Assumes nothing.
use mathlib.Core.Path.{◌≡◌, sym, ap, ◌∙◌}
use Prim.Native.Nat.{ℕ}
use native.Mathlib.Nat.{suc-ne-zero}
use Rattle.refusal.specs.declared.Fault.{Fault}
use Rattle.refusal.specs.declared.Fault.TheVariants.{NotText}
use Rattle.refusal.specs.Faults.{number_of}
use Rattle.refusal.specs.inner.Numbered.{fault_of, fault_of-number}

-- the fault that has a number
pub fault_by_number : (fault : Fault) {number : ℕ} → number_of fault ≡ number → fault ≡ fault_of number
fault_by_number fault e = sym (fault_of-number fault) ∙ ap fault_of e

-- no fault has the number 0
pub number_above_zero : (fault : Fault) → number_of fault ≡ 0 → ⊥
number_above_zero fault e = suc-ne-zero 23 (sym (ap number_of (fault_by_number fault e)) ∙ e)

-- and none but that of a text has the number 10
pub number_of_other : (fault : Fault) → (fault ≡ NotText → ⊥) → number_of fault ≡ 10 → ⊥
number_of_other fault other e = other (fault_by_number fault e)
