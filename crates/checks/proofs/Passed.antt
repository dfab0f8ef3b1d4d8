-- A table of checks that finds no fault, check by check, in the order of the table. Assumes nothing.
use Prim.Native.Nat.{ℕ, zero, suc}
use mathlib.Core.Path.{◌≡◌, refl, sym}
use mathlib.Core.Bool.{Bool, true, false, true≢false, cond}
use mathlib.Core.List.{List, [], ◌∷◌, ◌++◌}
use native.Mathlib.Nat.{suc-ne-zero}
use lib.Dec.{T, eqb}
use borrow.Author.Tests.{eq-eqb}
use Rattle.checks.specs.Checks.{Check, check, first_fault}
use Rattle.checks.proofs.Laws.{numbered, gives, not_given}

-- no check is at fault: a tuple, so that each check is named where it is used
abbrev pub Passed : List Check → Type 0
Passed [] = Unit {0}
Passed (check fault number ∷ checks) = (fault ≡ false) × Passed checks

pub all_passed : (checks : List Check) → T (numbered checks) → first_fault checks ≡ 0 → Passed checks
unfolding first_fault
all_passed [] p e = tt
all_passed (check true zero ∷ checks) p e = absurd p
all_passed (check true (suc n) ∷ checks) p e = absurd (suc-ne-zero n e)
all_passed (check false zero ∷ checks) p e = absurd p
all_passed (check false (suc n) ∷ checks) p e = (refl, all_passed checks p e)

pub no_fault : (checks : List Check) → Passed checks → first_fault checks ≡ 0
unfolding first_fault
no_fault [] p = refl
no_fault (check fault number ∷ checks) (clear, others) = rw clear (no_fault checks others)

-- A number that comes from the rest of a table: the checks before that, none of which gives it, are passed.
pub reached : (number : ℕ) (before rest : List Check) → gives number before ≡ false → first_fault (before ++ rest) ≡ number
    → Passed before × (first_fault rest ≡ number)
unfolding first_fault
reached number [] rest e f = (tt, f)
reached number (check true other ∷ before) rest e f = absurd (true≢false (rw (eq-eqb other number f) at e))
reached number (check false other ∷ before) rest e f =
    let p = reached number before rest (go (eqb other number) e) f in ((refl, p.0), p.1)
  where
    go : (t : Bool) → cond t (gives number before) (gives number before) ≡ false → gives number before ≡ false
    go true h = h
    go false h = h

-- a number that comes from the beginning of a table, for none of the checks after that gives it
pub stays : (number : ℕ) (checks after : List Check) → (number ≡ 0 → ⊥) → gives number after ≡ false → first_fault (checks ++ after) ≡ number
    → first_fault checks ≡ number
unfolding first_fault
stays number [] after n e f = absurd (not_given number after n e (sym f) refl)
stays number (check true other ∷ checks) after n e f = f
stays number (check false other ∷ checks) after n e f = stays number checks after n e f
