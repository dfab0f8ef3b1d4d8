-- How a test in code settles a check of a table. Assumes nothing.
use mathlib.Core.Path.{◌≡◌, sym, ap, ◌∙◌}
use mathlib.Core.Bool.{Bool, true, false, not}
use Prim.Native.Nat.{ℕ, ◌≤◌, ◌<◌}
use native.Mathlib.Omega.{arith}
use lib.Dec.{ltb, eqb}
use borrow.Author.Tests.{ltb-true, ltb-false, lt-ltb, le-ltb, le-leb, lt-leb, eq-eqb, ne_eqb}
use Rattle.checks.specs.Checks.{clear, hit, miss}
use Rattle.checks.proofs.Laws.{rest}

pub eq_neb : (a b : ℕ) → a ≡ b → not (eqb a b) ≡ false
eq_neb a b e = ap not (eq-eqb a b e)

pub ne_neb : (a b : ℕ) → (a ≡ b → ⊥) → not (eqb a b) ≡ true
ne_neb a b e = ap not (ne_eqb a b e)

-- a function's Boolean answer, by the term that its contract gives
pub told : {r s t : Bool} → r ≡ s → r ≡ t → s ≡ t
told e h = sym e ∙ h

pub told_not : {r s t : Bool} → r ≡ s → not r ≡ t → not s ≡ t
told_not e h = ap not (sym e) ∙ h

-- what an answer says that tells whether a number is below another
pub told_below : {r : Bool} {a b : ℕ} → r ≡ ltb a b → r ≡ true → a < b
told_below {a = a} {b} e h = ltb-true a b (told e h)

pub told_never : {r : Bool} {a b : ℕ} → r ≡ ltb a b → r ≡ true → b ≤ a → ⊥
told_never {a = a} {b} e h l = let below : a < b = told_below e h in omega arith

pub told_from : {r : Bool} {a b : ℕ} → r ≡ ltb a b → r ≡ false → b ≤ a
told_from {a = a} {b} e h = ltb-false a b (told e h)

-- the same of a number that a function answered
pub eq_neb_told : {r s : ℕ} (b : ℕ) → r ≡ s → r ≡ b → not (eqb s b) ≡ false
eq_neb_told {r} {s} b e h = eq_neb s b (sym e ∙ h)

pub ne_neb_told : {r s : ℕ} (b : ℕ) → r ≡ s → (r ≡ b → ⊥) → not (eqb s b) ≡ true
ne_neb_told {r} {s} b e h = ne_neb s b (λ k. h (e ∙ k))

-- `decided (search walks)` closes a refusal by the tests on the way to it
pub ruleset walks =
    (clear, hit, miss, rest, lt-ltb, le-ltb, le-leb, lt-leb, eq-eqb, ne_eqb, eq_neb, ne_neb, eq_neb_told, ne_neb_told, told_not, told, arith)
