-- Each return is one of the tests of `is_torn`; the branches taken say what the others answer.
use Prim.Native.Nat.{ℕ, zero, suc}
use mathlib.Core.Path.{◌≡◌, refl, sym, ap, ◌∙◌}
use mathlib.Core.Bool.{true, and-false}
use native.Mathlib.Omega.{arith}
use lib.Dec.{eqb, eqb-suc-zero}
use borrow.Author.Tests.{eq-eqb, ne_eqb, lt-ltb}
use denote.Enum.Bare.{differs_true, differs_false}
use Rattle.refusal.specs.declared.Fault.TheVariants.{CutShort}
use Rattle.refusal.specs.contracts.Fault.{the_type}
use Rattle.refusal.specs.Faults.{number_of}
use Rattle.refusal.specs.inner.Numbered.{fault_of, fault_of-number}
use Rattle.repair.specs.Repairing.{is_torn}
use Rattle.repair.proofs.is_torn.Goals as goal

-- at 80 only volume 0 has a block other than the table
first-volume : (sequence : ℕ) → eqb sequence 0 ≡ is_torn sequence 2 80
unfolding is_torn
first-volume zero = refl
first-volume (suc n) = rw (eqb-suc-zero n, lt-ltb 0 (suc n) (omega arith))

-- elsewhere behind the header every volume has
elsewhere : (sequence offset : ℕ) → (offset ≡ 0 → ⊥) → (offset ≡ 80 → ⊥) → true ≡ is_torn sequence 2 offset
unfolding is_torn
elsewhere sequence offset a b = rw (ne_eqb offset 0 a, ne_eqb offset 80 b, and-false)

pub returns-then-ne : goal.returns-then-ne
unfolding is_torn
returns-then-ne c =
    let other : c.args.fault ≡ CutShort → ⊥ = differs_true the_type _ _ (sym c.ne.ensures ∙ c.if-ne.true) in
    rw (ne_eqb (number_of c.args.fault) 2 (λ e. other (sym (fault_of-number c.args.fault) ∙ ap fault_of e)))

-- behind the first branch the fault is that the bytes end too early
pub returns-then-offset-eq0 : goal.returns-then-offset-eq0
unfolding is_torn
returns-then-offset-eq0 c =
    let fault : c.args.fault ≡ CutShort = differs_false the_type tt _ _ (sym c.ne.ensures ∙ c.if-ne.false) in
    rw (fault, eq-eqb _ 0 c.if-offset-eq0.true)

pub returns-then-offset-eq-HEADER_LEN : goal.returns-then-offset-eq-HEADER_LEN
returns-then-offset-eq-HEADER_LEN c =
    let fault : c.args.fault ≡ CutShort = differs_false the_type tt _ _ (sym c.ne.ensures ∙ c.if-ne.false) in
    rw (fault, c.if-offset-eq-HEADER_LEN.true) (first-volume c.args.sequence)

pub returns : goal.returns
returns c =
    let fault : c.args.fault ≡ CutShort = differs_false the_type tt _ _ (sym c.ne.ensures ∙ c.if-ne.false) in
    rw fault (elsewhere c.args.sequence c.args.offset (λ e. omega arith) (λ e. omega arith))
