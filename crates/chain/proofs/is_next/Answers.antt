-- A number that is one above another is not 0, so one less than it can be compared.
use Prim.Native.Nat.{ℕ, suc, ◌-◌, ◌<◌}
use mathlib.Core.Path.{◌≡◌, refl, sym}
use mathlib.Core.Bool.{Bool, true, false}
use native.Mathlib.Omega.{arith}
use lib.Dec.{eqb}
use borrow.Author.Tests.{eqb-true, eqb-false, eq-eqb, ne_eqb}
use Rattle.chain.proofs.is_next.Goals as goal

one_less : (number next : ℕ) → 0 < next → eqb (next - 1) number ≡ eqb next (suc number)
one_less number next more = go (eqb (next - 1) number) refl
  where
    go : (t : Bool) → eqb (next - 1) number ≡ t → t ≡ eqb next (suc number)
    go true e = sym (eq-eqb next (suc number) (omega (arith, eqb-true (next - 1) number e)))
    go false e = sym (ne_eqb next (suc number) (λ same. eqb-false (next - 1) number e (omega arith)))

pub returns-then-next-eq0 : goal.returns-then-next-eq0
returns-then-next-eq0 c = sym (ne_eqb c.args.next (suc c.args.number) (λ same. omega arith))

pub returns : goal.returns
returns c = one_less c.args.number c.args.next (omega arith)
