-- What is left up to the limit is compared with one part after the other.
use Prim.Native.Nat.{ℕ, ◌+◌, ◌-◌, ◌≤◌}
use mathlib.Core.Path.{◌≡◌, refl, sym}
use mathlib.Core.Bool.{Bool, true, false}
use native.Mathlib.Omega.{arith}
use lib.Dec.{ltb}
use borrow.Author.Tests.{ltb-true, ltb-false, lt-ltb, le-ltb}
use Rattle.volume.proofs.writing.runs_past.Goals as goal

-- taking both parts off the limit says the same as adding them to the offset
taken-off : (limit offset fixed body : ℕ) → offset ≤ limit → fixed ≤ limit - offset
    → ltb (limit - offset - fixed) body ≡ ltb limit (offset + (fixed + body))
taken-off limit offset fixed body h k = go (ltb (limit - offset - fixed) body) refl
  where
    go : (past : Bool) → ltb (limit - offset - fixed) body ≡ past → past ≡ ltb limit (offset + (fixed + body))
    go true e = sym (lt-ltb limit (offset + (fixed + body)) (omega (arith, ltb-true (limit - offset - fixed) body e)))
    go false e = sym (le-ltb limit (offset + (fixed + body)) (omega (arith, ltb-false (limit - offset - fixed) body e)))

pub returns-then-limit-offset : goal.returns-then-limit-offset
returns-then-limit-offset c = sym (omega (arith, lt-ltb))

pub returns-then-left-fixed : goal.returns-then-left-fixed
returns-then-left-fixed c = sym (omega (arith, lt-ltb))

pub returns : goal.returns
returns c = taken-off _ _ _ _ c.if-limit-offset.false c.if-left-fixed.false
