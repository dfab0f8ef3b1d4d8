-- `same_bytes` is true exactly of equal lists. Assumes nothing.
use mathlib.Core.Path.{◌≡◌, refl, sym, ap, ◌∙◌}
use mathlib.Core.Logic.{◌↔◌}
use mathlib.Core.Bool.{Bool, true, false, true≢false, ◌&&◌}
use mathlib.Core.List.{List, [], ◌∷◌}
use Prim.Native.Nat.{ℕ}
use lib.Dec.{eqb}
use lib.Pointwise.{pointwise, bytes_decides}
use Rattle.number.specs.inner.Same.{same_bytes}

pub and_true : (a b : Bool) → (a && b) ≡ true → (a ≡ true) × (b ≡ true)
and_true true b e = (refl, e)
and_true false b e = absurd (true≢false (sym e))

-- it is what `==` of the library answers
pub same_pointwise : (a b : List ℕ) → same_bytes a b ≡ pointwise eqb a b
unfolding same_bytes
same_pointwise [] [] = refl
same_pointwise [] (y ∷ b) = refl
same_pointwise (x ∷ a) [] = refl
same_pointwise (x ∷ a) (y ∷ b) = ap (λ t. eqb x y && t) (same_pointwise a b)

pub same_equal : (a b : List ℕ) → same_bytes a b ≡ true → a ≡ b
same_equal a b e = (bytes_decides a b).0 (sym (same_pointwise a b) ∙ e)

pub same_refl : (a : List ℕ) → same_bytes a a ≡ true
same_refl a = same_pointwise a a ∙ (bytes_decides a a).1 refl

pub same_iff_equal : (a b : List ℕ) → (same_bytes a b ≡ true) ↔ (a ≡ b)
same_iff_equal a b = (same_equal a b, λ e. rw e (same_refl b))
