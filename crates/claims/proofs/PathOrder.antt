-- Listing order is an order: no two paths come before one another, so that two lists in that order with the same paths in them are the
-- same list. Assumes nothing.
use Prim.Native.Nat.{ℕ}
use mathlib.Core.Path.{◌≡◌, refl, sym, ap₂, ◌∙◌, subst}
use mathlib.Core.Logic.{◌⊎◌, inl, inr, ⊎_elim}
use mathlib.Core.List.Memᴰ
use mathlib.Core.List.Memᴰ.{head as here}
use mathlib.Core.List.Memᴰ.{tail as behind}
use mathlib.Core.List.{List, [], ◌∷◌, Memᴰ as StandsIn}
use native.Mathlib.Omega.{arith}
use Rattle.format.specs.Layout.{All}
use Rattle.claims.specs.Tree.{Before, goes_on, lower, later, InOrder}

pub never_both : {path other : List ℕ} → Before path other → Before other path → ⊥
never_both goes_on b = elim b [ ]
never_both (lower l) (lower m) = omega arith
never_both (lower l) (later e b) = omega arith
never_both (later e a) (lower m) = omega arith
never_both (later e a) (later f b) = never_both a b

-- What holds of all holds of each that stands among them.
pub among : (Rule : List ℕ → Type 0) {path : List ℕ} (paths : List (List ℕ)) → All Rule paths → StandsIn path paths → Rule path
among Rule [] rules there = absurd (Memᴰ.not-nil there)
among Rule (first ∷ paths) (rule, rules) there =
    ⊎_elim (λ e. subst Rule (sym e) rule) (λ t. among Rule paths rules t) (Memᴰ.cases_cons there)

pub all_of : (Rule : List ℕ → Type 0) (paths : List (List ℕ)) → ((path : List ℕ) → StandsIn path paths → Rule path) → All Rule paths
all_of Rule [] rule = tt
all_of Rule (path ∷ paths) rule = (rule path (here refl), all_of Rule paths (λ other there. rule other (behind there)))

-- Two lists in order that have the same paths are the same list.

abbrev Within : (paths others : List (List ℕ)) → Type 0
Within paths others = (path : List ℕ) → StandsIn path paths → StandsIn path others

module _ {first other : List ℕ} {paths others : List (List ℕ)} (a : InOrder (first ∷ paths)) (b : InOrder (other ∷ others)) where
  same_first : StandsIn first (other ∷ others) → StandsIn other (first ∷ paths) → first ≡ other
  same_first m n = go (Memᴰ.cases_cons m) (Memᴰ.cases_cons n)
    where
      go : (first ≡ other) ⊎ StandsIn first others → (other ≡ first) ⊎ StandsIn other paths → first ≡ other
      go (inl e) n = e
      go (inr m) (inl e) = sym e
      go (inr m) (inr n) = absurd (never_both (among (Before other) others b.0 m) (among (Before first) paths a.0 n))

  -- what stands behind the first in one does in the other
  behind_first : first ≡ other → Within (first ∷ paths) (other ∷ others) → Within paths others
  behind_first e w path there =
      ⊎_elim
      (λ f. let self : Before first path = among (Before first) paths a.0 there in
      absurd (never_both self (subst (λ p. Before p first) (e ∙ sym f) (subst (Before first) (f ∙ sym e) self))))
      (λ t. t)
      (Memᴰ.cases_cons (w path (behind there)))

pub same_lists : (paths others : List (List ℕ)) → InOrder paths → InOrder others → Within paths others → Within others paths → paths ≡ others
same_lists [] [] a b w v = refl
same_lists [] (other ∷ others) a b w v = absurd (Memᴰ.not-nil (v other (here refl)))
same_lists (first ∷ paths) [] a b w v = absurd (Memᴰ.not-nil (w first (here refl)))
same_lists (first ∷ paths) (other ∷ others) a b w v =
    let e : first ≡ other = same_first a b (w first (here refl)) (v other (here refl)) in
    ap₂ ◌∷◌ e (same_lists paths others a.1 b.1 (behind_first a b e w) (behind_first b a (sym e) v))
