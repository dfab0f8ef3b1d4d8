-- Inner page: the head of a folder stands at one place alone, so `Heads` holds in one way at most, as a field of a struct has to. No public
-- contract rests on it.
use Rattle.std.specs.Prelude.{ℕ, ◌<◌, ◌≡◌, List, get_or}
use Rattle.std.specs.Coded.{×_prop, le_prop}
use Rattle.std.proofs.Common.{subst₂, inl, inr, lt_irrefl}
use Rattle.std.proofs.lemmas.Bool.{cases_order}
use mathlib.Core.HLevel.{Σ_prop_path}
use native.Mathlib.Nat.{ℕ_set}
use Rattle.folders.specs.inner.Folders.{parent_of, Sorted}

module _ (parents heads : List ℕ) (count folder : ℕ) (s : Sorted parents heads count) where
  not_before : (j k : ℕ) → j < k → k < count → parent_of parents (get_or heads j 0) ≡ folder → parent_of parents (get_or heads k 0) ≡ folder → ⊥
  not_before j k l m p q = lt_irrefl folder (subst₂ (λ a b. a < b) p q (s.rising j k l m))

  pub one_head : IsProp ((k : ℕ) × ((k < count) × (parent_of parents (get_or heads k 0) ≡ folder)))
  one_head x y =
      Σ_prop_path (λ k. ×_prop le_prop (ℕ_set _ _))
      (elim (cases_order x.0 y.0) [
        | inl e ↦ e
        | inr (inl l) ↦ absurd (not_before x.0 y.0 l y.1.0 x.1.1 y.1.1)
        | inr (inr l) ↦ absurd (not_before y.0 x.0 l x.1.0 y.1.1 x.1.1)
      ])
