-- What a label says of its position: a hole has no keeper; any other label names the keeper and the copy. Assumes nothing.
use Prim.Native.Nat.{ℕ}
use mathlib.Core.Path.{◌≡◌, sym, ◌∙◌}
use mathlib.Core.Bool.{false}
use mathlib.Core.Option.{none, some}
use mathlib.Core.List.{List}
use native.Mathlib.Omega.{arith}
use Rattle.checks.proofs.Scan.{never}
use Rattle.checks.proofs.First.{option_cases}
use Rattle.extent.specs.Extents.{extent_at}
use Rattle.runs.specs.Positions.{keeps, copy_of, keeper}
use Rattle.runs.specs.Runs.{hole, stored, label}
use Rattle.runs.proofs.Keeper.{keeper_some}

pub hole_stored : {A : Type 0} {i a : ℕ} → hole ≡ stored i a → A
hole_stored e = let z : ◌≡◌ {A = ℕ} 0 1 = cc in absurd (omega arith)

module _ (list : List ℕ) (position : ℕ) where
  pub label_none : keeper list position ≡ none → label list position ≡ hole
  unfolding label
  label_none h = simp h

  pub label_some : (i : ℕ) → keeper list position ≡ some i
      → label list position ≡ stored i (copy_of (extent_at list i) position)
  unfolding label
  label_some i h = simp h

  -- and the other way
  pub none_label : label list position ≡ hole → keeper list position ≡ none
  none_label h = option_cases (keeper list position) (λ e. e) (λ i e. hole_stored (sym h ∙ label_some i e))

  pub some_label : (i a : ℕ) → label list position ≡ stored i a
      → (keeper list position ≡ some i) × (copy_of (extent_at list i) position ≡ a)
  some_label i a h =
      option_cases (keeper list position)
      (λ e. hole_stored (sym (label_none e) ∙ h))
      (λ j e.
      let z = label_some j e in
      let d : j ≡ i = cc in
      let c : copy_of (extent_at list j) position ≡ a = cc in
      (rw d at e, rw d at c))

  -- a position that an extent does not keep has no label of it
  pub other_label : (i a : ℕ) → keeps (extent_at list i) position ≡ false → label list position ≡ stored i a → ⊥
  other_label i a h e = never (keeper_some list i position (some_label i a e).0).1 h
