-- The fixed fields and the variable parts of a block as they stand in a volume, by the layout of any kind. Assumes nothing.
use Prim.Native.Nat.{ℕ, suc, ◌+◌, ◌≤◌}
use mathlib.Core.Path.{◌≡◌, sym, ◌∙◌, subst}
use mathlib.Core.List.{List, ◌++◌}
use native.Mathlib.Nat.{add-suc, suc-add}
use native.Mathlib.Omega.{arith}
use lib.ListN.{length, take, drop, get_or, length-drop}
use Rattle.number.specs.Number.{Bytes, part, number_at}
use Rattle.number.proofs.Digits.{bytes_drop}
use Rattle.format.specs.Layout.{total, Fit, laid}
use Rattle.format.specs.Blocks.{Kind, widths}
use Rattle.format.proofs.Listed.{listed}
use Rattle.format.proofs.Fields.{values_in, values_laid, laid_values, fit_values, values_listed}
use Rattle.block.specs.Fields.{fixed_length, body_length}

-- the values of the fixed fields, in layout order
abbrev pub fields_at : Kind → (volume : List ℕ) (offset : ℕ) → List ℕ
fields_at kind volume offset =
    listed (length (widths kind)) (λ k. number_at volume (offset + suc (total (take k (widths kind)))) (get_or (widths kind) k 0))

-- the bytes of the variable parts
abbrev pub body_at : Kind → (volume : List ℕ) (offset : ℕ) → List ℕ
body_at kind volume offset = part volume (offset + fixed_length kind) (body_length kind volume offset)

module _ (kind : Kind) (volume : List ℕ) (offset : ℕ) where
  fields_values : fields_at kind volume offset ≡ values_in (widths kind) (drop (suc offset) volume)
  fields_values = sym (values_listed (widths kind) volume (suc offset) ∙ simp (suc-add, ← add-suc))

  pub fields_fit : Bytes volume → Fit (widths kind) (fields_at kind volume offset)
  fields_fit b =
      subst (Fit (widths kind)) (sym fields_values)
      (fit_values (widths kind) (drop (suc offset) volume) (bytes_drop (suc offset) volume b))

  -- fixed fields that end within the volume are laid out as they stand
  pub fields_laid : Bytes volume → offset + fixed_length kind ≤ length volume
      → laid (widths kind) (fields_at kind volume offset) ≡ part volume (suc offset) (total (widths kind))
  fields_laid b h =
      let k : total (widths kind) ≤ length (drop (suc offset) volume) = omega (arith, length-drop (suc offset) volume) in
      rw fields_values (laid_values (widths kind) (drop (suc offset) volume) (bytes_drop (suc offset) volume b) k)

  -- fields that are laid out after the ID are read back
  pub fields_stand : (values rest : List ℕ) → Fit (widths kind) values
      → drop (suc offset) volume ≡ laid (widths kind) values ++ rest → fields_at kind volume offset ≡ values
  fields_stand values rest fit e = fields_values ∙ rw e (values_laid (widths kind) values rest fit)
