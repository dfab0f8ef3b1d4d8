-- The extents of a regular file.
use Rattle.std.specs.Prelude.{ℕ, ◌+◌, ◌-◌, ◌*◌, ◌≤◌, ◌<◌, ◌≡◌, ◌⊎◌, cond, List, [], ◌∷◌, ◌++◌, eqb}
use Rattle.format.specs.declared.Extent.{Extent}
use Rattle.format.specs.Layout.{Field, field, widths_in, Fit, laid, All}

-- volume, start (P), block size (S), multiplicity, count (C), pre, post, logical start (Q)
abbrev pub extent_layout : List Field
extent_layout =
    field "volume" 8 ∷ field "P" 8 ∷ field "S" 8 ∷ field "multiplicity" 1 ∷ field "C" 8 ∷ field "pre" 8 ∷ field "post" 8 ∷ field "Q" 8 ∷ []

abbrev pub extent_widths : List ℕ
extent_widths = widths_in extent_layout

abbrev pub extent_fields : Extent → List ℕ
extent_fields e = e.volume ∷ e.start.0 ∷ e.size ∷ e.multiplicity ∷ e.count ∷ e.pre ∷ e.post ∷ e.logical.0 ∷ []

-- extents, one after the other, 57 bytes each
unfoldable pub extent_list : List Extent → List ℕ
extent_list [] = []
extent_list (e ∷ es) = laid extent_widths (extent_fields e) ++ extent_list es

-- the largest number of 64 bits, 2^64 - 1
abbrev pub top : ℕ
top = 18446744073709551615

-- S×C
abbrev pub raw_length : Extent → ℕ
raw_length e = e.size * e.count

-- L, the kept length: S×C - pre - post
abbrev pub kept_length : Extent → ℕ
kept_length e = raw_length e - (e.pre + e.post)

-- F: S for 82 and S×C for 67
abbrev pub footprint : Extent → ℕ
footprint e = cond (eqb e.multiplicity 82) e.size (raw_length e)

-- the rules of one extent
pub record ExtentRules (e : Extent) : Type 0 where
  pub fit : Fit extent_widths (extent_fields e)
  pub multiplicity : (e.multiplicity ≡ 82) ⊎ (e.multiplicity ≡ 67)
  pub raw : raw_length e ≤ top
  pub cuts : e.pre + e.post ≤ top
  pub logical : e.logical.0 + kept_length e ≤ top
  pub physical : e.start.0 + footprint e ≤ top
  pub within : e.pre + e.post ≤ raw_length e

-- the extent keeps the position: Q to below Q+L
abbrev pub KeepsPosition : Extent → ℕ → Type 0
KeepsPosition e position = (e.logical.0 ≤ position) × (position < e.logical.0 + kept_length e)

-- no position is kept by two extents of the list
abbrev pub Apart : List Extent → Type 0
Apart [] = Unit {0}
Apart (e ∷ es) = All (λ f. (position : ℕ) → KeepsPosition e position → KeepsPosition f position → ⊥) es × Apart es
