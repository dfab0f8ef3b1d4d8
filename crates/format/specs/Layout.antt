-- Fields laid out one after the other, and the checksum at the end. All numbers are unsigned and little-endian.
use Rattle.std.specs.Prelude.{ℕ, ◌+◌, ◌^◌, ◌<◌, cond, List, [], ◌∷◌, ◌++◌}
use Prim.Native.String.{String}
use lib.Text.{eqt}
use Rattle.number.specs.Number.{le_bytes}
use Rattle.crc32.specs.Crc.{crc}

-- a field of a layout: what it is called, and how many bytes it has
pub data Field : Type 0 where
  field : (name : String) (width : ℕ) → Field

abbrev pub widths_in : (layout : List Field) → List ℕ
widths_in [] = []
widths_in (field name width ∷ layout) = width ∷ widths_in layout

-- where a field begins, by its name, counted from the first field
abbrev pub start_of : (name : String) (layout : List Field) → ℕ
start_of name [] = 0
start_of name (field other width ∷ layout) = cond (eqt name other) 0 (width + start_of name layout)

abbrev pub width_of : (name : String) (layout : List Field) → ℕ
width_of name [] = 0
width_of name (field other width ∷ layout) = cond (eqt name other) width (width_of name layout)

-- how many bytes fields of these widths take
abbrev pub total : (widths : List ℕ) → ℕ
total [] = 0
total (width ∷ widths) = width + total widths

-- there is one value for each field, and it fits
abbrev pub Fit : (widths values : List ℕ) → Type 0
Fit [] [] = Unit {0}
Fit [] (value ∷ values) = ⊥
Fit (width ∷ widths) [] = ⊥
Fit (width ∷ widths) (value ∷ values) = (value < 256 ^ width) × Fit widths values

-- the values, each in as many bytes as its field has
unfoldable pub laid : (widths values : List ℕ) → List ℕ
laid [] values = []
laid (width ∷ widths) [] = []
laid (width ∷ widths) (value ∷ values) = le_bytes width value ++ laid widths values

-- bytes with their CRC after them: four bytes over all the bytes before
unfoldable pub sealed : List ℕ → List ℕ
sealed bytes = bytes ++ le_bytes 4 (crc bytes)

-- a rule that holds for each of a list
abbrev pub All {ℓ} : {A : Type ℓ} → (A → Type 0) → List A → Type 0
All Rule [] = Unit {0}
All Rule (x ∷ xs) = Rule x × All Rule xs
