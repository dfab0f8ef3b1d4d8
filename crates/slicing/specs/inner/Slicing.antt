-- A register that takes a message byte by byte, each byte by one entry of a row, and sixteen rows by which sixteen bytes
-- are taken at once. The rows are those of slicing by 16; the first of them says which checksum it is.
use Rattle.std.specs.Prelude.{ℕ, zero, suc, ◌/◌, ◌%◌, ◌<◌, ◌≡◌, List, [], ◌∷◌, length, get_or, take}
use Rattle.std.specs.Int.Bits.{bit_xor}

-- One byte of the message: the low byte of the register with the byte added (exclusive or) chooses an entry of the row,
-- which is added to the rest of the register, moved down by a byte.
unfoldable pub step : (row : List ℕ) (register byte : ℕ) → ℕ
step row register byte = bit_xor (register / 256) (get_or row (bit_xor register byte % 256) 0)

-- The register after a number of zero bytes, for any step that takes a byte.
unfoldable pub zeros : (takes : ℕ → ℕ → ℕ) (count register : ℕ) → ℕ
zeros takes zero register = register
zeros takes (suc count) register = zeros takes count (takes register 0)

-- Entry 256 k + b: what the byte b and k zero bytes after it make of a register of zero.
unfoldable pub entry : (row : List ℕ) (place : ℕ) → ℕ
entry row place = zeros (step row) (place / 256) (get_or row (place % 256) 0)

-- A function's values at a number and at those that follow it.
unfoldable pub values : (f : ℕ → ℕ) (start count : ℕ) → List ℕ
values f start zero = []
values f start (suc count) = f start ∷ values f (suc start) count

-- Sixteen rows of 256 entries, of which the given one is the first.
unfoldable pub rows_from : (row : List ℕ) → List ℕ
rows_from row = values (entry row) 0 4096

-- The first of the rows that a slice holds.
abbrev pub first_row : (slice : List ℕ) → List ℕ
first_row slice = take 256 slice

-- A row of 256 entries in which the entry of a sum (exclusive or) is the sum of the entries.
pub record Linear (row : List ℕ) : Type 0 where
  pub long : length row ≡ 256
  pub sums : (a b : ℕ) → a < 256 → b < 256 → get_or row (bit_xor a b) 0 ≡ bit_xor (get_or row a 0) (get_or row b 0)

-- A slice that holds a linear row and the fifteen that follow from it, and nothing else.
pub record Rows (slice : List ℕ) : Type 0 where
  pub linear : Linear (first_row slice)
  pub filled : slice ≡ rows_from (first_row slice)
