-- The first row is linear, and a step by it is the byte's step.
use Prim.Native.Nat.{ℕ, ◌/◌, ◌%◌, ◌<◌}
use mathlib.Core.Path.{◌≡◌, refl, sym, ap, ap₂, ◌∙◌}
use mathlib.Core.List.{List, [], ◌∷◌, foldl}
use native.Mathlib.Omega.{arith}
use lib.ListN.{get_or, take}
use lib.Bits.{bit_xor, xor_lt}
use Rattle.slicing.specs.inner.Slicing.{step, rows_from, Linear, Rows}
use Rattle.slicing.proofs.Values.{length-values, values_at, Filling, filling_end}
use Rattle.slicing.proofs.Entries.{rows_first}
use Rattle.crc32.specs.Crc.{byte_step}
use Rattle.crc32.specs.inner.Tables.{crc_row, crc_rows}
use Rattle.crc32.proofs.Linear.{byte_both, byte_split}

row_at : (b : ℕ) → b < 256 → get_or crc_row b 0 ≡ byte_step 0 b
unfolding crc_row
row_at b h = values_at (byte_step 0) 256 b h

pub row_linear : Linear crc_row
unfolding crc_row
row_linear = record {
  long = length-values (byte_step 0) 256 0;
  sums = λ a b ha hb.
      row_at (bit_xor a b) (xor_lt 8 a b ha hb) ∙ byte_both 0 0 a b ∙ sym (ap₂ bit_xor (row_at a ha) (row_at b hb));
}

pub row_filled : (row : List ℕ) → Filling (byte_step 0) 256 row 256 → row ≡ crc_row
unfolding crc_row
row_filled row full = filling_end (byte_step 0) 256 row full

-- The rows that follow from the first one.
pub rows_made : (entries row : List ℕ) → row ≡ crc_row → take 256 entries ≡ row → Rows entries → entries ≡ crc_rows
unfolding crc_rows
rows_made entries row e first rows = rows.filled ∙ ap rows_from (first ∙ e)

step_row : (r b : ℕ) → step crc_row r b ≡ byte_step r b
unfolding step
step_row r b =
    let index : bit_xor r b % 256 < 256 = omega arith in
    ap (bit_xor (r / 256)) (row_at (bit_xor r b % 256) index) ∙ sym (byte_split r b)

-- And so for all the bytes.
fold_row : (bytes : List ℕ) (r : ℕ) → foldl (step crc_row) r bytes ≡ foldl byte_step r bytes
fold_row [] r = refl
fold_row (b ∷ bytes) r = fold_row bytes (step crc_row r b) ∙ ap (λ (n : ℕ). foldl byte_step n bytes) (step_row r b)

-- What slicing answers.
pub fold_lent :
    (tables bytes : List ℕ) (r : ℕ) → tables ≡ crc_rows → foldl (step (take 256 tables)) r bytes ≡ foldl byte_step r bytes
unfolding crc_rows
fold_lent tables bytes r e =
    ap (λ (row : List ℕ). foldl (step row) r bytes) (ap (take 256) e ∙ rows_first row_linear) ∙ fold_row bytes r
