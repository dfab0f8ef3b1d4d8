-- The entries of the sixteen rows: the first 256 are the row itself, and each other follows from the one a row before it.
-- So what `fill_rows` makes of a row are its rows, and of a linear row `Rows::new` makes what `run` requires.
use Prim.Native.Nat.{ℕ, suc, ◌+◌, ◌-◌, ◌*◌, ◌/◌, ◌%◌, ◌≤◌, ◌<◌}
use mathlib.Core.Path.{◌≡◌, refl, sym, ap, ap₂, subst, ◌∙◌}
use mathlib.Core.List.{List, ◌++◌}
use native.Mathlib.Omega.{arith}
use lib.ListN.{length, get_or, set, drop}
use lib.Seq.{ext_get_or, get_or-take, take_at, take-set-le, length-take-le}
use Rattle.slicing.specs.inner.Slicing.{step, zeros, entry, rows_from, first_row, Linear, Rows}
use Rattle.slicing.proofs.Zeros.{zeros_last}
use Rattle.slicing.proofs.Values.{length-values, values_at, Filling, filling_more, filling_end}

module _ (row : List ℕ) where
  entry_at : (k b : ℕ) → b < 256 → entry row (k * 256 + b) ≡ zeros (step row) k (get_or row b 0)
  unfolding entry
  entry_at k b h =
      let count : (k * 256 + b) / 256 ≡ k = omega arith in
      let byte : (k * 256 + b) % 256 ≡ b = omega arith in
      rw (count, byte) refl

  entry_first : (i : ℕ) → i < 256 → entry row i ≡ get_or row i 0
  unfolding entry zeros
  entry_first i h =
      let count : i / 256 ≡ 0 = omega arith in
      let byte : i % 256 ≡ i = omega arith in
      rw (count, byte) refl

  entry_next : (i : ℕ) → entry row (256 + i) ≡ step row (entry row i) 0
  unfolding entry
  entry_next i =
      let count : (256 + i) / 256 ≡ suc (i / 256) = omega arith in
      let byte : (256 + i) % 256 ≡ i % 256 = omega arith in
      rw (count, byte) (zeros_last (step row) (i / 256) (get_or row (i % 256) 0))

  pub rows-length : length (rows_from row) ≡ 4096
  unfolding rows_from
  rows-length = length-values (entry row) 4096 0

  pub rows_at : (i : ℕ) → i < 4096 → get_or (rows_from row) i 0 ≡ entry row i
  unfolding rows_from
  rows_at i h = values_at (entry row) 4096 i h

-- The row that the rows are made from is the first of them.
pub rows_first : {row : List ℕ} → Linear row → first_row (rows_from row) ≡ row
rows_first {row} linear =
    let within : 256 ≤ length (rows_from row) = omega (arith, rows-length row) in
    let size : length (first_row (rows_from row)) ≡ 256 = length-take-le 256 (rows_from row) within in
    ext_get_or 0 (first_row (rows_from row)) row (size ∙ sym linear.long)
    (λ i less.
    let small : i < 256 = omega arith in
    get_or-take 256 (rows_from row) i 0 small ∙ rows_at row i (omega arith) ∙ entry_first row i small)

-- The rows of a linear row are what `run` requires.
pub rows_filled : {row slice : List ℕ} → Linear row → slice ≡ rows_from row → Rows slice
rows_filled {row} {slice} linear e =
    let first : first_row slice ≡ row = ap first_row e ∙ rows_first linear in
    record { linear = subst Linear (sym first) linear; filled = e ∙ ap rows_from (sym first) }

-- What is filled from a row that is written at the beginning are its rows.
pub rows_made : (row front old : List ℕ) {slice : List ℕ} → length row ≡ 256 → front ≡ row
    → slice ≡ rows_from (first_row (front ++ drop 256 old)) → slice ≡ rows_from row
rows_made row front old long e filled = filled ∙ ap rows_from (take_at front (drop 256 old) 256 (ap length e ∙ long) ∙ e)

-- What stands in a slice that holds the rows.
module _ {slice : List ℕ} (rows : Rows slice) where
  pub slice_at : (k b : ℕ) → k < 16 → b < 256
      → get_or slice (k * 256 + b) 0 ≡ zeros (step (first_row slice)) k (get_or (first_row slice) b 0)
  slice_at k b hk hb =
      ap (λ (l : List ℕ). get_or l (k * 256 + b) 0) rows.filled
      ∙ rows_at (first_row slice) (k * 256 + b) (omega arith) ∙ entry_at (first_row slice) k b hb

-- While the rows are filled: the first stays as it is, and every entry before place `count` stands.
pub record RowsUpTo (row slice : List ℕ) (count : ℕ) : Type 0 where
  pub first : first_row slice ≡ row
  pub entries : Filling (entry row) 4096 slice count

pub rows_start : (slice : List ℕ) → length slice ≡ 4096 → RowsUpTo (first_row slice) slice 256
rows_start slice e =
    record {
      first = refl;
      entries =
          record { long = e; done = λ k h. sym (entry_first (first_row slice) k h ∙ get_or-take 256 slice k 0 h) };
    }

module _ (row slice : List ℕ) (i : ℕ) (so_far : RowsUpTo row slice i) where
  pub rows_more : (value : ℕ) → 256 ≤ i → i < 4096 → value ≡ step (first_row slice) (get_or slice (i - 256) 0) 0
      → RowsUpTo row (set slice i value) (i + 1)
  rows_more value past more e =
      let place : 256 + (i - 256) ≡ i = omega arith in
      let known : get_or slice (i - 256) 0 ≡ entry row (i - 256) = so_far.entries.done (i - 256) (omega arith) in
      let next : value ≡ entry row i =
      e ∙ ap₂ (λ (l : List ℕ) (x : ℕ). step l x 0) so_far.first known
      ∙ sym (entry_next row (i - 256)) ∙ ap (entry row) place in
      record {
        first = take-set-le 256 slice i value past ∙ so_far.first;
        entries = filling_more (entry row) 4096 slice i value so_far.entries more next;
      }

  pub rows_end : i ≡ 4096 → slice ≡ rows_from row
  unfolding rows_from
  rows_end e = filling_end (entry row) 4096 slice (rw e at so_far.entries)
