-- What the library says of bytes, in the words of specs/: a number and its bytes, an array filled up with zeros. Assumes nothing.
use Prim.Native.Nat.{ℕ, zero, suc, ◌+◌, ◌*◌, ◌/◌, ◌%◌, ◌^◌, ◌<◌, ◌-◌}
use mathlib.Core.Path.{◌≡◌, refl, sym, ap, ◌∙◌}
use mathlib.Core.List.{List, [], ◌∷◌, ◌++◌}
use native.Mathlib.Nat.{zero-add, div-div-eq-div-mul, pow-suc, mul_comm}
use native.Mathlib.Numerals.{add-one}
use native.Mathlib.Omega.{arith}
use lib.ListN.{length, drop, replicate}
use lib.Seq.{take_all}
use Rattle.std.specs.Int.{w16, w32, w64, byte_at, byte_worth, bytes_low_first, sum_through, from_le_bytes}
use Rattle.std.specs.Prelude.{slice_index}
use Rattle.std.proofs.lemmas.List.{drop-replicate}
use Rattle.number.specs.Number.{le, le_bytes, number_at}
use Rattle.number.proofs.Digits.{number_at-add}
use Rattle.number.proofs.Halves.{read_one}

byte_at-is : (i n : ℕ) → byte_at i n ≡ n / 256 ^ i % 256
byte_at-is zero n = omega arith
byte_at-is (suc i) n = refl

low_first-from : (i k n : ℕ) → bytes_low_first i k n ≡ le_bytes k (n / 256 ^ i)
unfolding le_bytes
low_first-from i zero n = refl
low_first-from i (suc k) n =
    rw (byte_at-is i n, low_first-from (suc i) k n, pow-suc, div-div-eq-div-mul)

-- the bytes of a number, by `to_le_bytes`
pub le_bytes_library : (k n : ℕ) → le_bytes k n ≡ bytes_low_first 0 k n
le_bytes_library k n = sym (low_first-from 0 k n ∙ ap (le_bytes k) (omega arith))

sum_through-at : (bytes : List ℕ) (k : ℕ) → k < length bytes
    → sum_through (λ i. byte_worth i (slice_index bytes i)) k ≡ number_at bytes 0 (suc k)
sum_through-at bytes zero h = read_one bytes 0 h
sum_through-at bytes (suc k) h =
    let split : number_at bytes 0 (suc (suc k)) ≡ number_at bytes 0 (suc k) + 256 ^ suc k * number_at bytes (suc k) 1
    = rw (zero-add, add-one) at (number_at-add bytes 0 (suc k) 1) in
    rw (sum_through-at bytes k (omega arith), read_one bytes (suc k) h, split)
    (omega (arith, mul_comm (256 ^ suc k) (number_at bytes (suc k) 1)))

le-sum_through : (k : ℕ) (bytes : List ℕ) → length bytes ≡ suc k → le bytes ≡ sum_through (λ i. byte_worth i (slice_index bytes i)) k
le-sum_through k bytes h =
    sym (sum_through-at bytes k (omega arith) ∙ ap le (take_all (suc k) bytes (omega arith)))

-- the number of bytes, by `from_le_bytes`
pub le_u8 : (bytes : List ℕ) → length bytes ≡ 1 → le bytes ≡ slice_index bytes 0
le_u8 = le-sum_through 0

pub le_u16 : (bytes : List ℕ) → length bytes ≡ 2 → le bytes ≡ from_le_bytes w16 bytes
le_u16 = le-sum_through 1

pub le_u32 : (bytes : List ℕ) → length bytes ≡ 4 → le bytes ≡ from_le_bytes w32 bytes
le_u32 = le-sum_through 3

pub le_u64 : (bytes : List ℕ) → length bytes ≡ 8 → le bytes ≡ from_le_bytes w64 bytes
le_u64 = le-sum_through 7

le_zeros : (n : ℕ) → le (replicate n 0) ≡ 0
unfolding le
le_zeros zero = refl
le_zeros (suc n) = omega (arith, le_zeros n)

-- bytes laid over the beginning of zeros
pub le_filled : (bytes : List ℕ) (m n : ℕ) → le (bytes ++ drop m (replicate n 0)) ≡ le bytes
unfolding le
le_filled [] m n = ap le (drop-replicate {X = ℕ} m n 0) ∙ le_zeros (n - m)
le_filled (byte ∷ bytes) m n = omega (arith, le_filled bytes m n)
