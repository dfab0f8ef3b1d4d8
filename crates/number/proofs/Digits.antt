-- The laws of `le` and `le_bytes`, each once over the width: round trip both ways, bounds, length, and how a number splits in two.
-- Assumes nothing.
use mathlib.Core.Path.{◌≡◌, refl, ap}
use mathlib.Core.List.{List, [], ◌∷◌, ◌++◌}
use Prim.Native.Nat.{ℕ, zero, suc, ◌+◌, ◌*◌, ◌/◌, ◌%◌, ◌^◌, ◌≤◌, ◌<◌}
use native.Mathlib.Nat.{zero-add, suc-add, mul_assoc, div-lt_iff_lt-mul, pow-suc, pow-succ', pow-le-pow_right, lt_of_lt_of_le}
use native.Mathlib.Omega.{arith}
use lib.Dec.{lit<}
use lib.ListN.{length, take, drop, length-take}
use lib.Seq.{take-nil, drop-drop, get_or-drop}
use Rattle.number.specs.Number.{Bytes, le, le_bytes, part, number_at}

-- bytes have a value below 256 to the power of their number
pub le_lt : (bytes : List ℕ) → Bytes bytes → le bytes < 256 ^ length bytes
unfolding le
le_lt [] h = lit< tt
le_lt (b ∷ bytes) h = omega (arith, h zero, le_lt bytes (λ i. h (suc i)), pow-succ' 256 (length bytes))

-- what is below a power of 256 is below every higher one
below_power : {value m : ℕ} (n : ℕ) → value < 256 ^ m → m ≤ n → value < 256 ^ n
below_power n h k = lt_of_lt_of_le h (pow-le-pow_right (lit< tt) k)

pub length-le_bytes : (width value : ℕ) → length (le_bytes width value) ≡ width
unfolding le_bytes
length-le_bytes zero value = refl
length-le_bytes (suc width) value = ap suc (length-le_bytes width (value / 256))

pub le_bytes-bytes : (width value : ℕ) → Bytes (le_bytes width value)
unfolding le_bytes
le_bytes-bytes zero value i = lit< tt
le_bytes-bytes (suc width) value zero = omega arith
le_bytes-bytes (suc width) value (suc i) = le_bytes-bytes width (value / 256) i

-- a value that fits its width is read back from its bytes
pub le-le_bytes : (width value : ℕ) → value < 256 ^ width → le (le_bytes width value) ≡ value
unfolding le le_bytes
le-le_bytes zero value h = omega arith
le-le_bytes (suc width) value h =
    let q : value / 256 < 256 ^ width = (div-lt_iff_lt-mul (lit< tt)).1 (rw pow-suc at h) in
    omega (arith, le-le_bytes width (value / 256) q)

-- bytes are those of their own value
pub le_bytes-le : (bytes : List ℕ) → Bytes bytes → le_bytes (length bytes) (le bytes) ≡ bytes
unfolding le le_bytes
le_bytes-le [] h = refl
le_bytes-le (b ∷ bytes) h =
    let low : b < 256 = h zero in
    let m : (b + 256 * le bytes) % 256 ≡ b = omega arith in
    let d : (b + 256 * le bytes) / 256 ≡ le bytes = omega arith in
    rw (m, d, le_bytes-le bytes (λ i. h (suc i)))

pub bytes_drop : (n : ℕ) (bytes : List ℕ) → Bytes bytes → Bytes (drop n bytes)
bytes_drop n bytes h i = rw (get_or-drop n bytes i 0) (h (n + i))

pub bytes_take : (n : ℕ) (bytes : List ℕ) → Bytes bytes → Bytes (take n bytes)
bytes_take zero bytes h i = lit< tt
bytes_take (suc n) [] h i = h i
bytes_take (suc n) (b ∷ bytes) h zero = h zero
bytes_take (suc n) (b ∷ bytes) h (suc i) = bytes_take n bytes (λ k. h (suc k)) i

pub bytes-append : (a b : List ℕ) → Bytes a → Bytes b → Bytes (a ++ b)
bytes-append [] b h k i = k i
bytes-append (x ∷ a) b h k zero = h zero
bytes-append (x ∷ a) b h k (suc i) = bytes-append a b (λ j. h (suc j)) k i

le_take-add : (bytes : List ℕ) (i j : ℕ) → le (take (i + j) bytes) ≡ le (take i bytes) + 256 ^ i * le (take j (drop i bytes))
unfolding le
le_take-add bytes zero j = simp zero-add (omega arith)
le_take-add [] (suc i) j = rw (take-nil (suc i + j), take-nil j) (omega arith)
le_take-add (b ∷ bytes) (suc i) j =
    rw suc-add
    (omega (arith, le_take-add bytes i j, mul_assoc 256 (256 ^ i) (le (take j (drop i bytes))), ap (λ (n : ℕ). n * le (take j (drop i bytes))) (pow-succ' 256 i)))

-- a field of i + j bytes is one of i bytes and, above it, one of j, also where the bytes end within it
pub number_at-add : (bytes : List ℕ) (at i j : ℕ)
    → number_at bytes at (i + j) ≡ number_at bytes at i + 256 ^ i * number_at bytes (at + i) j
number_at-add bytes at i j = rw (← drop-drop) (le_take-add (drop at bytes) i j)

-- a number of so many bytes is below 256 to their number
pub number_at-lt : (bytes : List ℕ) (at width : ℕ) → Bytes bytes → number_at bytes at width < 256 ^ width
number_at-lt bytes at width h =
    below_power width (le_lt (part bytes at width) (bytes_take width (drop at bytes) (bytes_drop at bytes h))) (simp length-take (omega arith))
