-- FIPS 180-4, sections 3.2 and 4.1.2: operations on words, which have 32 bits, and the six functions of SHA-256.
use Rattle.std.specs.Prelude.{ℕ, ◌-◌, ◌*◌, ◌/◌, ◌%◌, ◌^◌}
use Rattle.std.specs.Int.Bits.{bit_and, bit_or, bit_xor}

-- 3.2: "+" of words is addition modulo 2^32; a sum of several words is taken modulo 2^32 once
abbrev pub mod32 : ℕ → ℕ
mod32 sum = sum % 2 ^ 32

-- "¬", the complement
abbrev pub complement : (x : ℕ) → ℕ
complement x = 2 ^ 32 - 1 - x

-- 3.2: shift right, x >> n
abbrev pub SHR : (n x : ℕ) → ℕ
SHR n x = x / 2 ^ n

-- 3.2: rotate right, (x >> n) ∨ (x << 32 − n)
unfoldable pub ROTR : (n x : ℕ) → ℕ
ROTR n x = bit_or (x / 2 ^ n) (mod32 (x * 2 ^ (32 - n)))

-- (4.2)
unfoldable pub Ch : (x y z : ℕ) → ℕ
Ch x y z = bit_xor (bit_and x y) (bit_and (complement x) z)

-- (4.3)
unfoldable pub Maj : (x y z : ℕ) → ℕ
Maj x y z = bit_xor (bit_xor (bit_and x y) (bit_and x z)) (bit_and y z)

-- (4.4)
unfoldable pub Σ0 : (x : ℕ) → ℕ
Σ0 x = bit_xor (bit_xor (ROTR 2 x) (ROTR 13 x)) (ROTR 22 x)

-- (4.5)
unfoldable pub Σ1 : (x : ℕ) → ℕ
Σ1 x = bit_xor (bit_xor (ROTR 6 x) (ROTR 11 x)) (ROTR 25 x)

-- (4.6)
unfoldable pub σ0 : (x : ℕ) → ℕ
σ0 x = bit_xor (bit_xor (ROTR 7 x) (ROTR 18 x)) (SHR 3 x)

-- (4.7)
unfoldable pub σ1 : (x : ℕ) → ℕ
σ1 x = bit_xor (bit_xor (ROTR 17 x) (ROTR 19 x)) (SHR 10 x)
