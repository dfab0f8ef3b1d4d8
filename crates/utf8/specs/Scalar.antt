-- The encoding of one character number, as RFC 3629, section 3, gives it.
use Rattle.std.specs.Prelude.{ℕ, ◌+◌, ◌/◌, ◌%◌, ◌≤◌, ◌<◌, List, [], ◌∷◌, ◌⊎◌}

-- A Unicode scalar value: a character number up to 10FFFF, and no surrogate.
pub record Scalar (number : ℕ) : Type 0 where
  pub not_above : number ≤ 0x10FFFF
  pub no_surrogate : (number < 0xD800) ⊎ (0xDFFF < number)

-- The octets are those of the number, a constructor for each length. The first octet says how many there are; each octet
-- after it has 0x80 and six bits of the number, the lowest in the last.
pub data Encodes (number : ℕ) : List ℕ → Type 0 where
  one : number ≤ 0x7F
      → Encodes number (number ∷ [])
  two : 0x80 ≤ number → number ≤ 0x7FF
      → Encodes number ((0xC0 + number / 64) ∷ (0x80 + number % 64) ∷ [])
  three : 0x800 ≤ number → number ≤ 0xFFFF
      → Encodes number ((0xE0 + number / 64 / 64) ∷ (0x80 + number / 64 % 64) ∷ (0x80 + number % 64) ∷ [])
  four : 0x10000 ≤ number → number ≤ 0x10FFFF
      → Encodes number ((0xF0 + number / 64 / 64 / 64) ∷ (0x80 + number / 64 / 64 % 64) ∷ (0x80 + number / 64 % 64) ∷ (0x80 + number % 64) ∷ [])
