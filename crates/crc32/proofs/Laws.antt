-- The checksum fits four bytes. The register of a longer list continues from that of its beginning.
-- The subtraction in the checksum's definition is a complement.
use Prim.Native.Nat.{ℕ, ◌+◌, ◌-◌, ◌*◌, ◌/◌, ◌%◌, ◌^◌, ◌<◌}
use mathlib.Core.Path.{◌≡◌, refl, sym, ap, ◌∙◌}
use mathlib.Core.List.{List, [], ◌∷◌, ◌++◌, foldl, foldl-append}
use native.Mathlib.Omega.{arith}
use native.Mathlib.Nat.{suc-ne-zero}
use lib.ListN.{length}
use lib.Bits.{xor_lt}
use Rattle.crc32.specs.Crc.{bits, reversed, polynomial, bit_step, byte_step, register, crc}

pub crc_lt : (bytes : List ℕ) → crc bytes < 256 ^ 4
unfolding crc
crc_lt bytes = omega arith

pub register-append : (earlier later : List ℕ) → register (earlier ++ later) ≡ foldl byte_step (register earlier) later
unfolding register
register-append earlier later = foldl-append byte_step _ earlier later

pub register_none : (bytes : List ℕ) → length bytes ≡ 0 → 0xFFFFFFFF ≡ register bytes
unfolding register
register_none [] e = refl
register_none (byte ∷ bytes) e = absurd (suc-ne-zero (length bytes) e)

-- The register goes on from the first byte.
pub register_first :
    (bytes rest : List ℕ) (byte first last : ℕ) → bytes ≡ byte ∷ rest → first ≡ byte_step 0xFFFFFFFF byte
    → last ≡ foldl byte_step first rest → last ≡ register bytes
unfolding register
register_first bytes rest byte first last cut e f =
    f ∙ ap (λ (r : ℕ). foldl byte_step r rest) e ∙ ap (foldl byte_step 0xFFFFFFFF) (sym cut)

-- The complement of the register is the checksum.
pub complement : (bytes : List ℕ) (last : ℕ) → last ≡ register bytes → 0xFFFFFFFF - last ≡ crc bytes
unfolding crc
complement bytes last = ap (λ r. 0xFFFFFFFF - r)

-- Every step keeps the register within 32 bits, so the whole fold does.
foldl-lt :
    (step : ℕ → ℕ → ℕ) → ((r x : ℕ) → r < 2 ^ 32 → step r x < 2 ^ 32)
    → (xs : List ℕ) {r : ℕ} → r < 2 ^ 32 → foldl step r xs < 2 ^ 32
foldl-lt step keeps [] h = h
foldl-lt step keeps (x ∷ xs) {r} h = foldl-lt step keeps xs (keeps r x h)

bit_step-lt : (r bit : ℕ) → r < 2 ^ 32 → bit_step r bit < 2 ^ 32
unfolding bits reversed polynomial bit_step
bit_step-lt r bit h = xor_lt 32 (r / 2) ((r + bit) % 2 * polynomial) (omega arith) (omega arith)

byte_step-lt : (r byte : ℕ) → r < 2 ^ 32 → byte_step r byte < 2 ^ 32
unfolding byte_step
byte_step-lt r byte h = foldl-lt bit_step bit_step-lt (bits 8 byte) h

-- The register is never above 0xFFFFFFFF, so the subtraction is exact.
pub crc_complements_register : (bytes : List ℕ) → crc bytes + register bytes ≡ 0xFFFFFFFF
unfolding register crc
crc_complements_register bytes =
    let within : register bytes < 2 ^ 32 = foldl-lt byte_step byte_step-lt bytes (omega arith) in
    omega arith
