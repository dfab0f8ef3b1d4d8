-- A register moved past 300 zero bytes is the sum of itself and of itself moved past 89, 117 and 155.
-- For 1 + x^89 + x^117 + x^155 + x^300 is a multiple of the polynomial, and so is the same with every exponent times eight.
-- It is computed for one register, and holds of the others since they are that one moved on by bits, and sums of these.
use Prim.Native.Nat.{ℕ, zero, suc, ◌*◌, ◌/◌, ◌%◌, ◌^◌, ◌<◌}
use mathlib.Core.Path.{◌≡◌, refl, sym, ap, ap₂, ◌∙◌, subst}
use native.Mathlib.Omega.{arith}
use native.Mathlib.Nat.{mod-lt, zero-mul, one-mul, pow-suc, div-lt_iff_lt-mul}
use lib.Arith.{lt-one}
use lib.Pow.{split, pow_pos}
use lib.Bits.{bit_xor, xor_shifted}
use Rattle.slicing.specs.inner.Slicing.{zeros}
use Rattle.slicing.proofs.Xor.{xor_four}
use Rattle.slicing.proofs.Zeros.{zeros_xor}
use Rattle.crc32.specs.Crc.{bits, reversed, polynomial, bit_step, byte_step}
use Rattle.crc32.proofs.Linear.{bit_xor_lem, byte_xor, byte_both, byte_low, digit}

-- The register moved past a number of zero bytes.
abbrev pub moved : ℕ → ℕ → ℕ
moved n r = zeros byte_step n r

-- A zero bit before zero bytes may be taken after them.
byte_bit : (r : ℕ) → byte_step (bit_step r 0) 0 ≡ bit_step (byte_step r 0) 0
unfolding bits byte_step
byte_bit r = refl

zeros_bit : (n r : ℕ) → moved n (bit_step r 0) ≡ bit_step (moved n r) 0
unfolding zeros
zeros_bit zero r = refl
zeros_bit (suc n) r = ap (moved n) (byte_bit r) ∙ zeros_bit n (byte_step r 0)

-- The sum of four numbers.
abbrev pub sum : ℕ → ℕ → ℕ → ℕ → ℕ
sum a b c d = bit_xor (bit_xor (bit_xor a b) c) d

pub sum_cong :
    {a b c d p q r s : ℕ} → a ≡ p → b ≡ q → c ≡ r → d ≡ s → sum a b c d ≡ sum p q r s
sum_cong ea eb ec ed = ap₂ bit_xor (ap₂ bit_xor (ap₂ bit_xor ea eb) ec) ed

pub sum_xor :
    (a b c d p q r s : ℕ)
    → sum (bit_xor a p) (bit_xor b q) (bit_xor c r) (bit_xor d s) ≡ bit_xor (sum a b c d) (sum p q r s)
sum_xor a b c d p q r s =
    ap (λ (n : ℕ). bit_xor (bit_xor n (bit_xor c r)) (bit_xor d s)) (xor_four a p b q)
    ∙ ap (λ (n : ℕ). bit_xor n (bit_xor d s)) (xor_four (bit_xor a b) (bit_xor p q) c r)
    ∙ xor_four (bit_xor (bit_xor a b) c) (bit_xor (bit_xor p q) r) d s

pub byte_sum :
    (a b c d p q r s : ℕ)
    → byte_step (sum a b c d) (sum p q r s) ≡ sum (byte_step a p) (byte_step b q) (byte_step c r) (byte_step d s)
byte_sum a b c d p q r s =
    byte_both (bit_xor (bit_xor a b) c) d (bit_xor (bit_xor p q) r) s
    ∙ ap (λ (n : ℕ). bit_xor n (byte_step d s))
    (byte_both (bit_xor a b) c (bit_xor p q) r ∙ ap (λ (n : ℕ). bit_xor n (byte_step c r)) (byte_both a b p q))

bit_sum : (a b c d : ℕ) → bit_step (sum a b c d) 0 ≡ sum (bit_step a 0) (bit_step b 0) (bit_step c 0) (bit_step d 0)
bit_sum a b c d =
    bit_xor_lem (bit_xor (bit_xor a b) c) d
    ∙ ap (λ (n : ℕ). bit_xor n (bit_step d 0))
    (bit_xor_lem (bit_xor a b) c ∙ ap (λ (n : ℕ). bit_xor n (bit_step c 0)) (bit_xor_lem a b))

-- The register moved past 300 zero bytes, added to itself moved past 155, 117 and 89. It is to be the register again.
unfoldable pub spared : ℕ → ℕ
spared r = sum (moved 300 r) (moved 155 r) (moved 117 r) (moved 89 r)

spared_xor : (a b : ℕ) → spared a ≡ a → spared b ≡ b → spared (bit_xor a b) ≡ bit_xor a b
unfolding spared
spared_xor a b ea eb =
    let apart : (n : ℕ) → moved n (bit_xor a b) ≡ bit_xor (moved n a) (moved n b) = λ n. zeros_xor byte_step byte_xor n a b in
    sum_cong (apart 300) (apart 155) (apart 117) (apart 89)
    ∙ sum_xor (moved 300 a) (moved 155 a) (moved 117 a) (moved 89 a) (moved 300 b) (moved 155 b) (moved 117 b) (moved 89 b)
    ∙ ap₂ bit_xor ea eb

spared_bit : (r : ℕ) → spared r ≡ r → spared (bit_step r 0) ≡ bit_step r 0
unfolding spared
spared_bit r e =
    sum_cong (zeros_bit 300 r) (zeros_bit 155 r) (zeros_bit 117 r) (zeros_bit 89 r)
    ∙ sym (bit_sum (moved 300 r) (moved 155 r) (moved 117 r) (moved 89 r))
    ∙ ap (λ (n : ℕ). bit_step n 0) e

-- Computed for a byte's highest bit.
spared_top : spared (byte_step 0 128) ≡ byte_step 0 128
unfolding bits reversed polynomial bit_step byte_step zeros spared
spared_top = refl

-- So for what a byte makes of a register of zero.
abbrev Spared : ℕ → Type 0
Spared b = spared (byte_step 0 b) ≡ byte_step 0 b

none : Spared 0
unfolding bits reversed polynomial bit_step byte_step zeros spared
none = refl

-- A bit of a byte is the next higher one, moved on by a bit.
lower : (b : ℕ) → byte_step 0 b ≡ bit_step (byte_step 0 (b * 2)) 0 → Spared (b * 2) → Spared b
lower b e higher = subst (λ (r : ℕ). spared r ≡ r) (sym e) (spared_bit (byte_step 0 (b * 2)) higher)

both : (a b : ℕ) → Spared a → Spared b → Spared (bit_xor a b)
both a b ea eb =
    subst (λ (r : ℕ). spared r ≡ r) (sym (byte_both 0 0 a b)) (spared_xor (byte_step 0 a) (byte_step 0 b) ea eb)

-- One bit more, and the bits below it.
more : (k : ℕ) → Spared (2 ^ k) → ((b : ℕ) → b < 2 ^ k → Spared b) → (b : ℕ) → b < 2 ^ suc k → Spared b
more k here below b h =
    let within : b < 2 * 2 ^ k = omega (arith, pow-suc 2 k) in
    let high : b / 2 ^ k < 2 = (div-lt_iff_lt-mul (pow_pos k)).1 within in
    let low : b % 2 ^ k < 2 ^ k = mod-lt b (pow_pos k) in
    let parts : bit_xor (b / 2 ^ k * 2 ^ k) (b % 2 ^ k) ≡ b = xor_shifted (b / 2 ^ k) k (b % 2 ^ k) low ∙ split b k in
    subst Spared parts
    (both (b / 2 ^ k * 2 ^ k) (b % 2 ^ k)
    (digit (λ (d : ℕ). Spared (d * 2 ^ k)) (subst Spared (sym (zero-mul (2 ^ k))) none)
    (subst Spared (sym (one-mul (2 ^ k))) here) (b / 2 ^ k) high)
    (below (b % 2 ^ k) low))

bits_spared : (b : ℕ) → b < 256 → Spared b
unfolding bits reversed polynomial bit_step byte_step
bits_spared =
    let b7 : Spared 128 = spared_top in
    let b6 : Spared 64 = lower 64 refl b7 in
    let b5 : Spared 32 = lower 32 refl b6 in
    let b4 : Spared 16 = lower 16 refl b5 in
    let b3 : Spared 8 = lower 8 refl b4 in
    let b2 : Spared 4 = lower 4 refl b3 in
    let b1 : Spared 2 = lower 2 refl b2 in
    let b0 : Spared 1 = lower 1 refl b1 in
    more 7 b7 (more 6 b6 (more 5 b5 (more 4 b4 (more 3 b3 (more 2 b2 (more 1 b1 (more 0 b0
    (λ b h. subst Spared (sym (lt-one h)) none))))))))

-- And so for every byte.
pub byte_spared : (b : ℕ) → spared (byte_step 0 b) ≡ byte_step 0 b
byte_spared b = subst (λ (r : ℕ). spared r ≡ r) (sym (byte_low 0 b)) (bits_spared (b % 256) (omega arith))

pub spared_sum : (r : ℕ) → sum (moved 300 r) (moved 155 r) (moved 117 r) (moved 89 r) ≡ spared r
unfolding spared
spared_sum r = refl
