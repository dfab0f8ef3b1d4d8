-- The step of the register is linear: what is added (exclusive or) to the register and to the byte goes through it apart.
-- And it needs the low byte of the register and of the byte alone; the rest of the register moves down.
use Prim.Native.Nat.{ℕ, zero, suc, ◌+◌, ◌*◌, ◌/◌, ◌%◌, ◌^◌, ◌<◌}
use mathlib.Core.Path.{◌≡◌, refl, sym, ap, ap₂, ◌∙◌, subst}
use mathlib.Core.List.{◌∷◌, foldl}
use native.Mathlib.Omega.{arith}
use native.Mathlib.Numerals.{add-one}
use native.Mathlib.Nat.{le_of_suc-le-suc, not-suc-le-zero, zero-lt-suc, mod-lt, zero-mul, mul-one, add-mod}
use lib.Pow.{split, pow_pos, field, mod-mod-pow}
use lib.Bits.{bit_xor, xor_self, xor_zero_r, xor_shr, xor_mod, xor_shifted, shifted_half, shifted_even}
use Rattle.slicing.proofs.Xor.{xor_half, xor_low, xor_four}
use Rattle.crc32.specs.Crc.{bits, reversed, polynomial, bit_step, byte_step}
use Rattle.crc32.proofs.Shift.{shifts, byte_shifts}

-- A binary digit is 0 or 1.
pub digit : (P : ℕ → Type 0) → P 0 → P 1 → (x : ℕ) → x < 2 → P x
digit P none one zero h = none
digit P none one (suc zero) h = one
digit P none one (suc (suc x)) h = absurd (not-suc-le-zero (le_of_suc-le-suc (le_of_suc-le-suc h)))

is_digit : (n : ℕ) → n % 2 < 2
is_digit n = mod-lt n (zero-lt-suc 1)

digit_xor : (x y : ℕ) → x < 2 → y < 2 → (x + y) % 2 ≡ bit_xor x y
digit_xor x y hx hy =
    digit (λ x. (x + y) % 2 ≡ bit_xor x y)
    (digit (λ y. (0 + y) % 2 ≡ bit_xor 0 y) refl refl y hy)
    (digit (λ y. (1 + y) % 2 ≡ bit_xor 1 y) refl refl y hy)
    x hx

digit_times : (p x y : ℕ) → x < 2 → y < 2 → bit_xor x y * p ≡ bit_xor (x * p) (y * p)
digit_times p x y hx hy =
    digit (λ x. bit_xor x y * p ≡ bit_xor (x * p) (y * p)) (sym (ap (λ (k : ℕ). bit_xor k (y * p)) (zero-mul p)))
    (digit (λ y. bit_xor 1 y * p ≡ bit_xor (1 * p) (y * p)) (sym (ap (bit_xor (1 * p)) (zero-mul p) ∙ xor_zero_r (1 * p)))
    (zero-mul p ∙ sym (xor_self (1 * p))) y hy)
    x hx

-- The bit that is shifted out, added to the message's bit: by its two parts.
shifted_out :
    (p q a b : ℕ) → (bit_xor p q + bit_xor a b % 2) % 2 ≡ bit_xor ((p + a % 2) % 2) ((q + b % 2) % 2)
shifted_out p q a b =
    let bit : bit_xor a b % 2 % 2 ≡ (a + b) % 2 = omega (arith, xor_low a b) in
    let columns : p + q + (a + b) ≡ p + a + (q + b) = omega arith in
    let first : (p + a) % 2 ≡ (p + a % 2) % 2 = omega arith in
    let second : (q + b) % 2 ≡ (q + b % 2) % 2 = omega arith in
    add-mod (bit_xor p q) (bit_xor a b % 2) 2
    ∙ ap₂ (λ (x y : ℕ). (x + y) % 2) (xor_low p q) bit
    ∙ sym (add-mod (p + q) (a + b) 2)
    ∙ ap (λ (n : ℕ). n % 2) columns
    ∙ add-mod (p + a) (q + b) 2
    ∙ ap₂ (λ (x y : ℕ). (x + y) % 2) first second
    ∙ digit_xor ((p + a % 2) % 2) ((q + b % 2) % 2) (is_digit (p + a % 2)) (is_digit (q + b % 2))

bit_both :
    (p q a b : ℕ) → bit_step (bit_xor p q) (bit_xor a b % 2) ≡ bit_xor (bit_step p (a % 2)) (bit_step q (b % 2))
unfolding bit_step
bit_both p q a b =
    let x = (p + a % 2) % 2 in
    let y = (q + b % 2) % 2 in
    ap₂ (λ (m n : ℕ). bit_xor m (n * polynomial)) (xor_half p q) (shifted_out p q a b)
    ∙ ap (bit_xor (bit_xor (p / 2) (q / 2))) (digit_times polynomial x y (is_digit (p + a % 2)) (is_digit (q + b % 2)))
    ∙ xor_four (p / 2) (q / 2) (x * polynomial) (y * polynomial)

bits_both :
    (k p q a b : ℕ)
    → foldl bit_step (bit_xor p q) (bits k (bit_xor a b)) ≡ bit_xor (foldl bit_step p (bits k a)) (foldl bit_step q (bits k b))
unfolding bits
bits_both zero p q a b = refl
bits_both (suc k) p q a b =
    ap₂ (λ (r n : ℕ). foldl bit_step r (bits k n)) (bit_both p q a b) (xor_half a b)
    ∙ bits_both k (bit_step p (a % 2)) (bit_step q (b % 2)) (a / 2) (b / 2)

-- Two registers and two bytes, added or apart.
pub byte_both : (p q a b : ℕ) → byte_step (bit_xor p q) (bit_xor a b) ≡ bit_xor (byte_step p a) (byte_step q b)
unfolding byte_step
byte_both p q a b = bits_both 8 p q a b

-- What is added to the register before a byte is there after it, moved past a zero byte.
pub byte_xor : (p q b : ℕ) → byte_step (bit_xor p q) b ≡ bit_xor (byte_step p b) (byte_step q 0)
byte_xor p q b = ap (byte_step (bit_xor p q)) (sym (xor_zero_r b)) ∙ byte_both p q b 0

pub bit_xor_lem : (p q : ℕ) → bit_step (bit_xor p q) 0 ≡ bit_xor (bit_step p 0) (bit_step q 0)
bit_xor_lem p q = bit_both p q 0 0

-- Nothing comes of nothing.
pub byte_zero : byte_step 0 0 ≡ 0
unfolding bits reversed polynomial bit_step byte_step
byte_zero = refl

shifts_xor : (k a b : ℕ) → shifts k (bit_xor a b) ≡ bit_xor (shifts k a) (shifts k b)
unfolding shifts
shifts_xor zero a b = refl
shifts_xor (suc k) a b = ap (shifts k) (bit_xor_lem a b) ∙ shifts_xor k (bit_step a 0) (bit_step b 0)

-- Zeros at the low end only move out.
shifts_shifted : (k a : ℕ) → shifts k (a * 2 ^ k) ≡ a
unfolding shifts bit_step
shifts_shifted zero a = simp mul-one
shifts_shifted (suc k) a =
    let even : (a * 2 ^ suc k + 0) % 2 ≡ 0 = omega (arith, shifted_even a k) in
    ap₂ (λ (x y : ℕ). shifts k (bit_xor x (y * polynomial))) (shifted_half a k) even
    ∙ ap (λ (x : ℕ). shifts k (bit_xor (a * 2 ^ k) x)) (zero-mul polynomial)
    ∙ ap (shifts k) (xor_zero_r (a * 2 ^ k))
    ∙ shifts_shifted k a

-- So many zero bits use as many low digits, and move the rest down.
shifts_split : (k x : ℕ) → shifts k x ≡ bit_xor (x / 2 ^ k) (shifts k (x % 2 ^ k))
shifts_split k x =
    ap (shifts k) (sym (split x k) ∙ sym (xor_shifted (x / 2 ^ k) k (x % 2 ^ k) (mod-lt x (pow_pos k))))
    ∙ shifts_xor k (x / 2 ^ k * 2 ^ k) (x % 2 ^ k)
    ∙ ap (λ (y : ℕ). bit_xor y (shifts k (x % 2 ^ k))) (shifts_shifted k (x / 2 ^ k))

-- The low bits of a number are those of its remainder.
bits_low : (k n : ℕ) → bits k n ≡ bits k (n % 2 ^ k)
unfolding bits
bits_low zero n = refl
bits_low (suc k) n =
    subst (λ (m : ℕ). n % 2 ∷ bits k (n / 2) ≡ n % 2 ^ m % 2 ∷ bits k (n % 2 ^ m / 2)) (add-one k)
    (ap₂ ◌∷◌ (sym (mod-mod-pow n k 1)) (bits_low k (n / 2) ∙ ap (bits k) (sym (field n k 1))))

-- And so does a step.
pub byte_low : (r b : ℕ) → byte_step r b ≡ byte_step r (b % 256)
unfolding byte_step
byte_low r b = ap (foldl bit_step r) (bits_low 8 b)

-- One byte by a table of 256 entries.
pub byte_split : (r b : ℕ) → byte_step r b ≡ bit_xor (r / 256) (byte_step 0 (bit_xor r b % 256))
byte_split r b =
    let small : b % 256 < 256 = omega arith in
    let index : bit_xor r b % 256 < 256 = omega arith in
    let none : b % 256 / 256 ≡ 0 = omega arith in
    let same : b % 256 % 256 ≡ b % 256 = omega arith in
    byte_low r b
    ∙ byte_shifts r (b % 256) small
    ∙ shifts_split 8 (bit_xor r (b % 256))
    ∙ ap₂ (λ (x y : ℕ). bit_xor x (shifts 8 y))
    (xor_shr r (b % 256) 8 ∙ ap (bit_xor (r / 256)) none ∙ xor_zero_r (r / 256))
    (xor_mod r (b % 256) 8 ∙ ap (bit_xor (r % 256)) same ∙ sym (xor_mod r b 8))
    ∙ ap (bit_xor (r / 256)) (sym (byte_shifts 0 (bit_xor r b % 256) index))
