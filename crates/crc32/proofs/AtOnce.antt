-- Four bytes added to the register at once, and then four zero bytes, do what the four bytes do one after the other.
use Prim.Native.Nat.{ℕ, zero, suc, ◌+◌, ◌*◌, ◌/◌, ◌%◌, ◌^◌, ◌<◌}
use mathlib.Core.Path.{◌≡◌, sym, ap, ap₂, ◌∙◌}
use mathlib.Core.List.{List, foldl}
use native.Mathlib.Omega.{arith}
use native.Mathlib.Nat.{mul-one, mul_assoc, pow-suc}
use lib.ListN.{length, get_or}
use lib.Bits.{bit_xor, xor_assoc, xor_block, xor_zero_r}
use Rattle.std.specs.Int.{from_le_bytes, w32}
use Rattle.slicing.specs.inner.Slicing.{zeros, values}
use Rattle.slicing.proofs.Values.{listed}
use Rattle.slicing.proofs.Zeros.{zeros_xor, zeros_last}
use Rattle.crc32.specs.Crc.{byte_step}
use Rattle.crc32.proofs.Shift.{byte_shifts, shifts}
use Rattle.crc32.proofs.Linear.{byte_zero, byte_xor, byte_split}
use Rattle.crc32.proofs.Sparse.{moved}

-- A byte may be added to the register before the step.
byte_add : (r b : ℕ) → b < 256 → byte_step r b ≡ byte_step (bit_xor r b) 0
byte_add r b h =
    byte_shifts r b h
    ∙ ap (shifts 8) (sym (xor_zero_r (bit_xor r b)))
    ∙ sym (byte_shifts (bit_xor r b) 0 (omega arith))

-- A zero byte moves a register down whose low byte is zero.
byte_down : (n : ℕ) → byte_step (n * 256) 0 ≡ n
byte_down n =
    let down : n * 256 / 256 ≡ n = omega arith in
    let low : n * 256 % 256 ≡ 0 = omega arith in
    byte_split (n * 256) 0
    ∙ ap₂ (λ (x y : ℕ). bit_xor x (byte_step 0 (y % 256))) down (xor_zero_r (n * 256))
    ∙ ap (λ (y : ℕ). bit_xor n (byte_step 0 y)) low
    ∙ ap (bit_xor n) byte_zero
    ∙ xor_zero_r n

zeros_down : (k b : ℕ) → moved k (b * 256 ^ k) ≡ b
unfolding zeros
zeros_down zero b = mul-one b
zeros_down (suc k) b =
    ap (λ (n : ℕ). moved k (byte_step n 0)) (ap (λ (p : ℕ). b * p) (pow-suc 256 k) ∙ sym (mul_assoc b (256 ^ k) 256))
    ∙ ap (moved k) (byte_down (b * 256 ^ k))
    ∙ zeros_down k b

-- A byte after some zero bytes may be added before them, as many bytes further up.
byte_before : (k r b : ℕ) → b < 256 → byte_step (moved k r) b ≡ moved (suc k) (bit_xor r (b * 256 ^ k))
byte_before k r b h =
    byte_add (moved k r) b h
    ∙ ap (λ (n : ℕ). byte_step (bit_xor (moved k r) n) 0) (sym (zeros_down k b))
    ∙ ap (λ (n : ℕ). byte_step n 0) (sym (zeros_xor byte_step byte_xor k r (b * 256 ^ k)))
    ∙ sym (zeros_last byte_step k (bit_xor r (b * 256 ^ k)))

first_byte : (r b : ℕ) → b < 256 → byte_step r b ≡ moved 1 (bit_xor r b)
unfolding zeros
first_byte r b h = byte_add r b h

-- A number below a power of two and a multiple of it have no bit in common.
apart : (k low high : ℕ) → low < 2 ^ k → bit_xor low (high * 2 ^ k) ≡ low + high * 2 ^ k
apart k low high h =
    let block : bit_xor (0 * 2 ^ k + low) (high * 2 ^ k + 0) ≡ bit_xor 0 high * 2 ^ k + bit_xor low 0 = xor_block k 0 high low 0 h (omega arith) in
    let left : 0 * 2 ^ k + low ≡ low = omega arith in
    let right : high * 2 ^ k + 0 ≡ high * 2 ^ k = omega arith in
    ap₂ bit_xor (sym left) (sym right) ∙ block
    ∙ ap (λ (n : ℕ). high * 2 ^ k + n) (xor_zero_r low) ∙ (omega arith)

-- A number's four bytes, low byte first.
from_bytes : (s : List ℕ) → ((i : ℕ) → get_or s i 0 < 256)
    → from_le_bytes w32 s
    ≡ bit_xor (bit_xor (bit_xor (get_or s 0 0) (get_or s 1 0 * 256)) (get_or s 2 0 * 65536)) (get_or s 3 0 * 16777216)
from_bytes s bytes =
    let b0 = get_or s 0 0 in
    let b1 = get_or s 1 0 in
    let b2 = get_or s 2 0 in
    let b3 = get_or s 3 0 in
    let h0 : b0 < 256 = bytes 0 in
    let h1 : b1 < 256 = bytes 1 in
    let h2 : b2 < 256 = bytes 2 in
    sym
    (ap (λ (n : ℕ). bit_xor (bit_xor n (b2 * 65536)) (b3 * 16777216)) (apart 8 b0 b1 (omega arith))
    ∙ ap (λ (n : ℕ). bit_xor n (b3 * 16777216)) (apart 16 (b0 + b1 * 256) b2 (omega arith))
    ∙ apart 24 (b0 + b1 * 256 + b2 * 65536) b3 (omega arith))

-- Four bytes one after the other, and at once.
one_by_one :
    (s : List ℕ) (r : ℕ) → length s ≡ 4 → ((i : ℕ) → get_or s i 0 < 256)
    → moved 4
    (bit_xor r
    (bit_xor (bit_xor (bit_xor (get_or s 0 0) (get_or s 1 0 * 256)) (get_or s 2 0 * 65536)) (get_or s 3 0 * 16777216)))
    ≡ foldl byte_step r s
unfolding values
one_by_one s r e bytes =
    let b0 = get_or s 0 0 in
    let b1 = get_or s 1 0 in
    let b2 = get_or s 2 0 in
    let b3 = get_or s 3 0 in
    sym
    (ap (foldl byte_step r) (listed s 4 e)
    ∙ ap (λ (n : ℕ). byte_step (byte_step (byte_step n b1) b2) b3) (first_byte r b0 (bytes 0))
    ∙ ap (λ (n : ℕ). byte_step (byte_step n b2) b3) (byte_before 1 (bit_xor r b0) b1 (bytes 1))
    ∙ ap (λ (n : ℕ). byte_step n b3) (byte_before 2 (bit_xor (bit_xor r b0) (b1 * 256)) b2 (bytes 2))
    ∙ byte_before 3 (bit_xor (bit_xor (bit_xor r b0) (b1 * 256)) (b2 * 65536)) b3 (bytes 3)
    ∙ ap (moved 4)
    (ap (λ (n : ℕ). bit_xor n (b3 * 16777216))
    (ap (λ (n : ℕ). bit_xor n (b2 * 65536)) (xor_assoc r b0 (b1 * 256)) ∙ xor_assoc r (bit_xor b0 (b1 * 256)) (b2 * 65536))
    ∙ xor_assoc r (bit_xor (bit_xor b0 (b1 * 256)) (b2 * 65536)) (b3 * 16777216)))

pub four_bytes :
    (s : List ℕ) (r word : ℕ) → length s ≡ 4 → ((i : ℕ) → get_or s i 0 < 256) → word ≡ from_le_bytes w32 s
    → moved 4 (bit_xor r word) ≡ foldl byte_step r s
four_bytes s r word e bytes shown =
    ap (λ (n : ℕ). moved 4 (bit_xor r n)) (shown ∙ from_bytes s bytes) ∙ one_by_one s r e bytes
