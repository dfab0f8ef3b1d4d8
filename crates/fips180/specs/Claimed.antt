-- What is claimed of the definitions: that the constants are the fractions of roots, that the padding has no more zeros than it needs, and
-- that published digests come out. Proved in proofs/Constants.antt, Zeros.antt and Vectors.antt, the first and the last by computing.
use Rattle.std.specs.Prelude.{ℕ, zero, suc, ◌+◌, ◌-◌, ◌*◌, ◌%◌, ◌^◌, ◌≤◌, ◌<◌, ◌≡◌, Bool, true, not, cond, ◌&&◌, List, [], ◌∷◌, ◌++◌, eqb, length, get_or}
use Rattle.number.specs.Ascii.{ascii}
use Rattle.fips180.specs.Constants.{K, H0}
use Rattle.fips180.specs.Padding.{be_bytes, zero_bytes}
use Rattle.fips180.specs.Hash.{sha256}
use Rattle.fips180.specs.declared.Words.{Words}

-- The constants.

-- the words of a hash value in order
abbrev pub listed : Words → List ℕ
listed v = v.a ∷ v.b ∷ v.c ∷ v.d ∷ v.e ∷ v.f ∷ v.g ∷ v.h ∷ []

-- so many numbers in a row, from the first on
unfoldable pub upward : (first count : ℕ) → List ℕ
upward first zero = []
upward first (suc count) = first ∷ upward (first + 1) count

-- no number of the list divides it
unfoldable pub divided_by_none : (n : ℕ) → List ℕ → Bool
divided_by_none n [] = true
divided_by_none n (d ∷ ds) = not (eqb (n % d) 0) && divided_by_none n ds

-- a number from 2 on is prime if none from 2 to below it divides it
abbrev pub is_prime : (n : ℕ) → Bool
is_prime n = divided_by_none n (upward 2 (n - 2))

-- the prime numbers of a list
unfoldable pub primes_of : List ℕ → List ℕ
primes_of [] = []
primes_of (n ∷ ns) = cond (is_prime n) (n ∷ []) [] ++ primes_of ns

-- the first sixty-four prime numbers: those below 312
unfoldable pub primes : List ℕ
primes = primes_of (upward 2 310)

-- a word is the first 32 bits of the fractional part of a root of a number: with the root's whole part before it, it is the root times
-- 2^32, rounded down
pub record FractionOf (root number word : ℕ) : Type 0 where
  pub whole : ℕ
  pub fits : word < 2 ^ 32
  pub reached : (whole * 2 ^ 32 + word) ^ root ≤ number * 2 ^ (32 * root)
  pub not_passed : number * 2 ^ (32 * root) < (whole * 2 ^ 32 + word + 1) ^ root

pub record ConstantsClaim : Type 0 where
  pub sixty_four_primes : length primes ≡ 64
  -- 4.2.2: of the cube roots of the first sixty-four prime numbers
  pub cube_roots : (length K ≡ 64) × ((i : ℕ) → i < 64 → FractionOf 3 (get_or primes i 0) (get_or K i 0))
  -- 5.3.3: of the square roots of the first eight
  pub square_roots : (i : ℕ) → i < 8 → FractionOf 2 (get_or primes i 0) (get_or (listed H0) i 0)

-- The padding.

-- 5.1.1, in bits: k, the 7 zero bits after the "1" and those of the zero bytes, is the smallest solution of l + 1 + k ≡ 448 modulo 512,
-- where l is the length.
pub record FewestZeros (len : ℕ) : Type 0 where
  pub solves : (8 * len + 1 + (7 + 8 * zero_bytes len)) % 512 ≡ 448
  pub fewest : (k : ℕ) → (8 * len + 1 + k) % 512 ≡ 448 → 7 + 8 * zero_bytes len ≤ k

-- Published digests: of no bytes, and the examples of one block and of two that come with the standard.

-- a message, and its digest as a number of 32 bytes
pub record Vector : Type 0 where
  pub message : List ℕ
  pub digest : ℕ

abbrev pub published : List Vector
published =
    record { message = []; digest = 0xe3b0c44298fc1c149afbf4c8996fb92427ae41e4649b934ca495991b7852b855 }
    ∷ record { message = ascii "abc"; digest = 0xba7816bf8f01cfea414140de5dae2223b00361a396177a9cb410ff61f20015ad }
    ∷ record {
      message = ascii "abcdbcdecdefdefgefghfghighijhijkijkljklmklmnlmnomnopnopq";
      digest = 0x248d6a61d20638b8e5c026930c3e6039a33ce45964ff2167f6ecedd419db06c1;
    }
    ∷ []

-- every one of them is the digest of its message
unfoldable pub EachIsTheDigest : List Vector → Type 0
EachIsTheDigest [] = Unit
EachIsTheDigest (row ∷ rows) = (sha256 row.message ≡ be_bytes 32 row.digest) × EachIsTheDigest rows
