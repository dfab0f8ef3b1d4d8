-- The constants are what the standard says they are: one test, computed over both tables, and what it says of each row. Assumes nothing.
use Prim.Native.Nat.{ℕ, zero, suc, ◌+◌, ◌*◌, ◌^◌, ◌<◌}
use mathlib.Core.Path.{◌≡◌, refl}
use mathlib.Core.Bool.{Bool, true, false, cond, ◌&&◌, false≢true}
use mathlib.Core.List.{List, [], ◌∷◌}
use native.Mathlib.Omega.{arith}
use lib.Dec.{leb, ltb}
use lib.ListN.{length, get_or, take}
use lib.Seq.{get_or-take, length-take-le}
use borrow.Author.Tests.{leb-true, ltb-true}
use Rattle.fips180.specs.Constants.{K, H0}
use Rattle.fips180.specs.Claimed.{listed, upward, divided_by_none, primes_of, primes, FractionOf, ConstantsClaim}

-- the whole part of a root that is at most as large as a number of these
whole_part : (root number : ℕ) → List ℕ → ℕ
whole_part root number [] = 0
whole_part root number (n ∷ ns) = cond (leb (n ^ root) number) n (whole_part root number ns)

-- the whole parts that occur, the largest first
abbrev wholes : List ℕ
wholes = 6 ∷ 5 ∷ 4 ∷ 3 ∷ 2 ∷ 1 ∷ []

is_fraction : (root number word : ℕ) → Bool
is_fraction root number word =
    let whole = whole_part root number wholes in
    ltb word (2 ^ 32)
    && (leb ((whole * 2 ^ 32 + word) ^ root) (number * 2 ^ (32 * root)) && ltb (number * 2 ^ (32 * root)) ((whole * 2 ^ 32 + word + 1) ^ root))

-- a test of every row of two tables
all_rows : (ℕ → ℕ → Bool) → (xs ys : List ℕ) → Bool
all_rows test [] ys = true
all_rows test (x ∷ xs) [] = false
all_rows test (x ∷ xs) (y ∷ ys) = test x y && all_rows test xs ys

K-computed : all_rows (is_fraction 3) primes K ≡ true
unfolding primes primes_of divided_by_none upward K is_fraction whole_part all_rows
K-computed = refl

counted : length primes ≡ 64
unfolding primes primes_of divided_by_none upward
counted = refl

H0-computed : all_rows (is_fraction 2) (take 8 primes) (listed H0) ≡ true
unfolding primes primes_of divided_by_none upward H0 is_fraction whole_part all_rows
H0-computed = refl

and_both : (a b : Bool) → a && b ≡ true → (a ≡ true) × (b ≡ true)
and_both true b e = (refl, e)
and_both false b e = absurd (false≢true e)

row : (test : ℕ → ℕ → Bool) (xs ys : List ℕ) → all_rows test xs ys ≡ true → (i : ℕ) → i < length xs
    → test (get_or xs i 0) (get_or ys i 0) ≡ true
unfolding all_rows
row test [] ys e i h = absurd (omega arith)
row test (x ∷ xs) [] e i h = absurd (false≢true e)
row test (x ∷ xs) (y ∷ ys) e zero h = (and_both (test x y) (all_rows test xs ys) e).0
row test (x ∷ xs) (y ∷ ys) e (suc i) h = row test xs ys (and_both (test x y) (all_rows test xs ys) e).1 i (omega arith)

fraction : (root number word : ℕ) → is_fraction root number word ≡ true → FractionOf root number word
unfolding is_fraction
fraction root number word e =
    let whole = whole_part root number wholes in
    let both = and_both (ltb word (2 ^ 32)) _ e in
    let between = and_both (leb ((whole * 2 ^ 32 + word) ^ root) (number * 2 ^ (32 * root))) _ both.1 in
    record {
      whole = whole;
      fits = ltb-true word (2 ^ 32) both.0;
      reached = leb-true _ _ between.0;
      not_passed = ltb-true _ _ between.1;
    }

pub K-long : length K ≡ 64
unfolding K
K-long = refl

pub constants_hold : ConstantsClaim
constants_hold = record {
  sixty_four_primes = counted;
  cube_roots = (K-long, λ i h. fraction 3 (get_or primes i 0) (get_or K i 0) (row (is_fraction 3) primes K K-computed i (rw counted h)));
  square_roots = λ i h.
      rw (get_or-take 8 primes i 0 h) at (fraction 2 (get_or (take 8 primes) i 0) (get_or (listed H0) i 0)
      (row (is_fraction 2) (take 8 primes) (listed H0) H0-computed i (rw (length-take-le 8 primes (rw counted (omega arith))) h)));
}
