-- A list counted out, and rules that hold for each of its elements or for each two of them. Assumes nothing.
use Prim.Native.Nat.{ℕ, zero, suc, ◌<◌}
use mathlib.Core.Path.{◌≡◌, refl, ap₂}
use mathlib.Core.List.{List, [], ◌∷◌}
use native.Mathlib.Nat.{not-suc-le-zero}
use native.Mathlib.Omega.{arith}
use lib.ListN.{length}
use Rattle.format.specs.Layout.{All}

-- the values of a function at 0, 1, .. below the count
abbrev pub listed : {A : Type 0} (count : ℕ) → (ℕ → A) → List A
listed zero f = []
listed (suc count) f = f 0 ∷ listed count (λ i. f (suc i))

pub length-listed : {A : Type 0} (count : ℕ) (f : ℕ → A) → length (listed count f) ≡ count
length-listed zero f = refl
length-listed (suc count) f = rw (length-listed count (λ i. f (suc i)))

pub listed_same : {A : Type 0} (count : ℕ) (f g : ℕ → A) → ((i : ℕ) → f i ≡ g i) → listed count f ≡ listed count g
listed_same zero f g e = refl
listed_same (suc count) f g e = ap₂ ◌∷◌ (e 0) (listed_same count (λ i. f (suc i)) (λ i. g (suc i)) (λ i. e (suc i)))

module _ {A : Type 0} (Rule : A → Type 0) where
  pub all_listed : (count : ℕ) (f : ℕ → A) → ((i : ℕ) → i < count → Rule (f i)) → All Rule (listed count f)
  all_listed zero f each = tt
  all_listed (suc count) f each = (each 0 (omega arith), all_listed count (λ i. f (suc i)) (λ i h. each (suc i) (omega arith)))

  pub listed_all : (count : ℕ) (f : ℕ → A) → All Rule (listed count f) → (i : ℕ) → i < count → Rule (f i)
  listed_all zero f all i h = absurd (not-suc-le-zero h)
  listed_all (suc count) f all zero h = all.0
  listed_all (suc count) f all (suc i) h = listed_all count (λ i. f (suc i)) all.1 i (omega arith)

-- `Pairs` is a rule on lists that says `Rule` of each two elements: of the first and each of the others, and of the others
module _ {A : Type 0} (Rule : A → A → Type 0) (Pairs : List A → Type 0) where
  pub pairs_listed : Pairs [] → ((a : A) (others : List A) → All (Rule a) others → Pairs others → Pairs (a ∷ others))
      → (count : ℕ) (f : ℕ → A) → ((i j : ℕ) → i < j → j < count → Rule (f i) (f j)) → Pairs (listed count f)
  pairs_listed none more zero f each = none
  pairs_listed none more (suc count) f each =
      more (f 0) (listed count (λ i. f (suc i)))
      (all_listed (Rule (f 0)) count (λ i. f (suc i)) (λ j h. each 0 (suc j) (omega arith) (omega arith)))
      (pairs_listed none more count (λ i. f (suc i)) (λ i j h k. each (suc i) (suc j) (omega arith) (omega arith)))

  pub listed_pairs : ((a : A) (others : List A) → Pairs (a ∷ others) → All (Rule a) others × Pairs others)
      → (count : ℕ) (f : ℕ → A) → Pairs (listed count f) → (i j : ℕ) → i < j → j < count → Rule (f i) (f j)
  listed_pairs parts zero f pairs i j h k = absurd (not-suc-le-zero k)
  listed_pairs parts (suc count) f pairs i zero h k = absurd (not-suc-le-zero h)
  listed_pairs parts (suc count) f pairs zero (suc j) h k =
      listed_all (Rule (f 0)) count (λ i. f (suc i)) (parts (f 0) _ pairs).0 j (omega arith)
  listed_pairs parts (suc count) f pairs (suc i) (suc j) h k =
      listed_pairs parts count (λ i. f (suc i)) (parts (f 0) _ pairs).1 i j (omega arith) (omega arith)
