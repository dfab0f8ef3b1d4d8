-- What a scan keeps up while it finds nothing, and what `any_below` says either way. Assumes nothing.
use mathlib.Core.Path.{◌≡◌, refl, sym, ◌∙◌}
use mathlib.Core.Bool.{Bool, true, false, true≢false, ◌||◌}
use mathlib.Core.Logic.{◌⊎◌, inl, inr, ⊎_elim}
use mathlib.Mathlib.Data.Bool.Basic.{dichotomy, or_inl, or_inr}
use Prim.Native.Nat.{ℕ, zero, suc, ◌+◌, ◌<◌}
use native.Mathlib.Nat.{eq-or-lt_of_le, le_of_suc-le-suc, not-suc-le-zero}
use native.Mathlib.Numerals.{add-one}
use native.Mathlib.Omega.{arith}
use Rattle.checks.specs.Scan.{any_below, any_pair_below}

-- a Bool is not both
pub never : {A : Type 0} {b : Bool} → b ≡ true → b ≡ false → A
never t f = absurd (true≢false (sym t ∙ f))

-- where one of two is true, it is the first or the second
pub or_cases : (a b : Bool) → (a || b) ≡ true → (a ≡ true) ⊎ (b ≡ true)
or_cases true b h = inl refl
or_cases false b h = inr h

module _ (test : ℕ → Bool) where
  -- nothing lies below 0
  pub any_zero : any_below test 0 ≡ false
  unfolding any_below
  any_zero = refl

  -- nothing below i, and i does not pass: nothing below i + 1
  pub any_more : (i : ℕ) → any_below test i ≡ false → test i ≡ false → any_below test (i + 1) ≡ false
  unfolding any_below
  any_more i h q = rw (add-one i) (simp (h, q))

  -- one that passes is enough
  pub any_hit : (n i : ℕ) → i < n → test i ≡ true → any_below test n ≡ true
  unfolding any_below
  any_hit zero i l e = absurd (not-suc-le-zero l)
  any_hit (suc n) i l e =
      ⊎_elim
      (λ q. or_inr (any_below test n) (test n) (rw (← q) e))
      (λ q. or_inl (any_below test n) (test n) (any_hit n i q e))
      (eq-or-lt_of_le (le_of_suc-le-suc l))

  -- what the answer false says, and the answer true
  pub any_false : (n : ℕ) → any_below test n ≡ false → (i : ℕ) → i < n → test i ≡ false
  any_false n h i l = ⊎_elim (λ q. q) (λ q. never (any_hit n i l q) h) (dichotomy (test i))

  pub any_true : (n : ℕ) → any_below test n ≡ true → (i : ℕ) × ((i < n) × (test i ≡ true))
  unfolding any_below
  any_true zero h = never h refl
  any_true (suc n) h =
      ⊎_elim
      (λ q. (n, (omega arith, rw q at h)))
      (λ q. let f = any_true n q in (f.0, (omega (arith, f.1.0), f.1.1)))
      (dichotomy (any_below test n))

  -- nothing below n passes: the answer is false
  pub any_nowhere : (n : ℕ) → ((i : ℕ) → i < n → test i ≡ false) → any_below test n ≡ false
  any_nowhere n h =
      ⊎_elim
      (λ q. q)
      (λ q. let f = any_true n q in never f.1.1 (h f.0 f.1.0))
      (dichotomy (any_below test n))

-- the same of pairs, the lower number first
module _ (test : ℕ → ℕ → Bool) (n : ℕ) where
  pub pair_hit : (i j : ℕ) → i < j → j < n → test i j ≡ true → any_pair_below test n ≡ true
  pair_hit i j l m e = any_hit _ n j m (any_hit (λ i. test i j) j i l e)

  pub pair_false : any_pair_below test n ≡ false → (i j : ℕ) → i < j → j < n → test i j ≡ false
  pair_false h i j l m = any_false (λ i. test i j) j (any_false _ n h j m) i l

  pub pair_nowhere : ((i j : ℕ) → i < j → j < n → test i j ≡ false) → any_pair_below test n ≡ false
  pair_nowhere h = any_nowhere _ n (λ j m. any_nowhere (λ i. test i j) j (λ i l. h i j l m))
