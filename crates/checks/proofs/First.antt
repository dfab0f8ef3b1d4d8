-- What a scan for the first number that passes a test keeps up, and what `first_below` says either way. Assumes nothing.
use mathlib.Core.Path.{◌≡◌, refl}
use mathlib.Core.Bool.{Bool, true, false}
use mathlib.Core.Logic.{⊎_elim}
use mathlib.Core.Option.{Option, none, some}
use mathlib.Mathlib.Data.Bool.Basic.{dichotomy}
use Prim.Native.Nat.{ℕ, zero, suc, ◌+◌, ◌<◌}
use native.Mathlib.Nat.{eq-or-lt_of_le, le_of_suc-le-suc, not-suc-le-zero}
use native.Mathlib.Numerals.{add-one}
use native.Mathlib.Omega.{arith}
use Rattle.checks.specs.Scan.{first_below}
use Rattle.checks.proofs.Scan.{never}

-- what follows where there is none, and where there is one, follows
pub option_cases : {A : Type 0} (o : Option ℕ) → (o ≡ none → A) → ((i : ℕ) → o ≡ some i → A) → A
option_cases none f g = f refl
option_cases (some i) f g = g i refl

-- there is not both none and one
pub none_some : {A : Type 0} {o : Option ℕ} {i : ℕ} → o ≡ none → o ≡ some i → A
none_some e h = let z : ◌≡◌ {A = ℕ} 0 1 = cc in absurd (omega arith)

module _ (test : ℕ → Bool) where
  -- nothing lies below 0
  pub first_zero : first_below test 0 ≡ none
  unfolding first_below
  first_zero = refl

  -- nothing below i, and i does not pass: nothing below i + 1
  pub first_more : (i : ℕ) → first_below test i ≡ none → test i ≡ false → first_below test (i + 1) ≡ none
  unfolding first_below
  first_more i h q = rw (add-one i) (simp (h, q))

  -- nothing below i, and i passes: it is the first of those below i + 1
  first_last : (i : ℕ) → first_below test i ≡ none → test i ≡ true → first_below test (suc i) ≡ some i
  unfolding first_below
  first_last i h q = simp (h, q)

  -- and of those below any bound above i
  first_stays : (i n : ℕ) → first_below test n ≡ some i → first_below test (suc n) ≡ some i
  unfolding first_below
  first_stays i n h = simp h

  pub first_hit : (n i : ℕ) → i < n → first_below test i ≡ none → test i ≡ true → first_below test n ≡ some i
  first_hit zero i l h q = absurd (not-suc-le-zero l)
  first_hit (suc n) i l h q =
      ⊎_elim
      (λ e. rw (← e) (first_last i h q))
      (λ k. first_stays i n (first_hit n i k h q))
      (eq-or-lt_of_le (le_of_suc-le-suc l))

  -- what the answers say
  pub first_some : (n i : ℕ) → first_below test n ≡ some i → (i < n) × (test i ≡ true)
  first_some zero i h = none_some first_zero h
  first_some (suc n) i h =
      option_cases (first_below test n)
      (λ e.
      ⊎_elim
      (λ q. none_some (rw (add-one n) at (first_more n e q)) h)
      (λ q. let z : n ≡ i = cc (first_last n e q) in (omega arith, rw (← z) q))
      (dichotomy (test n)))
      (λ j e.
      let z : j ≡ i = cc (first_stays j n e) in
      let f = first_some n j e in
      (omega (arith, f.0), rw (← z) f.1))

  pub first_none : (n : ℕ) → first_below test n ≡ none → (i : ℕ) → i < n → test i ≡ false
  first_none zero h i l = absurd (not-suc-le-zero l)
  first_none (suc n) h i l =
      option_cases (first_below test n)
      (λ e.
      ⊎_elim
      (λ q. rw q (⊎_elim (λ p. p) (λ p. none_some h (first_last n e p)) (dichotomy (test n))))
      (λ k. first_none n e i k)
      (eq-or-lt_of_le (le_of_suc-le-suc l)))
      (λ j e. none_some h (first_stays j n e))

  -- nothing below n passes: there is none
  pub first_nowhere : (n : ℕ) → ((i : ℕ) → i < n → test i ≡ false) → first_below test n ≡ none
  first_nowhere n h =
      option_cases (first_below test n)
      (λ e. e)
      (λ i e. let f = first_some n i e in never f.1 (h i f.0))
