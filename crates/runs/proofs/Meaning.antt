-- The lengths that `run_lengths` computes are those of the longest stretches of one label, and no others. Assumes nothing.
use Prim.Native.Nat.{ℕ, zero, suc, ◌+◌, ◌-◌, ◌≤◌, ◌<◌}
use mathlib.Core.Path.{◌≡◌, refl, sym, ap, ◌∙◌}
use mathlib.Core.Bool.{Bool, true, false, and-eq-true_iff}
use mathlib.Core.Logic.{⊎_elim}
use mathlib.Core.List.{List, [], ◌∷◌}
use mathlib.Mathlib.Data.Bool.Basic.{dichotomy}
use native.Mathlib.Nat.{add-zero}
use native.Mathlib.Omega.{arith}
use lib.Dec.{eqb}
use lib.ListN.{length}
use borrow.Author.Tests.{eqb-true, eq-eqb}
use Rattle.checks.proofs.Scan.{never}
use Rattle.order.proofs.Cases.{cases}
use Rattle.runs.specs.Runs.{Label, hole, stored, label, IsRuns, done, run}
use Rattle.runs.specs.inner.Computed.{same_label, joins, runs_of, run_lengths}

-- `same_label` tests whether two labels are the same
same_refl : (x : Label) → same_label x x ≡ true
same_refl hole = refl
same_refl (stored i a) = (and-eq-true_iff (eqb i i) _).1 (eq-eqb i i refl, eq-eqb a a refl)

same_eq : (x y : Label) → same_label x y ≡ true → x ≡ y
same_eq hole hole h = refl
same_eq hole (stored i a) h = never h refl
same_eq (stored i a) hole h = never h refl
same_eq (stored i a) (stored j b) h =
    let f = (and-eq-true_iff (eqb i j) _).0 h in
    let p = eqb-true i j f.0 in
    let q = eqb-true a b f.1 in
    cc

-- the last position is a run by itself
joins_nothing : (b : Bool) → joins b [] ≡ 1 ∷ []
unfolding joins
joins_nothing true = refl
joins_nothing false = refl

module _ (list : List ℕ) where
  -- an empty range has no run
  pub no_run : (from to : ℕ) → to ≤ from → run_lengths list from to ≡ []
  unfolding run_lengths runs_of
  no_run from to l = let e : to - from ≡ 0 = omega arith in rw e

  -- a position before the runs of a range: it is a run by itself
  alone : (from to : ℕ) (lengths : List ℕ) → from < to → (from + 1 < to → label list (from + 1) ≡ label list from → ⊥)
      → IsRuns list (suc from) to lengths → IsRuns list from to (1 ∷ lengths)
  alone from to lengths l stop rest =
      let e : suc from ≡ from + 1 = omega arith in
      run {from = from} {to = to} {len = 1} (omega arith) (omega arith)
      (λ k h. let d : from + k ≡ from = omega arith in rw d)
      stop (rw e at rest)

  -- or it makes the first of them longer
  longer : (from to len : ℕ) (lengths : List ℕ) → label list (suc from) ≡ label list from
      → IsRuns list (suc from) to (len ∷ lengths) → IsRuns list from to (suc len ∷ lengths)
  longer from to len lengths e (run some within all stop rest) =
      let a : suc from + len ≡ from + suc len = omega arith in
      run {from = from} {to = to} {len = suc len} (omega arith) (omega arith) (each all)
      (λ l h. stop (omega arith) (rw a (h ∙ sym e)))
      (rw a at rest)
    where
      each : ((k : ℕ) → k < len → label list (suc from + k) ≡ label list (suc from))
          → (k : ℕ) → k < suc len → label list (from + k) ≡ label list from
      each all zero h = rw (add-zero from)
      each all (suc k) h = let d : from + suc k ≡ suc from + k = omega arith in rw d (all k (omega arith) ∙ e)

  joins_runs : (from to : ℕ) (lengths : List ℕ) → from < to → IsRuns list (suc from) to lengths
      → IsRuns list from to (joins (same_label (label list from) (label list (suc from))) lengths)
  unfolding joins
  joins_runs from to [] l (done h) =
      rw (joins_nothing (same_label (label list from) (label list (suc from))))
      (alone from to [] l (λ m. absurd (omega arith)) (done h))
  joins_runs from to (len ∷ lengths) l (run some within all stop rest) =
      ⊎_elim
      (λ q. rw q
      (alone from to (len ∷ lengths) l
      (λ h d. let e : from + 1 ≡ suc from = omega arith in never (rw (← d, e) (same_refl (label list (suc from)))) q)
      (run some within all stop rest)))
      (λ q. rw q (longer from to len lengths (sym (same_eq _ _ q)) (run some within all stop rest)))
      (dichotomy (same_label (label list from) (label list (suc from))))

  so_many : (count from : ℕ) → IsRuns list from (from + count) (runs_of list from count)
  unfolding runs_of
  so_many zero from = done {from = from} {to = from + 0} (omega arith)
  so_many (suc count) from =
      let e : suc from + count ≡ from + suc count = omega arith in
      joins_runs from (from + suc count) (runs_of list (suc from) count) (omega arith)
      (rw e at (so_many count (suc from)))

  -- what is computed are lengths of runs
  pub runs_are_runs : (from to : ℕ) → IsRuns list from to (run_lengths list from to)
  unfolding run_lengths
  runs_are_runs from to =
      cases from to
      (λ l. let e : from + (to - from) ≡ to = omega arith in rw e at (so_many (to - from) from))
      (λ l. rw (no_run from to l) (done l))

  -- a range that is not empty has a run
  pub some_run : (from to : ℕ) → from < to → 0 < length (run_lengths list from to)
  some_run from to l = go (runs_are_runs from to)
    where
      go : {lengths : List ℕ} → IsRuns list from to lengths → 0 < length lengths
      go (done m) = absurd (omega arith)
      go (run pos within all stop rest) = omega arith

  -- two partitions into longest stretches have the same lengths: where one stretch is shorter, it is not the longest
  runs_unique : {from to : ℕ} {lengths others : List ℕ}
      → IsRuns list from to lengths → IsRuns list from to others → lengths ≡ others
  runs_unique (done l) (done m) = refl
  runs_unique (done l) (run pos within all stop rest) = absurd (omega arith)
  runs_unique (run pos within all stop rest) (done m) = absurd (omega arith)
  runs_unique (run {len = a} pos within all stop rest) (run {len = b} {lengths = others} pos' within' all' stop' rest') =
      cases a b
      (λ l. absurd (stop (omega arith) (all' a l)))
      (λ l. cases b a
      (λ m. absurd (stop' (omega arith) (all b m)))
      (λ m. let e : a ≡ b = omega arith in rw e (ap (λ (ls : List ℕ). b ∷ ls) (runs_unique (rw e at rest) rest'))))

  -- lengths of runs are those that are computed
  pub runs_only : {from to : ℕ} {lengths : List ℕ} → IsRuns list from to lengths → lengths ≡ run_lengths list from to
  runs_only {from} {to} runs = runs_unique runs (runs_are_runs from to)

  -- the first run of a range
  pub first_run : (len from to : ℕ) → 0 < len → from + len ≤ to
      → ((k : ℕ) → k < len → label list (from + k) ≡ label list from)
      → (from + len < to → label list (from + len) ≡ label list from → ⊥)
      → run_lengths list from to ≡ len ∷ run_lengths list (from + len) to
  first_run len from to some within all stop =
      sym (runs_only (run some within all stop (runs_are_runs (from + len) to)))
