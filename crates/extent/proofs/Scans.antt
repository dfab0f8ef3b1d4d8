-- What `any` answers over the numbers below a bound, in the words of `any_below`. Assumes nothing.
use Rattle.std.proofs.Common.{ℕ, ◌≡◌, ◌<◌, Bool, get_or, arith, sym, ◌∙◌}
use mathlib.Core.Logic.{⊎_elim}
use mathlib.Mathlib.Data.Bool.Basic.{dichotomy}
use Rattle.std.specs.List.{range_with_len, list_any}
use Rattle.std.proofs.lemmas.List.FromFn.{get_or-range_with_len, length-range_with_len}
use Rattle.std.proofs.lemmas.List.Folds.{list_any_none, list_any-from_Any}
use Rattle.checks.specs.Scan.{any_below}
use Rattle.checks.proofs.Scan.{any_false, any_true}

pub at_index : (n i d : ℕ) → i < n → get_or (range_with_len 0 n) i d ≡ i
at_index n i d l = omega (arith, get_or-range_with_len 0 n i d l)

pub any_over : (test : ℕ → Bool) (n : ℕ) → list_any test (range_with_len 0 n) ≡ any_below test n
any_over test n =
    let len = length-range_with_len 0 n in
    ⊎_elim
    (λ e. list_any_none test _ (λ k d l. let m : k < n = omega arith in rw (at_index n k d m) (any_false test n e k m)) ∙ sym e)
    (λ e.
    let f = any_true test n e in
    list_any-from_Any test _ (f.0, f.0, omega (arith, f.1.0), at_index n f.0 f.0 f.1.0, f.1.1) ∙ sym e)
    (dichotomy (any_below test n))
