-- A list of a function's values, and a list that is filled with them from its beginning on. Assumes nothing.
use Prim.Native.Nat.{ℕ, zero, suc, ◌+◌, ◌≤◌, ◌<◌}
use mathlib.Core.Path.{◌≡◌, refl, sym, ap, ◌∙◌}
use mathlib.Core.Logic.{⊎_elim, ◌≢◌}
use mathlib.Core.List.{List}
use native.Mathlib.Nat.{add-zero, zero-add, add-suc, suc-add, le_of_suc-le-suc, not-suc-le-zero, eq-or-lt_of_le}
use native.Mathlib.Omega.{arith}
use lib.ListN.{get_or, length, take, set, length-set}
use lib.Seq.{ext_get_or, get_or-set_same, get_or-set_other, get_or-take, length-take-le, take_all}
use Rattle.slicing.specs.inner.Slicing.{values}

module _ (f : ℕ → ℕ) where
  pub length-values : (n i : ℕ) → length (values f i n) ≡ n
  unfolding values
  length-values zero i = refl
  length-values (suc n) i = ap suc (length-values n (suc i))

  values_from : (n i k : ℕ) → k < n → get_or (values f i n) k 0 ≡ f (i + k)
  unfolding values
  values_from zero i k h = absurd (not-suc-le-zero h)
  values_from (suc n) i zero h = rw add-zero
  values_from (suc n) i (suc k) h = values_from n (suc i) k (le_of_suc-le-suc h) ∙ rw (suc-add, add-suc)

  pub values_at : (n k : ℕ) → k < n → get_or (values f 0 n) k 0 ≡ f k
  values_at n k h = values_from n 0 k h ∙ ap f (zero-add k)

-- A list of a known length whose first entries are a function's values.
pub record Filling (f : ℕ → ℕ) (size : ℕ) (list : List ℕ) (count : ℕ) : Type 0 where
  pub long : length list ≡ size
  pub done : (k : ℕ) → k < count → get_or list k 0 ≡ f k

module _ (f : ℕ → ℕ) (n : ℕ) (l : List ℕ) where
  pub filling_more : (i v : ℕ) → Filling f n l i → i < n → v ≡ f i → Filling f n (set l i v) (i + 1)
  filling_more i v so_far h e =
      let within : i < length l = omega (arith, so_far.long) in
      record {
        long = length-set l i v ∙ so_far.long;
        done = λ k less.
            let upto : k ≤ i = omega arith in
            ⊎_elim
            (λ (here : k ≡ i). ap (λ (j : ℕ). get_or (set l i v) j 0) here ∙ get_or-set_same l i v 0 within ∙ e ∙ sym (ap f here))
            (λ (earlier : k < i).
            let apart : k ≢ i = λ same. omega arith in
            get_or-set_other l i k v 0 apart ∙ so_far.done k earlier)
            (eq-or-lt_of_le upto);
      }

  -- the entries that are filled, as a list
  pub filling_first : (i : ℕ) → Filling f n l i → i ≤ n → take i l ≡ values f 0 i
  filling_first i so_far h =
      let size : length (take i l) ≡ i = length-take-le i l (omega (arith, so_far.long)) in
      ext_get_or 0 (take i l) (values f 0 i) (size ∙ sym (length-values f i 0))
      (λ k less.
      let small : k < i = omega arith in
      get_or-take i l k 0 small ∙ so_far.done k small ∙ sym (values_at f i k small))

  pub filling_end : Filling f n l n → l ≡ values f 0 n
  filling_end full = sym (take_all n l (omega (arith, full.long))) ∙ filling_first n full (omega arith)

-- A list of a known length, entry by entry.
pub listed : (l : List ℕ) (n : ℕ) → length l ≡ n → l ≡ values (λ k. get_or l k 0) 0 n
listed l n e = filling_end (λ k. get_or l k 0) n l (record { long = e; done = λ k h. refl })
