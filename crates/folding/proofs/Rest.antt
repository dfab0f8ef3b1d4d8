-- The laws of `added` and `delayed`, and a slice to which the window is added later by some places.
use Prim.Native.Nat.{ℕ, zero, suc, ◌+◌, ◌-◌, ◌≤◌, ◌<◌}
use mathlib.Core.Path.{◌≡◌, refl, sym, ap, ap₂, ◌∙◌}
use mathlib.Core.List.{List, [], ◌∷◌, ◌++◌}
use native.Mathlib.Omega.{arith}
use lib.Bits.{bit_xor, xor_zero_r}
use lib.ListN.{length, take, drop, get_or, set, replicate, length-append, length-replicate, take-append-drop}
use lib.Seq.{take_at, take-take, get_or-take, get_or-append-add, length-take-le}
use Rattle.folding.specs.inner.Folding.{added, delayed}
use Rattle.folding.proofs.Laying.{Laying, ahead, laying_more}

pub length-added : (xs ys : List ℕ) → length xs ≡ length ys → length (added xs ys) ≡ length xs
unfolding added
length-added [] ys h = refl
length-added (x ∷ xs) [] h = sym h
length-added (x ∷ xs) (y ∷ ys) h = ap suc (length-added xs ys (omega arith))

pub get_or-added : (xs ys : List ℕ) (i : ℕ) → length xs ≡ length ys → get_or (added xs ys) i 0 ≡ bit_xor (get_or xs i 0) (get_or ys i 0)
unfolding added
get_or-added [] [] i h = refl
get_or-added [] (y ∷ ys) i h = absurd (omega arith)
get_or-added (x ∷ xs) [] i h = absurd (omega arith)
get_or-added (x ∷ xs) (y ∷ ys) zero h = refl
get_or-added (x ∷ xs) (y ∷ ys) (suc i) h = get_or-added xs ys i (omega arith)

take-added : (n : ℕ) (xs ys : List ℕ) → take n (added xs ys) ≡ added (take n xs) (take n ys)
unfolding added
take-added zero xs ys = refl
take-added (suc n) [] ys = refl
take-added (suc n) (x ∷ xs) [] = refl
take-added (suc n) (x ∷ xs) (y ∷ ys) = ap (λ (l : List ℕ). bit_xor x y ∷ l) (take-added n xs ys)

added_zeros : (xs : List ℕ) → added xs (replicate (length xs) 0) ≡ xs
unfolding added
added_zeros [] = refl
added_zeros (x ∷ xs) = ap₂ (λ (y : ℕ) (l : List ℕ). y ∷ l) (xor_zero_r x) (added_zeros xs)

module _ (places : ℕ) (window : List ℕ) where
  pub length-delayed : length window ≡ 300 → length (delayed places window) ≡ 300
  unfolding delayed
  length-delayed h = length-take-le 300 (replicate places 0 ++ window) (simp (length-append, length-replicate) (omega arith))

  pub get_or-delayed : (i : ℕ) → places ≤ i → i < 300 → get_or (delayed places window) i 0 ≡ get_or window (i - places) 0
  unfolding delayed
  get_or-delayed i h k =
      let zeros : List ℕ = replicate places 0 in
      let place : length zeros + (i - places) ≡ i = omega (arith, length-replicate {A = ℕ} places 0) in
      get_or-take 300 (zeros ++ window) i 0 k
      ∙ ap (λ (m : ℕ). get_or (zeros ++ window) m 0) (sym place)
      ∙ get_or-append-add zeros window (i - places) 0

  take-delayed : places ≤ 300 → take places (delayed places window) ≡ replicate places 0
  unfolding delayed
  take-delayed h =
      take-take places 300 (replicate places 0 ++ window) h
      ∙ take_at (replicate places 0) window places (length-replicate places 0)

  -- The delayed window begins with zeros, which add nothing.
  pub laying_late : (rest : List ℕ) → length rest ≡ 300 → places ≤ 300 → Laying (added rest (delayed places window)) rest rest places
  laying_late rest h k =
      let few : length (take places rest) ≡ places = length-take-le places rest (omega arith) in
      record {
        long = refl;
        so_far =
            sym
            (ap (λ (l : List ℕ). l ++ drop places rest)
            (take-added places rest (delayed places window)
            ∙ ap (added (take places rest)) (take-delayed k ∙ ap (λ (n : ℕ). replicate n 0) (sym few))
            ∙ added_zeros (take places rest))
            ∙ take-append-drop places rest);
      }

  module _ (rest : List ℕ) (h : length rest ≡ 300) (k : length window ≡ 300) where
    pub length-late : length (added rest (delayed places window)) ≡ 300
    length-late = length-added rest (delayed places window) (h ∙ sym (length-delayed k)) ∙ h

    -- A turn: the byte of the rest is not written yet, and the window's is added.
    pub late_more : (list : List ℕ) (t : ℕ) → Laying (added rest (delayed places window)) rest list t → places ≤ t → t < 300
        → Laying (added rest (delayed places window)) rest (set list t (bit_xor (get_or list t 0) (get_or window (t - places) 0))) (t + 1)
    late_more list t sofar later more =
        let new : List ℕ = added rest (delayed places window) in
        let within : t ≤ length new = omega (arith, length-late) in
        laying_more new rest list t sofar (bit_xor (get_or list t 0) (get_or window (t - places) 0)) (omega (arith, length-late)) (omega arith)
        (ap₂ bit_xor (ahead new rest list t sofar t within (omega arith)) (sym (get_or-delayed t later more))
        ∙ sym (get_or-added rest (delayed places window) t (h ∙ sym (length-delayed k))))
