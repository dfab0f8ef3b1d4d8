-- A register moved past zero bytes, by any step that takes a byte; and by a linear step what is added to the register
-- (exclusive or) before some bytes is there after them, moved past as many zero bytes. Assumes nothing else of the step.
use Prim.Native.Nat.{ℕ, zero, suc, ◌+◌}
use mathlib.Core.Path.{◌≡◌, refl, ap, ◌∙◌}
use mathlib.Core.List.{List, [], ◌∷◌, foldl}
use native.Mathlib.Nat.{add-zero, add-suc}
use lib.ListN.{length}
use lib.Bits.{bit_xor}
use Rattle.slicing.specs.inner.Slicing.{zeros}

module _ (f : ℕ → ℕ → ℕ) where
  pub zeros_add : (m n p : ℕ) → zeros f (m + n) p ≡ zeros f m (zeros f n p)
  unfolding zeros
  zeros_add m zero p = rw add-zero
  zeros_add m (suc n) p = rw add-suc (zeros_add m n _)

  pub zeros_last : (n p : ℕ) → zeros f (suc n) p ≡ f (zeros f n p) 0
  unfolding zeros
  zeros_last zero p = refl
  zeros_last (suc n) p = zeros_last n (f p 0)

module _ (f : ℕ → ℕ → ℕ) (linear : (p q b : ℕ) → f (bit_xor p q) b ≡ bit_xor (f p b) (f q 0)) where
  pub zeros_xor : (n p q : ℕ) → zeros f n (bit_xor p q) ≡ bit_xor (zeros f n p) (zeros f n q)
  unfolding zeros
  zeros_xor zero p q = refl
  zeros_xor (suc n) p q = ap (zeros f n) (linear p q 0) ∙ zeros_xor n (f p 0) (f q 0)

  pub fold_xor : (s : List ℕ) (p q : ℕ) → foldl f (bit_xor p q) s ≡ bit_xor (foldl f p s) (zeros f (length s) q)
  unfolding zeros
  fold_xor [] p q = refl
  fold_xor (b ∷ s) p q = ap (λ (x : ℕ). foldl f x s) (linear p q b) ∙ fold_xor s (f p b) (f q 0)

  -- the bytes taken from a register of zero, and the register moved past as many zero bytes
  pub fold_apart : (s : List ℕ) (r : ℕ) → foldl f r s ≡ bit_xor (foldl f 0 s) (zeros f (length s) r)
  fold_apart s r = fold_xor s 0 r
