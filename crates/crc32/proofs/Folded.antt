-- The 300 bytes that folding leaves over make of a register of zero what all the bytes make of the register at the start.
use Prim.Native.Nat.{ℕ, zero, suc, ◌+◌, ◌≤◌}
use mathlib.Core.Path.{◌≡◌, refl, sym, ap, ap₂, ◌∙◌}
use mathlib.Core.List.{List, [], ◌∷◌, ◌++◌, foldl, foldl-append}
use native.Mathlib.Omega.{arith}
use native.Mathlib.Nat.{suc_inj, suc-ne-zero}
use lib.ListN.{length, get_or, take, replicate, length-replicate}
use lib.Seq.{take-suc, take-append-le, take-append-add, length-take-le}
use lib.Bits.{bit_xor, xor_assoc, xor_self, xor_zero_r}
use Rattle.slicing.proofs.Xor.{xor_right_comm}
use Rattle.slicing.proofs.Zeros.{zeros_last, fold_xor}
use Rattle.slicing.specs.inner.Slicing.{step}
use Rattle.folding.specs.inner.Folding.{taken, start, added, delayed, spread, folded}
use Rattle.folding.proofs.Lengths.{length-start, length_taken, length-window}
use Rattle.folding.proofs.Rest.{length-added, length-delayed}
use Rattle.crc32.specs.Crc.{bits, reversed, polynomial, bit_step, byte_step, register}
use Rattle.crc32.specs.inner.Tables.{crc_rows}
use Rattle.crc32.proofs.Row.{fold_lent}
use Rattle.crc32.proofs.Linear.{byte_zero, byte_both, byte_xor}
use Rattle.crc32.proofs.Sparse.{moved, sum, sum_cong, sum_xor, byte_sum, spared_sum, byte_spared}

-- The register of zero after bytes.
abbrev run : List ℕ → ℕ
run s = foldl byte_step 0 s

-- What the window stands for: the register after it, and after its beginnings as long as the distances leave.
abbrev left : List ℕ → ℕ
left window = sum (run window) (run (take 155 window)) (run (take 117 window)) (run (take 89 window))

-- The last byte of a beginning.
run_last : (s : List ℕ) (x n : ℕ) → suc n ≤ length s → run (take (suc n) (s ++ x ∷ [])) ≡ byte_step (run (take n s)) (get_or s n 0)
run_last s x n h =
    ap run (take-append-le (suc n) s (x ∷ []) h ∙ take-suc s n 0 h)
    ∙ foldl-append byte_step 0 (take n s) (get_or s n 0 ∷ [])

-- The first byte of a beginning.
run_first : (h : ℕ) (s : List ℕ) (n : ℕ) → length s ≡ n → run (h ∷ s) ≡ bit_xor (run s) (moved n (byte_step 0 h))
run_first h s n e = fold_xor byte_step byte_xor s 0 (byte_step 0 h) ∙ ap (λ (k : ℕ). bit_xor (run s) (moved k (byte_step 0 h))) e

-- The oldest byte leaves: it is what the multiple spares.
spared_bytes :
    (h : ℕ) → let g = byte_step 0 h in
    byte_step (sum (moved 299 g) (moved 154 g) (moved 116 g) (moved 88 g)) 0 ≡ g
spared_bytes h =
    let g = byte_step 0 h in
    byte_sum (moved 299 g) (moved 154 g) (moved 116 g) (moved 88 g) 0 0 0 0
    ∙ sum_cong (sym (zeros_last byte_step 299 g)) (sym (zeros_last byte_step 154 g)) (sym (zeros_last byte_step 116 g)) (sym (zeros_last byte_step 88 g))
    ∙ spared_sum g ∙ byte_spared h

-- A number added twice is gone.
twice : (n a b : ℕ) → bit_xor (bit_xor (bit_xor n a) b) a ≡ bit_xor n b
twice n a b =
    xor_right_comm (bit_xor n a) b a
    ∙ ap (λ (m : ℕ). bit_xor m b) (xor_assoc n a a ∙ ap (bit_xor n) (xor_self a) ∙ xor_zero_r n)

-- The new byte with those that it was added to: the byte taken and the oldest one.
new_byte :
    (m a b c h : ℕ) → sum (bit_xor (bit_xor (bit_xor (bit_xor m a) b) c) h) a b c ≡ bit_xor m h
new_byte m a b c h =
    ap (λ (n : ℕ). bit_xor (bit_xor n b) c)
    (xor_right_comm (bit_xor (bit_xor (bit_xor m a) b) c) h a
    ∙ ap (λ (n : ℕ). bit_xor n h) (xor_right_comm (bit_xor (bit_xor m a) b) c a ∙ ap (λ (n : ℕ). bit_xor n c) (twice m a b)))
    ∙ ap (λ (n : ℕ). bit_xor n c) (xor_right_comm (bit_xor (bit_xor m b) c) h b ∙ ap (λ (n : ℕ). bit_xor n h) (twice m b c))
    ∙ twice m c h

module _ (h : ℕ) (s : List ℕ) (long : length s ≡ 299) where
  -- The registers without the oldest byte.
  abbrev later : ℕ
  later = sum (run s) (run (take 154 s)) (run (take 116 s)) (run (take 88 s))

  left_later :
      left (h ∷ s)
      ≡ bit_xor later (sum (moved 299 (byte_step 0 h)) (moved 154 (byte_step 0 h)) (moved 116 (byte_step 0 h)) (moved 88 (byte_step 0 h)))
  left_later =
      sum_cong (run_first h s 299 long)
      (run_first h (take 154 s) 154 (length-take-le 154 s (omega arith)))
      (run_first h (take 116 s) 116 (length-take-le 116 s (omega arith)))
      (run_first h (take 88 s) 88 (length-take-le 88 s (omega arith)))
      ∙ sum_xor (run s) (run (take 154 s)) (run (take 116 s)) (run (take 88 s)) (moved 299 (byte_step 0 h))
      (moved 154 (byte_step 0 h)) (moved 116 (byte_step 0 h)) (moved 88 (byte_step 0 h))

  left_new :
      (m : ℕ)
      → let x = bit_xor (bit_xor (bit_xor (bit_xor m (get_or s 154 0)) (get_or s 116 0)) (get_or s 88 0)) h in
      left (s ++ x ∷ []) ≡ byte_step later (bit_xor m h)
  left_new m =
      let x = bit_xor (bit_xor (bit_xor (bit_xor m (get_or s 154 0)) (get_or s 116 0)) (get_or s 88 0)) h in
      sum_cong (foldl-append byte_step 0 s (x ∷ []))
      (run_last s x 154 (omega arith)) (run_last s x 116 (omega arith)) (run_last s x 88 (omega arith))
      ∙ sym
      (byte_sum (run s) (run (take 154 s)) (run (take 116 s)) (run (take 88 s)) x (get_or s 154 0) (get_or s 116 0) (get_or s 88 0))
      ∙ ap (byte_step later) (new_byte m (get_or s 154 0) (get_or s 116 0) (get_or s 88 0) h)

  step_taken : (m : ℕ) → left (taken (h ∷ s) m) ≡ byte_step (left (h ∷ s)) m
  unfolding taken
  step_taken m =
      left_new m
      ∙ ap (λ (n : ℕ). byte_step n (bit_xor m h)) (sym (xor_zero_r later))
      ∙ byte_both later 0 m h
      ∙ ap (bit_xor (byte_step later m)) (sym (spared_bytes h))
      ∙ sym (byte_xor later _ m)
      ∙ ap (λ (n : ℕ). byte_step n m) (sym left_later)

taken_left : (window : List ℕ) (m : ℕ) → length window ≡ 300 → left (taken window m) ≡ byte_step (left window) m
taken_left [] m e = absurd (suc-ne-zero 299 (sym e))
taken_left (h ∷ s) m e = step_taken h s (suc_inj e) m

-- Byte after byte.
fold_left :
    (bytes window : List ℕ) → length window ≡ 300 → left (foldl taken window bytes) ≡ foldl byte_step (left window) bytes
fold_left [] window e = refl
fold_left (b ∷ bytes) window e =
    fold_left bytes (taken window b) (length_taken window b e)
    ∙ ap (λ (r : ℕ). foldl byte_step r bytes) (taken_left window b e)

-- Two lists added give the sum of their registers.
fold_added :
    (xs ys : List ℕ) (p q : ℕ) → length xs ≡ length ys
    → foldl byte_step (bit_xor p q) (added xs ys) ≡ bit_xor (foldl byte_step p xs) (foldl byte_step q ys)
unfolding added
fold_added [] [] p q e = refl
fold_added [] (y ∷ ys) p q e = absurd (suc-ne-zero (length ys) (sym e))
fold_added (x ∷ xs) [] p q e = absurd (suc-ne-zero (length xs) e)
fold_added (x ∷ xs) (y ∷ ys) p q e =
    ap (λ (r : ℕ). foldl byte_step r (added xs ys)) (byte_both p q x y)
    ∙ fold_added xs ys (byte_step p x) (byte_step q y) (suc_inj e)

run_zeros : (n : ℕ) → run (replicate n 0) ≡ 0
run_zeros zero = refl
run_zeros (suc n) = ap (λ (r : ℕ). foldl byte_step r (replicate n 0)) byte_zero ∙ run_zeros n

-- Zeros before bytes are nothing to a register of zero.
run_delayed : (p q : ℕ) (s : List ℕ) → p + q ≡ 300 → run (delayed p s) ≡ run (take q s)
unfolding delayed
run_delayed p q s e =
    let before : List ℕ = replicate p 0 in
    let whole : 300 ≡ length before + q = sym e ∙ ap (λ (n : ℕ). n + q) (sym (length-replicate p _)) in
    ap (λ (n : ℕ). run (take n (before ++ s))) whole
    ∙ ap run (take-append-add before s q)
    ∙ foldl-append byte_step 0 before (take q s)
    ∙ ap (λ (r : ℕ). foldl byte_step r (take q s)) (run_zeros p)

run_spread : (window : List ℕ) → length window ≡ 300 → run (spread window) ≡ left window
unfolding spread
run_spread w e =
    let one = length-delayed 145 w e in
    let two = length-delayed 183 w e in
    let three = length-delayed 211 w e in
    let first : length (added w (delayed 145 w)) ≡ 300 = length-added w (delayed 145 w) (e ∙ sym one) ∙ e in
    let second : length (added (added w (delayed 145 w)) (delayed 183 w)) ≡ 300 =
    length-added (added w (delayed 145 w)) (delayed 183 w) (first ∙ sym two) ∙ first in
    fold_added (added (added w (delayed 145 w)) (delayed 183 w)) (delayed 211 w) 0 0 (second ∙ sym three)
    ∙ ap₂ bit_xor
    (fold_added (added w (delayed 145 w)) (delayed 183 w) 0 0 (first ∙ sym two)
    ∙ ap₂ bit_xor
    (fold_added w (delayed 145 w) 0 0 (e ∙ sym one) ∙ ap (bit_xor (run w)) (run_delayed 145 155 w refl))
    (run_delayed 183 117 w refl))
    (run_delayed 211 89 w refl)

left_start : left start ≡ 0xFFFFFFFF
unfolding start bits reversed polynomial bit_step byte_step
left_start = refl

-- The register after bytes, from what folding leaves of them.
pub register_folded : (bytes : List ℕ) → foldl byte_step 0 (folded bytes) ≡ register bytes
unfolding register folded
register_folded bytes =
    run_spread (foldl taken start bytes) (length-window start bytes length-start)
    ∙ fold_left bytes start length-start
    ∙ ap (λ (r : ℕ). foldl byte_step r bytes) left_start

-- The same by lent tables.
pub register_lent :
    (tables bytes left : List ℕ) (last : ℕ) → tables ≡ crc_rows → left ≡ folded bytes
    → last ≡ foldl (step (take 256 tables)) 0 left → last ≡ register bytes
register_lent tables bytes left last lent e sliced =
    sliced ∙ fold_lent tables left 0 lent ∙ ap (foldl byte_step 0) e ∙ register_folded bytes
