-- Several bytes at once, by the linearity of the step: each byte, with the byte of the register that it meets, by one entry.
use Prim.Native.Nat.{ℕ, suc, ◌+◌, ◌-◌, ◌/◌, ◌%◌, ◌^◌, ◌≤◌, ◌<◌}
use mathlib.Core.Path.{◌≡◌, refl, sym, ap, ap₂, ◌∙◌}
use mathlib.Core.List.{List, [], ◌∷◌, foldl, foldl-append}
use native.Mathlib.Omega.{arith}
use lib.ListN.{length, get_or, take, drop, take-append-drop, length-drop}
use lib.Seq.{drop-drop, take_all}
use lib.Bits.{bit_xor}
use Rattle.std.specs.Int.{to_le_bytes, w32}
use Rattle.slicing.specs.inner.Slicing.{step, zeros, values, Linear}
use Rattle.slicing.proofs.Zeros.{zeros_add, zeros_xor, fold_xor, fold_apart}
use Rattle.slicing.proofs.Linear.{step_byte, step_xor}
use Rattle.slicing.proofs.Values.{listed}

-- the entry that a byte chooses where it meets the low byte of a register
abbrev pub chosen : (row : List ℕ) (register byte : ℕ) → ℕ
chosen row register byte = get_or row (bit_xor (register % 256) byte) 0

-- the bytes' entries, each moved past the bytes after it, the last byte's innermost
abbrev sliced : (row : List ℕ) (register : ℕ) (bytes : List ℕ) → ℕ
sliced row register [] = register
sliced row register (byte ∷ bytes) =
    bit_xor (sliced row (register / 256) bytes) (zeros (step row) (length bytes) (chosen row register byte))

moved_past_none : (row : List ℕ) (k x : ℕ) → zeros (step row) k (zeros (step row) 0 x) ≡ zeros (step row) k x
unfolding zeros
moved_past_none row k x = refl

module _ {row : List ℕ} (linear : Linear row) where
  fold_sliced : (s : List ℕ) (r : ℕ) → ((i : ℕ) → get_or s i 0 < 256) → foldl (step row) r s ≡ sliced row r s
  fold_sliced [] r h = refl
  fold_sliced (b ∷ s) r h =
      ap (λ (x : ℕ). foldl (step row) x s) (step_byte row r b (h 0))
      ∙ fold_xor (step row) (step_xor linear) s (r / 256) (chosen row r b)
      ∙ ap (λ (x : ℕ). bit_xor x (zeros (step row) (length s) (chosen row r b))) (fold_sliced s (r / 256) (λ i. h (suc i)))

  four_xor : (k a b c d : ℕ)
      → zeros (step row) k (bit_xor (bit_xor (bit_xor a b) c) d)
      ≡ bit_xor (bit_xor (bit_xor (zeros (step row) k a) (zeros (step row) k b)) (zeros (step row) k c)) (zeros (step row) k d)
  four_xor k a b c d =
      zeros_xor (step row) (step_xor linear) k (bit_xor (bit_xor a b) c) d
      ∙ ap (λ (x : ℕ). bit_xor x (zeros (step row) k d))
      (zeros_xor (step row) (step_xor linear) k (bit_xor a b) c ∙ ap (λ (x : ℕ). bit_xor x (zeros (step row) k c)) (zeros_xor (step row) (step_xor linear) k a b))

  -- Four bytes and then k zero bytes: the last byte has k bytes after it, the first k + 3.
  pub four_bytes : (s : List ℕ) (k r : ℕ) → length s ≡ 4 → ((i : ℕ) → get_or s i 0 < 256) → r < 2 ^ 32
      → zeros (step row) k (foldl (step row) r s)
      ≡ bit_xor
      (bit_xor
      (bit_xor
      (zeros (step row) k (chosen row (r / 256 / 256 / 256) (get_or s 3 0)))
      (zeros (step row) (k + 1) (chosen row (r / 256 / 256) (get_or s 2 0))))
      (zeros (step row) (k + 2) (chosen row (r / 256) (get_or s 1 0))))
      (zeros (step row) (k + 3) (chosen row r (get_or s 0 0)))
  unfolding values
  four_bytes s k r e h hr =
      let used_up : r / 256 / 256 / 256 / 256 ≡ 0 = omega arith in
      let u0 = chosen row r (get_or s 0 0) in
      let u1 = chosen row (r / 256) (get_or s 1 0) in
      let u2 = chosen row (r / 256 / 256) (get_or s 2 0) in
      let u3 = chosen row (r / 256 / 256 / 256) (get_or s 3 0) in
      ap (zeros (step row) k)
      (fold_sliced s r h ∙ ap (sliced row r) (listed s 4 e)
      ∙ ap
      (λ (x : ℕ). bit_xor (bit_xor (bit_xor (bit_xor x (zeros (step row) 0 u3)) (zeros (step row) 1 u2)) (zeros (step row) 2 u1)) (zeros (step row) 3 u0))
      used_up)
      ∙ four_xor k (zeros (step row) 0 u3) (zeros (step row) 1 u2) (zeros (step row) 2 u1) (zeros (step row) 3 u0)
      ∙ ap₂ bit_xor
      (ap₂ bit_xor (ap₂ bit_xor (moved_past_none row k u3) (sym (zeros_add (step row) k 1 u2))) (sym (zeros_add (step row) k 2 u1)))
      (sym (zeros_add (step row) k 3 u0))

  -- The same by the register's bytes.
  pub four_by_bytes : (s digits : List ℕ) (k r a b c d : ℕ) → digits ≡ to_le_bytes w32 r → length s ≡ 4
      → ((i : ℕ) → get_or s i 0 < 256) → r < 2 ^ 32
      → d ≡ zeros (step row) k (get_or row (bit_xor (get_or digits 3 0) (get_or s 3 0)) 0)
      → c ≡ zeros (step row) (k + 1) (get_or row (bit_xor (get_or digits 2 0) (get_or s 2 0)) 0)
      → b ≡ zeros (step row) (k + 2) (get_or row (bit_xor (get_or digits 1 0) (get_or s 1 0)) 0)
      → a ≡ zeros (step row) (k + 3) (get_or row (bit_xor (get_or digits 0 0) (get_or s 0 0)) 0)
      → bit_xor (bit_xor (bit_xor d c) b) a ≡ zeros (step row) k (foldl (step row) r s)
  four_by_bytes s digits k r a b c d shown long small fits ed ec eb ea =
      let met : (j i n : ℕ) → n % 256 ≡ get_or (to_le_bytes w32 r) i 0
      → zeros (step row) j (get_or row (bit_xor (get_or digits i 0) (get_or s i 0)) 0) ≡ zeros (step row) j (chosen row n (get_or s i 0))
      = λ j i n e. ap (λ (x : ℕ). zeros (step row) j (get_or row (bit_xor x (get_or s i 0)) 0)) (ap (λ (l : List ℕ). get_or l i 0) shown ∙ sym e) in
      ap₂ bit_xor
      (ap₂ bit_xor
      (ap₂ bit_xor (ed ∙ met k 3 (r / 256 / 256 / 256) (omega arith)) (ec ∙ met (k + 1) 2 (r / 256 / 256) (omega arith)))
      (eb ∙ met (k + 2) 1 (r / 256) (omega arith)))
      (ea ∙ met (k + 3) 0 r refl)
      ∙ sym (four_bytes s k r long small fits)

  -- the first n bytes, moved past the others, and the others by themselves
  cut : (n : ℕ) (s : List ℕ) (r : ℕ)
      → foldl (step row) r s
      ≡ bit_xor (foldl (step row) 0 (drop n s)) (zeros (step row) (length s - n) (foldl (step row) r (take n s)))
  cut n s r =
      ap (foldl (step row) r) (sym (take-append-drop n s)) ∙ foldl-append (step row) r (take n s) (drop n s)
      ∙ fold_apart (step row) (step_xor linear) (drop n s) (foldl (step row) r (take n s)) ∙ rw length-drop

  -- Sixteen bytes, four by four: the last four have no byte after them, the first four twelve.
  pub sixteen_bytes : (s : List ℕ) (r : ℕ) → length s ≡ 16
      → foldl (step row) r s
      ≡ bit_xor
      (bit_xor
      (bit_xor
      (zeros (step row) 0 (foldl (step row) 0 (take 4 (drop 12 s))))
      (zeros (step row) 4 (foldl (step row) 0 (take 4 (drop 8 s)))))
      (zeros (step row) 8 (foldl (step row) 0 (take 4 (drop 4 s)))))
      (zeros (step row) 12 (foldl (step row) r (take 4 s)))
  unfolding zeros
  sixteen_bytes s r e =
      let last : length (drop 12 s) ≤ 4 = simp length-drop (omega arith) in
      cut 4 s r
      ∙ rw (take_all 4 (drop 12 s), cut 4 (drop 4 s) 0, drop-drop, cut 4 (drop 8 s) 0, drop-drop) (simp (length-drop, e))
