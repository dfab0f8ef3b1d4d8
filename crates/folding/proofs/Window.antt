-- The window in the buffer: it begins as `start`, a byte written after it moves it on by `taken`, and a chunk by the fold
-- over its bytes.
use Prim.Native.Nat.{ℕ, zero, suc, ◌+◌, ◌-◌, ◌*◌, ◌≤◌, ◌<◌}
use mathlib.Core.Path.{◌≡◌, sym, ap, ap₂, ◌∙◌}
use mathlib.Core.List.{List, [], ◌∷◌, ◌++◌, foldl, foldl-append, append_assoc}
use native.Mathlib.Numerals.{add-one}
use native.Mathlib.Omega.{arith}
use lib.Bits.{bit_xor}
use lib.ListN.{take-append-drop, length, take, drop, get_or, set, replicate, length-append, length-set, length-drop, length-take, length-replicate, replicate-append-replicate}
use lib.Seq.{drop-drop, take_all, take_at, take-suc, drop-cons, drop-set-add, take-suc-set, get_or-take, get_or-drop}
use native.Mathlib.Nat.{suc-mul, zero-mul, add_comm}
use borrow.Rule.Slice.PartMut.{put_mid}
use Rattle.std.specs.List.{fold}
use Rattle.std.specs.Simd.{first_chunks}
use Rattle.std.proofs.lemmas.Slice.{take-put_mid}
use Rattle.folding.specs.inner.Folding.{taken, start, spread, folded}
use Rattle.folding.specs.inner.Buffer.{Holds}

-- What the code adds to a byte: the buffer's bytes where those of the window are.
abbrev pub fed : List ℕ → ℕ → ℕ → ℕ
fed buffer j byte =
    bit_xor (bit_xor (bit_xor (bit_xor byte (get_or buffer (155 + j) 0)) (get_or buffer (117 + j) 0)) (get_or buffer (89 + j) 0)) (get_or buffer j 0)

-- What `taken` adds to it: those of the window.
abbrev next : List ℕ → ℕ → ℕ
next window byte =
    bit_xor (bit_xor (bit_xor (bit_xor byte (get_or window 155 0)) (get_or window 117 0)) (get_or window 89 0)) (get_or window 0 0)

module _ (buffer : List ℕ) (j : ℕ) where
  -- A byte of the window stands in the buffer as many places further as the window does.
  shown : (k i : ℕ) → k < 300 → j + k ≡ i → get_or buffer i 0 ≡ get_or (take 300 (drop j buffer)) k 0
  shown k i h e = sym (get_or-take 300 (drop j buffer) k 0 h ∙ get_or-drop j buffer k 0 ∙ ap (λ (m : ℕ). get_or buffer m 0) e)

  -- The window without its oldest byte.
  younger : j < length buffer → take 299 (drop (suc j) buffer) ≡ drop 1 (take 300 (drop j buffer))
  younger h = rw (drop-cons buffer j 0 h)

  fed_shown : (byte : ℕ) → fed buffer j byte ≡ next (take 300 (drop j buffer)) byte
  fed_shown byte =
      ap₂ bit_xor
      (ap₂ bit_xor
      (ap₂ bit_xor (ap (bit_xor byte) (shown 155 (155 + j) (omega arith) (omega arith))) (shown 117 (117 + j) (omega arith) (omega arith)))
      (shown 89 (89 + j) (omega arith) (omega arith)))
      (shown 0 j (omega arith) (omega arith))

  -- A byte written after the window moves it on.
  slides : (byte : ℕ) → 300 + j < length buffer
      → take 300 (drop (j + 1) (set buffer (300 + j) (fed buffer j byte))) ≡ taken (take 300 (drop j buffer)) byte
  unfolding taken
  slides byte h =
      let place : 300 + j ≡ suc j + 299 = omega arith in
      let within : j < length buffer = omega arith in
      let inside : 299 < length (drop (suc j) buffer) = simp length-drop (omega arith) in
      ap (λ (i : ℕ). take 300 (drop i (set buffer (300 + j) (fed buffer j byte)))) (add-one j)
      ∙ ap (λ (i : ℕ). take 300 (drop (suc j) (set buffer i (fed buffer j byte)))) place
      ∙ ap (take 300) (drop-set-add (suc j) buffer 299 (fed buffer j byte))
      ∙ take-suc-set (drop (suc j) buffer) 299 (fed buffer j byte) inside
      ∙ ap (λ (front : List ℕ). front ++ (fed buffer j byte ∷ [])) (younger within)
      ∙ ap (λ (last : ℕ). drop 1 (take 300 (drop j buffer)) ++ (last ∷ [])) (fed_shown byte)

-- A byte of a chunk.
pub holds_more : (window chunk buffer : List ℕ) (j : ℕ) → Holds buffer j (foldl taken window (take j chunk))
    → j < length chunk → length chunk ≤ 2048
    → Holds (set buffer (300 + j) (fed buffer j (get_or chunk j 0))) (j + 1) (foldl taken window (take (j + 1) chunk))
holds_more window chunk buffer j sofar more few =
    let room : 300 + j < length buffer = omega (arith, sofar.long) in
    record {
      long = length-set buffer (300 + j) (fed buffer j (get_or chunk j 0)) ∙ sofar.long;
      there =
          slides buffer j (get_or chunk j 0) room
          ∙ ap (λ (w : List ℕ). taken w (get_or chunk j 0)) sofar.there
          ∙ sym (rw (add-one, take-suc chunk j 0, foldl-append));
    }

-- A full chunk, after which the window is moved.
pub holds_full : (window chunk old buffer new : List ℕ) → length chunk ≡ 2048 → Holds old 0 window
    → Holds buffer (length chunk) (foldl taken (take 300 old) chunk) → Holds new 0 (take 300 (drop 2048 buffer))
    → Holds new 0 (foldl taken window chunk)
holds_full window chunk old buffer new full before after moved =
    record {
      long = moved.long;
      there =
          moved.there ∙ ap (λ (n : ℕ). take 300 (drop n buffer)) (sym full) ∙ after.there
          ∙ ap (λ (w : List ℕ). foldl taken w chunk) before.there;
    }

-- The window is moved to the beginning.
pub moved : (buffer front back new : List ℕ) → length front ≡ 2048 → length back ≡ 300 → back ≡ drop 2048 buffer → new ≡ back
    → Holds ((new ++ drop 300 front) ++ back) 0 (take 300 (drop 2048 buffer))
moved buffer front back new fl bl e same =
    let whole : length new ≡ 300 = ap length same ∙ bl in
    record {
      long = simp (length-append, length-drop) (omega arith);
      there =
          rw append_assoc
          (take_at new (drop 300 front ++ back) 300 whole ∙ same ∙ sym (take_all 300 back (omega arith)) ∙ ap (take 300) e);
    }

-- The chunks one after the other, and then what is left.
all_bytes : (n k : ℕ) (bytes window : List ℕ)
    → foldl taken (fold (foldl taken) window (first_chunks n k bytes)) (drop (k * n) bytes) ≡ foldl taken window bytes
all_bytes n zero bytes window = rw zero-mul
all_bytes n (suc k) bytes window =
    rw (suc-mul, add_comm (k * n) n, ← drop-drop (k * n) n bytes)
    (all_bytes n k (drop n bytes) (foldl taken window (take n bytes))
    ∙ sym (foldl-append taken window (take n bytes) (drop n bytes)) ∙ ap (foldl taken window) (take-append-drop n bytes))

-- What is left after the full chunks is taken too, and the bytes left over are made of the window.
pub left_over : (bytes last old buffer rest : List ℕ) (chunks : List (List ℕ)) (k i : ℕ) → chunks ≡ first_chunks 2048 k bytes
    → last ≡ drop (k * 2048) bytes → length chunks ≤ i → Holds old 0 (fold (foldl taken) start (take i chunks))
    → Holds buffer (length last) (foldl taken (take 300 old) last)
    → rest ≡ spread (take (length last + 300 - length last) (drop (length last) buffer)) → rest ≡ folded bytes
unfolding folded
left_over bytes last old buffer rest chunks k i cut left all before after e =
    let whole : length last + 300 - length last ≡ 300 = omega arith in
    e
    ∙ ap spread
    (ap (λ (n : ℕ). take n (drop (length last) buffer)) whole ∙ after.there
    ∙ ap₂ (foldl taken) (before.there ∙ ap (fold (foldl taken) start) (take_all i chunks all ∙ cut)) left
    ∙ all_bytes 2048 k bytes start)

-- Some of many zeros.
some_zeros : (n m : ℕ) → take {A = ℕ} n (replicate (n + m) 0) ≡ replicate n 0
some_zeros n m =
    ap (take n) (sym (replicate-append-replicate n m 0)) ∙ take_at (replicate n 0) (replicate m 0) n (length-replicate n 0)

-- The window before the first byte.
pub begun : (buffer new : List ℕ) → buffer ≡ replicate 2348 0 → new ≡ 0x62 ∷ 0xF5 ∷ 0x26 ∷ 0x92 ∷ []
    → Holds (put_mid 296 4 buffer new) 0 start
unfolding start
begun buffer new e written =
    let long : length buffer ≡ 2348 = ap length e ∙ length-replicate {A = ℕ} 2348 0 in
    let few : length new ≡ 4 = ap length written in
    record {
      long = simp (length-append, length-take, length-drop) (omega arith);
      there =
          take-put_mid 296 4 buffer new 300 (omega arith) (omega arith)
          ∙ ap₂ (λ (xs ys : List ℕ). xs ++ ys) (ap (take 296) e ∙ some_zeros 296 2052) written;
    }
