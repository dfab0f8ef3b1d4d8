-- A list taken some elements at a time: first whole chunks of them, and then what is left. Holds of any step. Assumes nothing.
use Prim.Native.Nat.{ℕ, zero, suc, ◌*◌, ◌/◌}
use mathlib.Core.Path.{◌≡◌, refl, sym, ap, ap₂, ◌∙◌}
use mathlib.Core.List.{List, [], ◌∷◌, foldl, foldl-append}
use native.Mathlib.Nat.{suc-mul, zero-mul, add_comm}
use lib.ListN.{length, take, drop, take-append-drop}
use lib.Seq.{drop-drop}
use Rattle.std.specs.List.{fold}
use Rattle.std.specs.Simd.{first_chunks}

module _ (f : ℕ → ℕ → ℕ) where
  pub one_by_one : (bytes : List ℕ) (start : ℕ) → fold f start bytes ≡ foldl f start bytes
  one_by_one [] start = refl
  one_by_one (byte ∷ bytes) start = one_by_one bytes (f start byte)

  pub chunk_by_chunk : (n k : ℕ) (bytes : List ℕ) (start : ℕ)
      → foldl f (fold (foldl f) start (first_chunks n k bytes)) (drop (k * n) bytes) ≡ foldl f start bytes
  chunk_by_chunk n zero bytes start = rw zero-mul
  chunk_by_chunk n (suc k) bytes start =
      rw (suc-mul, add_comm (k * n) n, ← drop-drop (k * n) n bytes)
      (chunk_by_chunk n k (drop n bytes) (foldl f start (take n bytes))
      ∙ sym (foldl-append f start (take n bytes) (drop n bytes)) ∙ ap (foldl f start) (take-append-drop n bytes))

  -- Chunks that are taken from the beginning on, and then what is left.
  pub in_turns : (n k : ℕ) (bytes left : List ℕ) (chunks : List (List ℕ)) (start current last : ℕ)
      → chunks ≡ first_chunks n k bytes → left ≡ drop (k * n) bytes
      → current ≡ fold (foldl f) start chunks → last ≡ foldl f current left → last ≡ foldl f start bytes
  in_turns n k bytes left chunks start current last cut rest e last_e =
      last_e ∙ ap₂ (foldl f) (e ∙ ap (fold (foldl f) start) cut) rest ∙ chunk_by_chunk n k bytes start

-- The four chunks of sixteen bytes.
pub quarters : (s : List ℕ) (chunks : List (List ℕ)) → length s ≡ 16 → chunks ≡ first_chunks 4 (length s / 4) s
    → chunks ≡ take 4 s ∷ take 4 (drop 4 s) ∷ take 4 (drop 8 s) ∷ take 4 (drop 12 s) ∷ []
quarters s chunks e cut =
    rw (cut, e)
    (ap₂ (λ (a b : List ℕ). take 4 s ∷ take 4 (drop 4 s) ∷ take 4 a ∷ take 4 b ∷ [])
    (drop-drop 4 4 s) (ap (drop 4) (drop-drop 4 4 s) ∙ drop-drop 4 8 s))
