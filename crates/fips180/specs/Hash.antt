-- FIPS 180-4, section 6.2: the hash computation of SHA-256.
use Rattle.std.specs.Prelude.{ℕ, zero, suc, ◌+◌, ◌-◌, length, get_or}
use mathlib.Core.List.{List, [], ◌∷◌, ◌++◌, foldl, map}
use Rattle.fips180.specs.Functions.{mod32, Ch, Maj, Σ0, Σ1, σ0, σ1}
use Rattle.fips180.specs.Constants.{K, H0}
use Rattle.fips180.specs.Padding.{be, be_bytes, padding, parts, blocks}
use Rattle.fips180.specs.declared.Words.{Words}

-- 6.2.2, step 1: W_t for t from 16 on. The words so far are W_0 to W_{t-1}, so t is their number.
unfoldable pub next_word : (W : List ℕ) → ℕ
next_word W =
    let t = length W in
    mod32 (σ1 (get_or W (t - 2) 0) + get_or W (t - 7) 0 + σ0 (get_or W (t - 15) 0) + get_or W (t - 16) 0)

-- so many words more
unfoldable pub extended : (count : ℕ) (W : List ℕ) → List ℕ
extended zero W = W
extended (suc count) W = extended count (W ++ (next_word W ∷ []))

-- 5.2.1 and 6.2.2, step 1: the message schedule, sixty-four words. The first sixteen are the block's.
unfoldable pub schedule : (block : List ℕ) → List ℕ
schedule block = extended 48 (map be (parts 4 16 block))

-- 6.2.2, step 3, for one t
abbrev pub T1 : Words → (K W : ℕ) → ℕ
T1 v K W = mod32 (v.h + Σ1 v.e + Ch v.e v.f v.g + K + W)

abbrev pub T2 : Words → ℕ
T2 v = mod32 (Σ0 v.a + Maj v.a v.b v.c)

unfoldable pub round : Words → (K W : ℕ) → Words
round v K W = record {
  h = v.g;
  g = v.f;
  f = v.e;
  e = mod32 (v.d + T1 v K W);
  d = v.c;
  c = v.b;
  b = v.a;
  a = mod32 (T1 v K W + T2 v);
}

-- 6.2.2, step 3: for each t
unfoldable pub rounds : Words → (K W : List ℕ) → Words
rounds v [] W = v
rounds v (k ∷ K) [] = v
rounds v (k ∷ K) (w ∷ W) = rounds (round v k w) K W

-- 6.2.2, step 4: word by word
unfoldable pub added : Words → Words → Words
added v H = record {
  a = mod32 (v.a + H.a);
  b = mod32 (v.b + H.b);
  c = mod32 (v.c + H.c);
  d = mod32 (v.d + H.d);
  e = mod32 (v.e + H.e);
  f = mod32 (v.f + H.f);
  g = mod32 (v.g + H.g);
  h = mod32 (v.h + H.h);
}

-- 6.2.2: the hash value after a block. Step 2 starts the working variables with the hash value before it.
unfoldable pub hashed : (H : Words) (block : List ℕ) → Words
hashed H block = added (rounds H K (schedule block)) H

-- 6.2.2: the words of the hash value one after the other
unfoldable pub word_bytes : Words → List ℕ
word_bytes H =
    be_bytes 4 H.a ++ (be_bytes 4 H.b ++ (be_bytes 4 H.c ++ (be_bytes 4 H.d
    ++ (be_bytes 4 H.e ++ (be_bytes 4 H.f ++ (be_bytes 4 H.g ++ be_bytes 4 H.h))))))

-- the message digest
unfoldable pub sha256 : (message : List ℕ) → List ℕ
sha256 message = word_bytes (foldl hashed H0 (blocks (message ++ padding (length message))))
