-- Numbers as bytes, the highest first, and bytes laid over others. Assumes nothing.
use Rattle.std.proofs.Common.{◌≡◌, ℕ, zero, suc, ◌+◌, ◌-◌, ◌*◌, ◌/◌, ◌%◌, ◌^◌, ◌≤◌, ◌<◌, List, [], ◌∷◌, ◌++◌, length, get_or, take, drop, refl, sym, ap, ◌∙◌, arith, append_assoc}
use mathlib.Core.List.{append-nil}
use borrow.Rule.Slice.PartMut.{put_mid}
use native.Mathlib.Nat.{div-div-eq-div-mul, mul_comm, pow-suc}
use lib.ListN.{drop_of_length-le}
use lib.Seq.{drop-drop}
use Rattle.std.specs.Int.{byte_at, bytes_high_first}
use Rattle.std.proofs.lemmas.List.{drop_more, take_all}
use Rattle.std.proofs.lemmas.Slice.{take-put_mid}
use Rattle.number.specs.Number.{put}
use Rattle.number.proofs.Put.{put_fits}
use Rattle.fips180.specs.Padding.{be_bytes}
use Rattle.fips180.specs.Hash.{word_bytes}
use Rattle.fips180.specs.declared.Words.{Words}
use Rattle.fips180.proofs.DigestSize.{length-be_bytes}

-- the highest byte, and those below it
shifted : (k value : ℕ) → byte_at k (value / 256) ≡ byte_at (suc k) value
shifted zero value = refl
shifted (suc j) value =
    ap (λ (n : ℕ). n % 256)
    (div-div-eq-div-mul value 256 (256 ^ suc j) ∙ ap (λ (n : ℕ). value / n) (mul_comm 256 (256 ^ suc j) ∙ sym (pow-suc 256 (suc j))))

be_bytes-front : (k value : ℕ) → be_bytes (suc k) value ≡ byte_at k value ∷ be_bytes k value
unfolding be_bytes
be_bytes-front zero value = refl
be_bytes-front (suc k) value =
    ap (λ (bytes : List ℕ). bytes ++ (value % 256 ∷ [])) (be_bytes-front k (value / 256))
    ∙ ap (λ (byte : ℕ). byte ∷ (be_bytes k (value / 256) ++ (value % 256 ∷ []))) (shifted k value)

pub high_first : (k value : ℕ) → bytes_high_first k value ≡ be_bytes k value
unfolding be_bytes
high_first zero value = refl
high_first (suc k) value = ap (λ (rest : List ℕ). byte_at k value ∷ rest) (high_first k value) ∙ sym (be_bytes-front k value)

-- the lowest eight bytes are those of the remainder by 2^64
pub lowest_eight : (value : ℕ) → bytes_high_first 8 (value % 2 ^ 64) ≡ bytes_high_first 8 value
lowest_eight value =
    let a : value % 2 ^ 64 / 256 ^ 7 % 256 ≡ value / 256 ^ 7 % 256 = omega arith in
    let b : value % 2 ^ 64 / 256 ^ 6 % 256 ≡ value / 256 ^ 6 % 256 = omega arith in
    let c : value % 2 ^ 64 / 256 ^ 5 % 256 ≡ value / 256 ^ 5 % 256 = omega arith in
    let d : value % 2 ^ 64 / 256 ^ 4 % 256 ≡ value / 256 ^ 4 % 256 = omega arith in
    let e : value % 2 ^ 64 / 256 ^ 3 % 256 ≡ value / 256 ^ 3 % 256 = omega arith in
    let f : value % 2 ^ 64 / 256 ^ 2 % 256 ≡ value / 256 ^ 2 % 256 = omega arith in
    let g : value % 2 ^ 64 / 256 % 256 ≡ value / 256 % 256 = omega arith in
    let h : value % 2 ^ 64 % 256 ≡ value % 256 = omega arith in
    cc

-- bytes written to a part of others are laid over them
pub part_written : (old : List ℕ) (at k : ℕ) (new : List ℕ) → length new ≡ k → at + k ≤ length old → put_mid at k old new ≡ put old at new
part_written old at k new l h =
    let end : at + length new ≡ at + k = ap (λ (n : ℕ). at + n) l in
    ap (λ (rest : List ℕ). take at old ++ (new ++ rest)) (drop-drop k at old ∙ ap (λ (n : ℕ). drop n old) (sym end))
    ∙ sym (put_fits old at new (omega arith))

-- bytes laid over as many others
pub put_whole : (old new : List ℕ) → length new ≡ length old → put old 0 new ≡ new
put_whole old new e =
    let rest : drop (0 + length new) old ≡ [] = drop_of_length-le old {i = 0 + length new} (omega arith) in
    put_fits old 0 new (omega arith) ∙ ap (λ (after : List ℕ). new ++ after) rest ∙ append-nil new

-- The bytes of a hash value, word by word.

unfoldable pub bytes_of : List ℕ → List ℕ
bytes_of [] = []
bytes_of (word ∷ words) = be_bytes 4 word ++ bytes_of words

pub eight_words : (H : Words) → bytes_of (H.a ∷ H.b ∷ H.c ∷ H.d ∷ H.e ∷ H.f ∷ H.g ∷ H.h ∷ []) ≡ word_bytes H
unfolding bytes_of word_bytes
eight_words H = ap (λ (last : List ℕ). be_bytes 4 H.a ++ (be_bytes 4 H.b ++ (be_bytes 4 H.c ++ (be_bytes 4 H.d ++ (be_bytes 4 H.e ++ (be_bytes 4 H.f ++ (be_bytes 4 H.g ++ last))))))) (append-nil (be_bytes 4 H.h))

-- one word more is written
pub word_written : (words digest bytes : List ℕ) (i word : ℕ) → i < length words → 4 * i + 4 ≤ length digest → word ≡ get_or words i 0
    → bytes ≡ bytes_high_first 4 word → take (4 * i) digest ++ bytes_of (drop i words) ≡ bytes_of words
    → take (4 * (i + 1)) (put_mid (4 * i) (4 * i + 4 - 4 * i) digest bytes) ++ bytes_of (drop (i + 1) words) ≡ bytes_of words
unfolding bytes_of
word_written words digest bytes i word h l e f inv =
    let there : bytes ≡ be_bytes 4 (get_or words i 0) = f ∙ high_first 4 word ∙ ap (be_bytes 4) e in
    let four : length bytes ≡ 4 = ap length there ∙ length-be_bytes 4 (get_or words i 0) in
    ap (λ (front : List ℕ). front ++ bytes_of (drop (i + 1) words))
    (take-put_mid (4 * i) (4 * i + 4 - 4 * i) digest bytes (4 * (i + 1)) (omega arith) (omega arith) ∙ ap (λ (b : List ℕ). take (4 * i) digest ++ b) there)
    ∙ append_assoc (take (4 * i) digest) (be_bytes 4 (get_or words i 0)) (bytes_of (drop (i + 1) words))
    ∙ ap (λ (rest : List ℕ). take (4 * i) digest ++ bytes_of rest) (sym (drop_more words i 0 h)) ∙ inv

-- none is left
pub all_written : (words digest : List ℕ) (i : ℕ) → length words ≤ i → length digest ≤ 4 * i
    → take (4 * i) digest ++ bytes_of (drop i words) ≡ bytes_of words → digest ≡ bytes_of words
unfolding bytes_of
all_written words digest i h l inv =
    let none : drop i words ≡ [] = drop_of_length-le words {i = i} h in
    sym (take_all (4 * i) digest l) ∙ sym (append-nil (take (4 * i) digest))
    ∙ ap (λ (rest : List ℕ). take (4 * i) digest ++ bytes_of rest) (sym none) ∙ inv
