-- What the last block or two hold. Assumes nothing.
use Prim.Native.Nat.{ℕ, ◌+◌, ◌-◌, ◌*◌, ◌%◌, ◌^◌, ◌≤◌}
use mathlib.Core.Path.{◌≡◌, refl, sym, ap, ap₂, ◌∙◌}
use mathlib.Core.List.{List, [], ◌∷◌, ◌++◌, append_assoc}
use native.Mathlib.Nat.{zero-add}
use native.Mathlib.Omega.{arith}
use lib.ListN.{length, take, drop, set, replicate, length-set, length-append, length-replicate, replicate-append-replicate}
use lib.Seq.{length-take-le}
use Rattle.std.proofs.lemmas.List.{drop-replicate}
use borrow.Rule.Slice.PartMut.{put_mid}
use Rattle.std.specs.Int.{bytes_high_first}
use Rattle.number.specs.Number.{le_bytes, part, put}
use Rattle.sha256.proofs.Endian.{high_first, lowest_eight, part_written}
use Rattle.number.proofs.Put.{put_fits, put_next, part_put, length-put, put-set}
use Rattle.fips180.specs.Padding.{be_bytes, zero_bytes, padding}
use Rattle.fips180.proofs.DigestSize.{length-be_bytes}

-- so many zeros
abbrev zeros : ℕ → List ℕ
zeros n = replicate n 0

-- bytes laid over zeros are the same bytes with some of these zeros
with_zeros : (m n : ℕ) (bytes : List ℕ) → length bytes + n ≤ m → put (zeros m) 0 bytes ≡ put (zeros m) 0 (bytes ++ zeros n)
with_zeros m n bytes h =
    let k : ℕ = length bytes in
    let room : length (zeros m) ≡ m = length-replicate m 0 in
    let more : length (bytes ++ zeros n) ≡ k + n = length-append bytes (zeros n) ∙ ap (λ (z : ℕ). k + z) (length-replicate n 0) in
    let rest : m - k ≡ n + (m - (k + n)) = omega arith in
    let here : drop (0 + k) (zeros m) ≡ zeros (m - k)
    = ap (λ (i : ℕ). drop i (zeros m)) (zero-add k) ∙ drop-replicate k m 0 in
    let there : drop (0 + length (bytes ++ zeros n)) (zeros m) ≡ zeros (m - (k + n))
    = ap (λ (i : ℕ). drop i (zeros m)) (zero-add (length (bytes ++ zeros n)) ∙ more) ∙ drop-replicate (k + n) m 0 in
    put_fits (zeros m) 0 bytes (omega arith)
    ∙ ap (λ (after : List ℕ). bytes ++ after) (here ∙ ap zeros rest ∙ sym (replicate-append-replicate n (m - (k + n)) 0))
    ∙ sym (append_assoc bytes (zeros n) (zeros (m - (k + n))))
    ∙ ap (λ (after : List ℕ). (bytes ++ zeros n) ++ after) (sym there)
    ∙ sym (put_fits (zeros m) 0 (bytes ++ zeros n) (omega arith))

-- what the last block or two hold: bytes and one more are laid over zeros, and after some of the zeros the last ones
pub padded_last : (m n byte : ℕ) (held last : List ℕ) {s t u : List ℕ} → length held + 1 + n + length last ≤ m
    → s ≡ put (zeros m) 0 held → t ≡ put s (length held) (byte ∷ []) → u ≡ put t (length held + 1 + n) last
    → take (length held + 1 + n + length last) u ≡ held ++ (byte ∷ (zeros n ++ last))
padded_last m n byte held last {s} {t} {u} h e f g =
    let front : List ℕ = held ++ (byte ∷ []) in
    let long : length front ≡ length held + 1 = length-append held (byte ∷ []) in
    let full : List ℕ = front ++ zeros n in
    let wide : length full ≡ length held + 1 + n
    = length-append front (zeros n) ∙ ap₂ (λ (x y : ℕ). x + y) long (length-replicate n 0) in
    let room : length (zeros m) ≡ m = length-replicate m 0 in
    let all : length (full ++ last) ≡ length held + 1 + n + length last = length-append full last ∙ ap (λ (x : ℕ). x + length last) wide in
    let begun : t ≡ put (zeros m) 0 front
    = put_next (zeros m) held (byte ∷ []) 0 (length held) refl (omega arith) e (f ∙ ap (λ (i : ℕ). put s i (byte ∷ [])) (sym (zero-add (length held)))) in
    let ended : u ≡ put (zeros m) 0 (full ++ last)
    = put_next (zeros m) full last 0 (length held + 1 + n) wide (omega arith) (begun ∙ with_zeros m n front (omega arith))
    (g ∙ ap (λ (i : ℕ). put t i last) (sym (zero-add (length held + 1 + n)))) in
    ap₂ (take {A = ℕ}) (sym all) ended ∙ part_put (zeros m) 0 (full ++ last) (omega arith) ∙ simp append_assoc

-- the padding depends on the bytes in use alone, and ends in the second block at the latest
same_zeros : (fed : ℕ) → zero_bytes (fed % 64) ≡ zero_bytes fed
same_zeros fed = ap (λ (n : ℕ). (119 - n) % 64) (twice fed)
  where
    twice : (n : ℕ) → n % 64 % 64 ≡ n % 64
    twice n = omega arith

two_blocks : (fed : ℕ) → fed % 64 + 1 + zero_bytes fed + 8 ≤ 128
two_blocks fed = omega arith

before_last : (len used more at count : ℕ) → len ≡ used + (9 + more) → used ≡ at → more ≡ count → len - 8 ≡ at + 1 + count
before_last len used more at count e f g = omega arith

with_last : (used more at count last : ℕ) → used ≡ at → more ≡ count → last ≡ 8 → used + (9 + more) ≡ at + 1 + count + last
with_last used more at count last e f g = omega arith

-- the same for the last bytes of a message, by what each write left
pub last_block : (held : List ℕ) (fed used len : ℕ) {start bytes s t u : List ℕ} → length held ≡ 64 → start ≡ zeros 128
    → used ≡ fed % 64 → len ≡ used + (9 + zero_bytes used) → bytes ≡ part held 0 used → s ≡ put start 0 bytes
    → t ≡ put s used (le_bytes 1 0x80) → u ≡ put t (len - 8) (be_bytes 8 (8 * fed))
    → (length u ≡ 128) × (take (fed % 64 + (9 + zero_bytes (fed % 64))) u ≡ take (fed % 64) held ++ padding fed)
unfolding le_bytes padding
last_block held fed used len {start} {bytes} {s} {t} {u} l z i n e f g h =
    let last : List ℕ = be_bytes 8 (8 * fed) in
    let eight : length last ≡ 8 = length-be_bytes 8 (8 * fed) in
    let there : bytes ≡ take (fed % 64) held = e ∙ ap (λ (k : ℕ). take k held) i in
    let long : length bytes ≡ fed % 64 = ap length there ∙ length-take-le (fed % 64) held (omega arith) in
    let at : used ≡ length bytes = i ∙ sym long in
    let zeroes : zero_bytes used ≡ zero_bytes fed = ap zero_bytes i ∙ same_zeros fed in
    let end : len - 8 ≡ length bytes + 1 + zero_bytes fed = before_last len used (zero_bytes used) _ _ n at zeroes in
    let all : fed % 64 + (9 + zero_bytes (fed % 64)) ≡ length bytes + 1 + zero_bytes fed + length last
    = with_last (fed % 64) (zero_bytes (fed % 64)) _ _ _ (sym long) (same_zeros fed) eight in
    let fits : length bytes + 1 + zero_bytes fed + length last ≤ 128
    = rw (long, eight) (two_blocks fed) in
    let wide : length u ≡ 128
    = ap length h ∙ length-put t (len - 8) last ∙ ap length g ∙ length-put s used (0x80 ∷ []) ∙ ap length f ∙ length-put start 0 bytes ∙ ap length z
    ∙ length-replicate {A = ℕ} 128 0 in (
      wide,
      ap (λ (k : ℕ). take k u) all
          ∙ padded_last 128 (zero_bytes fed) 0x80 bytes last fits (f ∙ ap (λ (o : List ℕ). put o 0 bytes) z)
          (g ∙ ap (λ (k : ℕ). put s k (0x80 ∷ [])) at) (h ∙ ap (λ (k : ℕ). put t k last) end)
          ∙ ap (λ (front : List ℕ). front ++ (0x80 ∷ (zeros (zero_bytes fed) ++ last))) there,
    )

-- the three parts that are written one after the other
pub padded_by : (held first last : List ℕ) (fed used end : ℕ) → length held ≡ 64 → used ≡ fed % 64 → end ≡ used + (9 + zero_bytes used)
    → first ≡ take used held → last ≡ bytes_high_first 8 (fed * 8 % 2 ^ 64)
    → let written : List ℕ = put_mid (end - 8) (end - (end - 8)) (set (put_mid 0 used (zeros 128) first) used 0x80) last in
    (length written ≡ 128) × (take (fed % 64 + (9 + zero_bytes (fed % 64))) written ≡ take (fed % 64) held ++ padding fed)
unfolding le_bytes
padded_by held first last fed used end l i n e f =
    let room : length (zeros 128) ≡ 128 = length-replicate {A = ℕ} 128 0 in
    let long : length first ≡ used = ap length e ∙ length-take-le used held (omega arith) in
    let eight : last ≡ be_bytes 8 (8 * fed)
    = f ∙ lowest_eight (fed * 8) ∙ high_first 8 (fed * 8) ∙ ap (be_bytes 8) (omega arith) in
    let wide : length last ≡ end - (end - 8) = ap length eight ∙ length-be_bytes 8 (8 * fed) ∙ omega arith in
    let begun : List ℕ = put_mid 0 used (zeros 128) first in
    let one : begun ≡ put (zeros 128) 0 first = part_written (zeros 128) 0 used first long (omega arith) in
    let kept : length begun ≡ 128 = ap length one ∙ length-put (zeros 128) 0 first ∙ room in
    let marked : List ℕ = set begun used 0x80 in
    let kept2 : length marked ≡ 128 = length-set begun used 0x80 ∙ kept in
    last_block held fed used end l refl i n e one (put-set begun used 0x80 (omega arith))
    (part_written marked (end - 8) (end - (end - 8)) last wide (omega arith) ∙ ap (put marked (end - 8)) eight)

-- the part of the last bytes that is hashed
pub part_padded : (fed used len : ℕ) (bytes padded : List ℕ) → used ≡ fed % 64 → len ≡ used + (9 + zero_bytes used)
    → take (fed % 64 + (9 + zero_bytes (fed % 64))) bytes ≡ padded → take len bytes ≡ padded
part_padded fed used len bytes padded i n e =
    ap (λ (k : ℕ). take k bytes) (n ∙ ap (λ (k : ℕ). k + (9 + zero_bytes k)) i) ∙ e
