-- Bytes in parts of one size: how many parts there are, what each is, and blocks taken one by one. Assumes nothing.
use Prim.Native.Nat.{ℕ, zero, suc, ◌+◌, ◌*◌, ◌/◌, ◌≤◌, ◌<◌}
use mathlib.Core.Path.{◌≡◌, refl, sym, ap, ap₂, ◌∙◌}
use mathlib.Core.List.{List, [], ◌∷◌, ◌++◌, map}
use native.Mathlib.Numerals.{unary_clauses}
use native.Mathlib.Omega.{arith}
use lib.ListN.{length, get_or, take, drop, length-append, length-drop, length-map, get_or-map}
use Rattle.std.specs.Simd.{first_chunks}
use lib.Seq.{drop-drop, take-append-le, drop-append-le}
use Rattle.number.specs.Number.{part}
use Rattle.fips180.specs.Padding.{be, parts, blocks}

pub length-parts : (size count : ℕ) (bytes : List ℕ) → length (parts size count bytes) ≡ count
unfolding parts
length-parts size zero bytes = refl
length-parts size (suc count) bytes = ap suc (length-parts size count (drop size bytes))

pub get_or-parts : (size count : ℕ) (bytes : List ℕ) (i : ℕ) (d : List ℕ) → i < count → get_or (parts size count bytes) i d ≡ part bytes (size * i) size
unfolding parts
get_or-parts size zero bytes i d h = absurd (omega arith)
get_or-parts size (suc count) bytes zero d h = simp unary_clauses
get_or-parts size (suc count) bytes (suc i) d h =
    let e : size + size * i ≡ size * suc i = simp unary_clauses (omega arith) in
    get_or-parts size count (drop size bytes) i d (omega arith)
    ∙ ap (take size) (drop-drop (size * i) size bytes ∙ ap (λ (n : ℕ). drop n bytes) e)

-- chunks of one size are parts
pub chunks_parts : (size count : ℕ) (bytes : List ℕ) → first_chunks size count bytes ≡ parts size count bytes
unfolding parts
chunks_parts size zero bytes = refl
chunks_parts size (suc count) bytes = ap (λ (rest : List (List ℕ)). take size bytes ∷ rest) (chunks_parts size count (drop size bytes))

-- the words of a block, one by one
pub words-length : (block : List ℕ) → length (map be (parts 4 16 block)) ≡ 16
words-length block = length-map (parts 4 16 block) be ∙ length-parts 4 16 block

pub word_at : (block : List ℕ) (i : ℕ) → i < 16 → get_or (map be (parts 4 16 block)) i 0 ≡ be (part block (4 * i) 4)
unfolding be
word_at block i h = get_or-map be (parts 4 16 block) i [] ∙ ap be (get_or-parts 4 16 block i [] h)

-- the first block, and the others
blocks_more : (bytes : List ℕ) → 64 ≤ length bytes → blocks bytes ≡ take 64 bytes ∷ blocks (drop 64 bytes)
unfolding parts
blocks_more bytes h =
    let e : length bytes / 64 ≡ suc (length (drop 64 bytes) / 64) = omega (arith, length-drop 64 bytes) in
    ap (λ (n : ℕ). parts 64 n bytes) e

-- so many whole blocks, and the rest before whatever follows
pub blocks_after : (n : ℕ) (bytes after : List ℕ) → 64 * n ≤ length bytes
    → blocks (bytes ++ after) ≡ parts 64 n bytes ++ blocks (drop (64 * n) bytes ++ after)
unfolding parts
blocks_after zero bytes after h = refl
blocks_after (suc n) bytes after h =
    let more : 64 * suc n ≡ 64 + 64 * n = simp unary_clauses (omega arith) in
    let fits : 64 ≤ length bytes = omega arith in
    blocks_more (bytes ++ after) (omega (arith, length-append bytes after))
    ∙ ap₂ (λ (x : List ℕ) (y : List (List ℕ)). x ∷ y) (take-append-le 64 bytes after fits)
    (ap blocks (drop-append-le 64 bytes after fits) ∙ blocks_after n (drop 64 bytes) after (omega (arith, length-drop 64 bytes))
    ∙ ap (λ (rest : List ℕ). parts 64 n (drop 64 bytes) ++ blocks (rest ++ after)) (drop-drop (64 * n) 64 bytes ∙ ap (λ (k : ℕ). drop k bytes) (sym more)))
