-- Bytes fed one by one: few that do not fill the block, those that fill it, and whole blocks. Assumes nothing.
use Prim.Native.Nat.{ℕ, zero, suc, ◌+◌, ◌-◌, ◌*◌, ◌/◌, ◌%◌, ◌≤◌, ◌<◌}
use mathlib.Core.Path.{◌≡◌, refl, sym, ap, ap₂, ◌∙◌}
use mathlib.Core.List.{List, [], ◌∷◌, ◌++◌, foldl, foldl-append}
use native.Mathlib.Numerals.{unary_clauses}
use native.Mathlib.Omega.{arith}
use lib.ListN.{length, get_or, take, drop, set, length-set, length-drop, take-append-drop}
use lib.Seq.{length-take-le, take-add}
use Rattle.std.specs.Simd.{first_chunks}
use borrow.Author.Tests.{ne_eqb}
use Rattle.number.specs.Number.{part, put}
use Rattle.number.proofs.Parts.{length_part}
use Rattle.number.proofs.Put.{put_nothing, put-set, put_next}
use Rattle.fips180.specs.Padding.{parts}
use Rattle.fips180.specs.Hash.{hashed}
use Rattle.sha256.specs.Feeding.{feed_byte}
use Rattle.fips180.specs.declared.Words.{Words}
use Rattle.sha256.specs.declared.Digest.{Digest}
use Rattle.sha256.proofs.Endian.{put_whole}
use Rattle.fips180.proofs.Parts.{length-parts, get_or-parts, chunks_parts}

-- a state by its three parts
abbrev pub state : Words → (fed : ℕ) (held : List ℕ) → Digest
state words fed held = record { words = words; fed = fed; held = held }

-- a byte that does not fill the block, and one that does
byte_held : (words : Words) (fed : ℕ) (held : List ℕ) (byte : ℕ) → fed % 64 + 1 < 64
    → feed_byte (state words fed held) byte ≡ state words (fed + 1) (set held (fed % 64) byte)
unfolding feed_byte
byte_held words fed held byte h = rw (ne_eqb (fed % 64) 63 (λ e. omega arith))

byte_last : (words : Words) (fed : ℕ) (held : List ℕ) (byte : ℕ) → fed % 64 + 1 ≡ 64
    → feed_byte (state words fed held) byte ≡ state (hashed words (set held 63 byte)) (fed + 1) (set held 63 byte)
unfolding feed_byte
byte_last words fed held byte h =
    let e : fed % 64 ≡ 63 = omega arith in
    rw e

-- a byte laid before others
put_cons : (held : List ℕ) (at byte : ℕ) (rest : List ℕ) → at + suc (length rest) ≤ length held
    → put (set held at byte) (at + 1) rest ≡ put held at (byte ∷ rest)
put_cons held at byte rest h = put_next held (byte ∷ []) rest at 1 refl (omega arith) (put-set held at byte (omega arith)) refl

pub few : (words : Words) (fed : ℕ) (held part : List ℕ) → length held ≡ 64 → fed % 64 + length part < 64
    → foldl feed_byte (state words fed held) part ≡ state words (fed + length part) (put held (fed % 64) part)
few words fed held [] l h = ap₂ (λ (n : ℕ) (s : List ℕ). state words n s) (omega arith) (sym (put_nothing held (fed % 64)))
few words fed held (byte ∷ part) l h =
    let next : (fed + 1) % 64 ≡ fed % 64 + 1 = omega arith in
    let long : length (set held (fed % 64) byte) ≡ 64 = length-set held (fed % 64) byte ∙ l in
    ap (λ s. foldl feed_byte s part) (byte_held words fed held byte (omega arith))
    ∙ few words (fed + 1) (set held (fed % 64) byte) part long (omega arith)
    ∙ ap₂ (λ (n : ℕ) (s : List ℕ). state words n s) (omega arith)
    (rw next (put_cons held (fed % 64) byte part (omega arith)))

-- the bytes that fill the block
pub full : (words : Words) (fed : ℕ) (held part : List ℕ) → length held ≡ 64 → 0 < length part → fed % 64 + length part ≡ 64
    → foldl feed_byte (state words fed held) part
    ≡ state (hashed words (put held (fed % 64) part)) (fed + length part) (put held (fed % 64) part)
full words fed held [] l p h = absurd (omega arith)
full words fed held (byte ∷ []) l p h =
    let last : fed % 64 ≡ 63 = omega arith in
    byte_last words fed held byte h
    ∙ ap (λ (s : List ℕ). state (hashed words s) (fed + 1) s) (put-set held 63 byte (omega arith) ∙ ap (λ (n : ℕ). put held n (byte ∷ [])) (sym last))
full words fed held (byte ∷ other ∷ part) l p h =
    let next : (fed + 1) % 64 ≡ fed % 64 + 1 = omega arith in
    let long : length (set held (fed % 64) byte) ≡ 64 = length-set held (fed % 64) byte ∙ l in
    ap (λ s. foldl feed_byte s (other ∷ part)) (byte_held words fed held byte (omega arith))
    ∙ full words (fed + 1) (set held (fed % 64) byte) (other ∷ part) long (omega arith) (omega arith)
    ∙ ap₂ (λ (n : ℕ) (s : List ℕ). state (hashed words s) n s) (omega arith)
    (rw next (put_cons held (fed % 64) byte (other ∷ part) (omega arith)))

same_state : {v w : Words} {m n : ℕ} {a b : List ℕ} → v ≡ w → m ≡ n → a ≡ b → state v m a ≡ state w n b
same_state p q r = cc

-- a whole block
block : (words : Words) (fed : ℕ) (held part : List ℕ) → length held ≡ 64 → fed % 64 ≡ 0 → length part ≡ 64
    → foldl feed_byte (state words fed held) part ≡ state (hashed words part) (fed + 64) part
block words fed held part l a h =
    let over : put held (fed % 64) part ≡ part = rw a (put_whole held part (omega arith)) in
    full words fed held part l (omega arith) (omega arith)
    ∙ ap₂ (λ (n : ℕ) (s : List ℕ). state (hashed words s) n s) (omega arith) over

-- fed in two pieces
pub in_two : (s : Digest) (n : ℕ) (part : List ℕ) → foldl feed_byte (foldl feed_byte s (take n part)) (drop n part) ≡ foldl feed_byte s part
in_two s n part = sym (foldl-append feed_byte s (take n part) (drop n part)) ∙ ap (foldl feed_byte s) (take-append-drop n part)

-- after whole blocks the last is held, or what was held where there is none
last_part : (n : ℕ) (rest first held : List ℕ) → get_or (parts 64 n rest) (n - 1) first ≡ get_or (first ∷ parts 64 n rest) n held
unfolding parts
last_part zero rest first held = refl
last_part (suc m) rest first held =
    let e : suc m - 1 ≡ m = omega arith in
    ap (λ (i : ℕ). get_or (parts 64 (suc m) rest) i first) e ∙ get_or-parts 64 (suc m) rest m first (omega arith)
    ∙ sym (get_or-parts 64 (suc m) rest m held (omega arith))

pub last-length : (n : ℕ) (part held : List ℕ) → length held ≡ 64 → 64 * n ≤ length part → length (get_or (parts 64 n part) (n - 1) held) ≡ 64
unfolding parts
last-length zero part held l h = l
last-length (suc m) part held l h =
    let e : suc m - 1 ≡ m = omega arith in
    let fits : 64 * m + 64 ≤ length part = simp unary_clauses at h in
    ap (λ (i : ℕ). length (get_or (parts 64 (suc m) part) i held)) e
    ∙ ap length (get_or-parts 64 (suc m) part m held (omega arith)) ∙ length_part part (64 * m) 64 (omega arith)

-- whole blocks, so many
pub whole : (n : ℕ) (words : Words) (fed : ℕ) (held part : List ℕ) → length held ≡ 64 → fed % 64 ≡ 0 → 64 * n ≤ length part
    → foldl feed_byte (state words fed held) (take (64 * n) part)
    ≡ state (foldl hashed words (parts 64 n part)) (fed + 64 * n) (get_or (parts 64 n part) (n - 1) held)
unfolding parts
whole zero words fed held part l a h = ap (λ (n : ℕ). state words n held) (omega arith)
whole (suc n) words fed held part l a h =
    let first : List ℕ = take 64 part in
    let rest : List ℕ = drop 64 part in
    let more : 64 * suc n ≡ 64 + 64 * n = simp unary_clauses (omega arith) in
    let last : suc n - 1 ≡ n = omega arith in
    let long : length first ≡ 64 = length-take-le 64 part (omega arith) in
    let left : 64 * n ≤ length rest = omega (arith, length-drop 64 part) in
    ap (foldl feed_byte (state words fed held)) (ap (λ (k : ℕ). take k part) more ∙ take-add 64 (64 * n) part)
    ∙ foldl-append feed_byte (state words fed held) first (take (64 * n) rest)
    ∙ ap (λ s. foldl feed_byte s (take (64 * n) rest)) (block words fed held first l a long)
    ∙ whole n (hashed words first) (fed + 64) first rest long (omega arith) left
    ∙ same_state refl (omega arith) (last_part n rest first held ∙ ap (λ (i : ℕ). get_or (first ∷ parts 64 n rest) i held) (sym last))

-- how many bytes were fed
pub fed_sum : (s : Digest) (bytes : List ℕ) → (foldl feed_byte s bytes).fed ≡ s.fed + length bytes
unfolding feed_byte
fed_sum s [] = omega arith
fed_sum s (byte ∷ bytes) = fed_sum (feed_byte s byte) bytes ∙ omega arith

-- What the functions that feed have, each as the state that it makes.

pub made_few : (s : Digest) (bytes held : List ℕ) (used : ℕ) → length s.held ≡ 64 → s.fed % 64 + length bytes < 64
    → used ≡ s.fed % 64 → held ≡ put s.held used bytes → state s.words (s.fed + length bytes) held ≡ foldl feed_byte s bytes
made_few s bytes held used l h u e =
    same_state refl refl (e ∙ ap (λ (n : ℕ). put s.held n bytes) u) ∙ sym (few s.words s.fed s.held bytes l h)

pub made_full : (s : Digest) (bytes held : List ℕ) (used : ℕ) (words : Words) (blocks : List (List ℕ)) → length s.held ≡ 64 → 0 < length bytes
    → s.fed % 64 + length bytes ≡ 64 → used ≡ s.fed % 64 → held ≡ put s.held used bytes → blocks ≡ held ∷ [] → words ≡ foldl hashed s.words blocks
    → state words (s.fed + length bytes) held ≡ foldl feed_byte s bytes
made_full s bytes held used words blocks l p h u e b w =
    let there : held ≡ put s.held (s.fed % 64) bytes = e ∙ ap (λ (n : ℕ). put s.held n bytes) u in
    same_state (w ∙ ap (foldl hashed s.words) b ∙ ap (hashed s.words) there) refl there ∙ sym (full s.words s.fed s.held bytes l p h)

pub made_aligned : (s : Digest) (bytes rest last held : List ℕ) (words : Words) (blocks : List (List ℕ)) → length s.held ≡ 64 → s.fed % 64 ≡ 0
    → blocks ≡ first_chunks 64 (length bytes / 64) bytes → rest ≡ drop (length bytes / 64 * 64) bytes → words ≡ foldl hashed s.words blocks
    → last ≡ get_or blocks (length blocks - 1) s.held → held ≡ put last 0 rest → state words (s.fed + length bytes) held ≡ foldl feed_byte s bytes
made_aligned s bytes rest last held words blocks l a b r w e f =
    let n : ℕ = length bytes / 64 in
    let there : blocks ≡ parts 64 n bytes = b ∙ chunks_parts 64 n bytes in
    let count : length blocks ≡ n = ap length there ∙ length-parts 64 n bytes in
    let fits : 64 * n ≤ length bytes = omega arith in
    let turned : n * 64 ≡ 64 * n = omega arith in
    let left : rest ≡ drop (64 * n) bytes = r ∙ ap (λ (k : ℕ). drop k bytes) turned in
    let few_left : length rest ≡ length bytes - 64 * n = ap length left ∙ length-drop (64 * n) bytes in
    let after : List ℕ = get_or (parts 64 n bytes) (n - 1) s.held in
    let same : last ≡ after = e ∙ ap₂ (λ (list : List (List ℕ)) (k : ℕ). get_or list (k - 1) s.held) there count in
    let start : (s.fed + 64 * n) % 64 ≡ 0 = omega arith in
    same_state
    (w ∙ ap (foldl hashed s.words) there)
    (omega arith)
    (f ∙ ap₂ (λ (old : List ℕ) (at : ℕ). put old at rest) same (sym start))
    ∙ sym
    (few (foldl hashed s.words (parts 64 n bytes)) (s.fed + 64 * n) after rest (last-length n bytes s.held l fits) (omega arith))
    ∙ ap₂ (foldl feed_byte) (sym (whole n s.words s.fed s.held bytes l a fits)) left
    ∙ in_two s (64 * n) bytes

-- One function after another: the first bytes, and then the others.

pub fed_after : (s middle : Digest) (first : List ℕ) → middle ≡ foldl feed_byte s first → middle.fed ≡ s.fed + length first
fed_after s middle first e = ap (λ (d : Digest). d.fed) e ∙ fed_sum s first

pub made_in_two : (s middle last : Digest) (first rest bytes : List ℕ) → bytes ≡ first ++ rest → middle ≡ foldl feed_byte s first
    → last ≡ foldl feed_byte middle rest → last ≡ foldl feed_byte s bytes
made_in_two s middle last first rest bytes b e f =
    f ∙ ap (λ m. foldl feed_byte m rest) e ∙ sym (foldl-append feed_byte s first rest) ∙ ap (foldl feed_byte s) (sym b)
