-- Four bytes as a word. Assumes nothing.
use Rattle.std.proofs.Common.{◌≡◌, ℕ, ◌*◌, ◌/◌, ◌<◌, List, [], ◌∷◌, length, get_or, ap, ◌∙◌, arith, w32}
use Rattle.std.specs.Int.{from_be_bytes}
use Rattle.std.specs.Simd.{first_chunks}
use Rattle.number.specs.Number.{part}
use Rattle.number.proofs.Parts.{length_part}
use Rattle.fips180.specs.Padding.{be}
use Rattle.fips180.proofs.Parts.{chunks_parts, get_or-parts}

word_of_four : (bytes : List ℕ) → length bytes ≡ 4 → from_be_bytes w32 bytes ≡ be bytes
unfolding be
word_of_four (a ∷ b ∷ c ∷ d ∷ []) e = omega arith
word_of_four (a ∷ b ∷ c ∷ d ∷ other ∷ bytes) e = absurd (omega arith)
word_of_four (a ∷ b ∷ c ∷ []) e = absurd (omega arith)
word_of_four (a ∷ b ∷ []) e = absurd (omega arith)
word_of_four (a ∷ []) e = absurd (omega arith)
word_of_four [] e = absurd (omega arith)

-- the word that the chunk at an index is
pub word_of_chunk : (block : List ℕ) (chunks : List (List ℕ)) (t : ℕ) → length block ≡ 64 → chunks ≡ first_chunks 4 (length block / 4) block → t < 16
    → from_be_bytes w32 (get_or chunks t []) ≡ be (part block (4 * t) 4)
word_of_chunk block chunks t l e h =
    let sixteen : length block / 4 ≡ 16 = omega arith in
    let there : get_or chunks t [] ≡ part block (4 * t) 4
    = ap (λ (c : List (List ℕ)). get_or c t []) (e ∙ ap (λ (n : ℕ). first_chunks 4 n block) sixteen ∙ chunks_parts 4 16 block)
    ∙ get_or-parts 4 16 block t [] h in
    ap (from_be_bytes w32) there ∙ word_of_four (part block (4 * t) 4) (length_part block (4 * t) 4 (omega arith))
