-- A header is accepted exactly where the image of a header that keeps the rules stands, and that header is the one shown.
-- Assumes nothing.
use Rattle.std.specs.Prelude.{Ok, Err}
use Prim.Native.Nat.{ℕ, zero, suc, ◌+◌, ◌≤◌}
use mathlib.Core.Path.{◌≡◌, refl, sym, ap, ap₂, ◌∙◌}
use mathlib.Core.Bool.{Bool, true, false, not, cond}
use mathlib.Core.List.{List, [], ◌∷◌, ◌++◌, append_assoc}
use native.Mathlib.Omega.{arith}
use lib.Dec.{eqb, eqb-suc-zero, lit<}
use lib.ListN.{length, length-append}
use borrow.Author.Tests.{eqb-true, eqb-false, not-false, le-ltb}
use Rattle.number.specs.Number.{Bytes, le_bytes, part, number_at}
use Rattle.number.proofs.Digits.{length-le_bytes, number_at-lt}
use Rattle.number.proofs.Parts.{length_part, bytes_part, part_add, part_at, drop_past, le_bytes-number_at, number_at_lem}
use Rattle.number.proofs.Same.{same_equal, same_refl}
use Rattle.checks.specs.Checks.{clear, miss}
use Rattle.checks.proofs.Laws.{decided}
use Rattle.checks.proofs.Tests.{eq_neb}
use Rattle.crc32.specs.Crc.{crc}
use Rattle.refusal.specs.Refusal.{refusal_of}
use Rattle.format.specs.Layout.{sealed}
use Rattle.format.specs.Headers.{Header, magic, header_fields, header_image, no_hash, HeaderRules}
use Rattle.format.proofs.Seal.{length-sealed, seal_part, part_sealed}
use Rattle.block.specs.Order.{volume_limit, checksum_wrong}
use Rattle.volume.specs.Heading.{header_bytes, sequence_of, hash_wrong, header_fault, first_mark, header_answer}
use Rattle.volume.specs.declared.HeaderRead.{HeaderRead}
use Rattle.volume.specs.Answers.{HeaderAnswer}
use Rattle.volume.proofs.Passed.{HeaderPassed, header_passed}

-- the header that the first 80 bytes show
abbrev pub header_at : (volume : List ℕ) → Header
header_at volume = record { id = header_bytes "file system ID" volume; sequence = sequence_of volume; previous = header_bytes "previous hash" volume }

-- From the checks to the image.

pub hash_rule : (sequence : ℕ) (previous : List ℕ) → hash_wrong sequence previous ≡ false → sequence ≡ 0 → previous ≡ no_hash
hash_rule zero previous e z = same_equal previous no_hash (not-false _ e)
hash_rule (suc n) previous e z = absurd (omega arith)

-- a byte that is read as 0
zero_byte : (volume : List ℕ) (offset : ℕ) → Bytes volume → offset + 1 ≤ length volume
    → number_at volume offset 1 ≡ 0 → part volume offset 1 ≡ 0 ∷ []
unfolding le_bytes
zero_byte volume offset b h e = sym (le_bytes-number_at volume offset 1 b h) ∙ ap (le_bytes 1) e

-- two parts in a row, each known
join : (volume : List ℕ) (offset m n : ℕ) {a b : List ℕ} → part volume offset m ≡ a → part volume (offset + m) n ≡ b
    → part volume offset (m + n) ≡ a ++ b
join volume offset m n p q = part_add volume offset m n ∙ ap₂ ◌++◌ p q

-- what a header without fault tells
pub record HeaderStands (volume : List ℕ) : Type 0 where
  pub small : length volume ≤ volume_limit
  pub whole : 80 ≤ length volume
  pub rules : HeaderRules (header_at volume)
  pub image : part volume 0 80 ≡ header_image (header_at volume)

module _ (volume : List ℕ) (b : Bytes volume) (e : header_fault volume ≡ 0) where
  p : HeaderPassed volume
  p = header_passed volume e

  fields_stand : part volume 0 76 ≡ header_fields (header_at volume)
  unfolding header_fields
  fields_stand =
      let whole = p.whole in
      join volume 0 17 59 (same_equal _ _ p.magic_right)
      (join volume 17 1 58 (zero_byte volume 17 b (omega arith) p.version)
      (join volume 18 16 42 refl
      (join volume 34 1 41 (zero_byte volume 34 b (omega arith) p.crc_algorithm)
      (join volume 35 1 40 (zero_byte volume 35 b (omega arith) p.hash_algorithm)
      (join volume 36 8 32 (sym (le_bytes-number_at volume 36 8 b (omega arith))) refl)))))

  pub header_sound : HeaderStands volume
  unfolding header_image checksum_wrong
  header_sound =
      let whole = p.whole in
      let sum : number_at volume 76 4 ≡ crc (part volume 0 76) = eqb-true _ _ (not-false _ p.sum_right) in
      record {
        small = p.small;
        whole = whole;
        rules = record {
          fit = number_at-lt volume 36 8 b;
          id-length = length_part volume 18 16 (omega arith);
          id_bytes = bytes_part volume 18 16 b;
          hash-length = length_part volume 44 32 (omega arith);
          hash_bytes = bytes_part volume 44 32 b;
          first = hash_rule _ _ p.hash_right;
        };
        image = sym (seal_part volume 0 76 b whole sum) ∙ ap sealed fields_stand;
      }

-- From the image to the checks.

pub hash_right : (sequence : ℕ) (previous : List ℕ) → (sequence ≡ 0 → previous ≡ no_hash) → hash_wrong sequence previous ≡ false
hash_right zero previous rule = rw (rule refl) (ap not (same_refl no_hash))
hash_right (suc n) previous rule = rw (eqb-suc-zero n)

length_fields : (header : Header) → HeaderRules header → length (header_fields header) ≡ 76
unfolding header_fields
length_fields header rules =
    let i : length header.id ≡ 16 = rules.id-length in
    let p : length header.previous ≡ 32 = rules.hash-length in
    simp length-append (omega (arith, length-le_bytes 8 header.sequence))

pub length-header : (header : Header) → HeaderRules header → length (header_image header) ≡ 80
unfolding header_image
length-header header rules = length-sealed (header_fields header) ∙ ap (λ (n : ℕ). n + 4) (length_fields header rules)

-- where a header's image stands first, the volume shows this header
pub record HeaderShown (volume : List ℕ) (header : Header) : Type 0 where
  pub no_fault : header_fault volume ≡ 0
  pub shown : header_at volume ≡ header

-- the fields, one after the other
spread : (header : Header) (after : List ℕ)
    → header_fields header ++ after
    ≡ magic ++ (0 ∷ header.id ++ (0 ∷ 0 ∷ le_bytes 8 header.sequence ++ (header.previous ++ after)))
unfolding header_fields
spread header after = simp append_assoc

pub header_complete : (volume : List ℕ) (header : Header) (rest : List ℕ) → HeaderRules header → length volume ≤ volume_limit
    → volume ≡ header_image header ++ rest → HeaderShown volume header
unfolding header_fault header_image checksum_wrong sealed le_bytes
header_complete volume header rest rules small e =
    let fields : List ℕ = header_fields header in
    let after : List ℕ = le_bytes 4 (crc fields) ++ rest in
    let l : length volume ≡ 80 + length rest
    = ap length e ∙ length-append (sealed fields) rest ∙ ap (λ (n : ℕ). n + length rest) (length-header header rules) in
    let d0 = e ∙ append_assoc fields (le_bytes 4 (crc fields)) rest ∙ spread header after in
    let d17 = drop_past volume magic _ 0 17 d0 refl in
    let d18 = drop_past volume (0 ∷ []) _ 17 1 d17 refl in
    let d34 = drop_past volume header.id _ 18 16 d18 rules.id-length in
    let d35 = drop_past volume (0 ∷ []) _ 34 1 d34 refl in
    let d36 = drop_past volume (0 ∷ []) _ 35 1 d35 refl in
    let d44 = drop_past volume (le_bytes 8 header.sequence) _ 36 8 d36 (length-le_bytes 8 header.sequence) in
    let i : header_bytes "file system ID" volume ≡ header.id = part_at volume header.id _ 18 16 d18 rules.id-length in
    let s : sequence_of volume ≡ header.sequence = number_at_lem volume _ 36 8 header.sequence d36 rules.fit in
    let p : header_bytes "previous hash" volume ≡ header.previous = part_at volume header.previous _ 44 32 d44 rules.hash-length in
    record {
      no_fault =
          sym (
          decided (
          miss (le-ltb _ _ small)
          (miss (le-ltb (length volume) 80 (omega arith))
          (miss (rw (part_at volume magic _ 0 17 d0 refl) (ap not (same_refl magic)))
          (miss (eq_neb _ _ (number_at_lem volume _ 17 1 0 d17 (lit< tt)))
          (miss (eq_neb _ _ (number_at_lem volume _ 34 1 0 d34 (lit< tt)))
          (miss (eq_neb _ _ (number_at_lem volume _ 35 1 0 d35 (lit< tt)))
          (miss (eq_neb _ _ (part_sealed volume fields rest 0 76 e (length_fields header rules)))
          (miss (hash_right _ _ (λ z. p ∙ rules.first (sym s ∙ z))) clear)))))))
          )
          );
      shown = λ k. record { id = i k; sequence = s k; previous = p k };
    }

-- The answer.

-- what a header without fault gives
abbrev pub given_at : (volume : List ℕ) → HeaderRead
given_at volume = record { sequence = sequence_of volume; next = first_mark (sequence_of volume) }

-- the two answers, each with its reason
pub data HeaderAnswers (volume : List ℕ) : HeaderAnswer → Type 0 where
  accepts : header_fault volume ≡ 0 → HeaderAnswers volume (Ok (given_at volume))
  rejects : (header_fault volume ≡ 0 → ⊥) → HeaderAnswers volume (Err (refusal_of (header_fault volume)))

pub header_answers : (volume : List ℕ) → HeaderAnswers volume (header_answer volume)
unfolding header_answer
header_answers volume = go (eqb (header_fault volume) 0) refl
  where
    go : (sound : Bool) → eqb (header_fault volume) 0 ≡ sound
        → HeaderAnswers volume (cond sound (Ok (given_at volume)) (Err (refusal_of (header_fault volume))))
    go true e = accepts (eqb-true _ _ e)
    go false e = rejects (eqb-false _ _ e)
