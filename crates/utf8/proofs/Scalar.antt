-- The characters of the syntax are exactly the encodings of the Unicode scalar values.
use Prim.Native.Nat.{ℕ, ◌+◌, ◌-◌, ◌*◌, ◌/◌, ◌%◌, ◌≤◌, ◌<◌}
use mathlib.Core.Path.{◌≡◌, refl, sym, ◌∙◌}
use mathlib.Core.Logic.{◌↔◌, ◌⊎◌, inl, inr, ⊎_elim}
use mathlib.Core.List.{List, [], ◌∷◌}
use native.Mathlib.Omega.{arith}
use Rattle.std.proofs.Common.{zero-le}
use Rattle.utf8.specs.Grammar.{Range, ◌to◌, tail, forms, Matches, none, next, Listed, here, there, Char}
use Rattle.utf8.specs.Scalar.{Scalar, Encodes, one, two, three, four}
use Rattle.utf8.proofs.Forms.{utf8_1, utf8_2, utf8_3-E0, utf8_3-E1, utf8_3-ED, utf8_3-EE, utf8_4-F0, utf8_4-F1, utf8_4-F4}
use Rattle.utf8.proofs.Order.{below_or_not}

-- Each encoding of a scalar value is a character.

module _ {low high least greatest : ℕ} (n : ℕ) where
  three_char : Listed (low to high ∷ least to greatest ∷ tail ∷ []) forms
      → (low ≤ 0xE0 + n / 64 / 64) × (0xE0 + n / 64 / 64 ≤ high) × (least ≤ 0x80 + n / 64 % 64) × (0x80 + n / 64 % 64 ≤ greatest)
      → Char ((0xE0 + n / 64 / 64) ∷ (0x80 + n / 64 % 64) ∷ (0x80 + n % 64) ∷ [])
  three_char l h =
      let u : 0x80 ≤ 0x80 + n % 64 = omega arith in
      let v : 0x80 + n % 64 ≤ 0xBF = omega arith in
      record { form = _; listed = l; matches = next h.0 h.1 (next h.2 h.3 (next u v none)) }

  four_char : Listed (low to high ∷ least to greatest ∷ tail ∷ tail ∷ []) forms
      → (low ≤ 0xF0 + n / 64 / 64 / 64) × (0xF0 + n / 64 / 64 / 64 ≤ high) × (least ≤ 0x80 + n / 64 / 64 % 64) × (0x80 + n / 64 / 64 % 64 ≤ greatest)
      → Char ((0xF0 + n / 64 / 64 / 64) ∷ (0x80 + n / 64 / 64 % 64) ∷ (0x80 + n / 64 % 64) ∷ (0x80 + n % 64) ∷ [])
  four_char l h =
      let t : 0x80 ≤ 0x80 + n / 64 % 64 = omega arith in
      let w : 0x80 + n / 64 % 64 ≤ 0xBF = omega arith in
      let u : 0x80 ≤ 0x80 + n % 64 = omega arith in
      let v : 0x80 + n % 64 ≤ 0xBF = omega arith in
      record { form = _; listed = l; matches = next h.0 h.1 (next h.2 h.3 (next t w (next u v none))) }

encoding_is_char : (n : ℕ) (octets : List ℕ) → Scalar n → Encodes n octets → Char octets
encoding_is_char n octets s (one p) = record { form = _; listed = utf8_1; matches = next zero-le p none }
encoding_is_char n octets s (two p q) =
    let a : 0xC2 ≤ 0xC0 + n / 64 = omega arith in
    let b : 0xC0 + n / 64 ≤ 0xDF = omega arith in
    let u : 0x80 ≤ 0x80 + n % 64 = omega arith in
    let v : 0x80 + n % 64 ≤ 0xBF = omega arith in
    record { form = _; listed = utf8_2; matches = next a b (next u v none) }
encoding_is_char n octets s (three p q) =
    ⊎_elim
    (λ h. three_char n utf8_3-E0 (omega arith))
    (λ g.
    ⊎_elim
    (λ h. three_char n utf8_3-E1 (omega arith))
    (λ f. ⊎_elim (λ h. three_char n utf8_3-ED (omega arith)) (λ h. three_char n utf8_3-EE (omega arith)) s.no_surrogate)
    (below_or_not n 0xD000))
    (below_or_not n 0x1000)
encoding_is_char n octets s (four p q) =
    ⊎_elim
    (λ h. four_char n utf8_4-F0 (omega arith))
    (λ g. ⊎_elim (λ h. four_char n utf8_4-F1 (omega arith)) (λ f. four_char n utf8_4-F4 (omega arith)) (below_or_not n 0x100000))
    (below_or_not n 0x40000)

-- Each character encodes a scalar value.

-- The number that the octets hold: six bits an octet, less what their marks (0xC0, 0xE0 or 0xF0, and 0x80) add up to.
number_of : List ℕ → ℕ
number_of [] = 0
number_of (a ∷ []) = a
number_of (a ∷ b ∷ []) = a * 64 + b - 0x3080
number_of (a ∷ b ∷ c ∷ []) = (a * 64 + b) * 64 + c - 0xE2080
number_of (a ∷ b ∷ c ∷ d ∷ []) = ((a * 64 + b) * 64 + c) * 64 + d - 0x3C82080
number_of (a ∷ b ∷ c ∷ d ∷ e ∷ octets) = 0

two_row : (n a b : ℕ) → (0x80 ≤ n) × (n ≤ 0x7FF) × (a ≡ 0xC0 + n / 64) × (b ≡ 0x80 + n % 64) → Encodes n (a ∷ b ∷ [])
two_row n a b h = rw (h.2, h.3) (two h.0 h.1)

three_row : (n a b c : ℕ) → (0x800 ≤ n) × (n ≤ 0xFFFF) × (a ≡ 0xE0 + n / 64 / 64) × (b ≡ 0x80 + n / 64 % 64) × (c ≡ 0x80 + n % 64) → Encodes n (a ∷ b ∷ c ∷ [])
three_row n a b c h = rw (h.2, h.3, h.4) (three h.0 h.1)

four_row : (n a b c d : ℕ)
    → (0x10000 ≤ n) × (n ≤ 0x10FFFF) × (a ≡ 0xF0 + n / 64 / 64 / 64) × (b ≡ 0x80 + n / 64 / 64 % 64) × (c ≡ 0x80 + n / 64 % 64) × (d ≡ 0x80 + n % 64)
    → Encodes n (a ∷ b ∷ c ∷ d ∷ [])
four_row n a b c d h = rw (h.2, h.3, h.4, h.5) (four h.0 h.1)

abbrev Encoding : List ℕ → Type 0
Encoding octets = Scalar (number_of octets) × Encodes (number_of octets) octets

-- The numbers of a form lie between that of its least octets and that of its greatest.
module _ (low high least greatest : ℕ) where
  three_octets : (0xE0 ≤ low) × (high ≤ 0xEF) × (0x80 ≤ least) × (greatest ≤ 0xBF) × (0x800 ≤ number_of (low ∷ least ∷ 0x80 ∷ []))
      → (number_of (high ∷ greatest ∷ 0xBF ∷ []) < 0xD800) ⊎ (0xDFFF < number_of (low ∷ least ∷ 0x80 ∷ []))
      → {octets : List ℕ} → Matches (low to high ∷ least to greatest ∷ tail ∷ []) octets → Encoding octets
  unfolding number_of
  three_octets h s (next {octet = a} p q (next {octet = b} r t (next {octet = c} u v none))) =
      (record { not_above = omega arith; no_surrogate = ⊎_elim (λ g. inl (omega arith)) (λ g. inr (omega arith)) s }, three_row (number_of (a ∷ b ∷ c ∷ [])) a b c (omega arith))

  four_octets : (0xF0 ≤ low) × (high ≤ 0xF7) × (0x80 ≤ least) × (greatest ≤ 0xBF)
      → (0x10000 ≤ number_of (low ∷ least ∷ 0x80 ∷ 0x80 ∷ [])) × (number_of (high ∷ greatest ∷ 0xBF ∷ 0xBF ∷ []) ≤ 0x10FFFF)
      → {octets : List ℕ} → Matches (low to high ∷ least to greatest ∷ tail ∷ tail ∷ []) octets → Encoding octets
  unfolding number_of
  four_octets h g (next {octet = a} p q (next {octet = b} r t (next {octet = c} u v (next {octet = d} w x none)))) =
      (record { not_above = omega arith; no_surrogate = inr (omega arith) }, four_row (number_of (a ∷ b ∷ c ∷ d ∷ [])) a b c d (omega arith))

char_is_encoding : {form : List Range} (octets : List ℕ) → Listed form forms → Matches form octets → Encoding octets
unfolding number_of
char_is_encoding octets here (next p q none) = (record { not_above = omega arith; no_surrogate = inl (omega arith) }, one q)
char_is_encoding octets (there here) (next {octet = a} p q (next {octet = b} u v none)) =
    (record { not_above = omega arith; no_surrogate = inl (omega arith) }, two_row (number_of (a ∷ b ∷ [])) a b (omega arith))
char_is_encoding octets (there (there here)) m = three_octets 0xE0 0xE0 0xA0 0xBF (omega arith) (inl (omega arith)) m
char_is_encoding octets (there (there (there here))) m = three_octets 0xE1 0xEC 0x80 0xBF (omega arith) (inl (omega arith)) m
char_is_encoding octets (there (there (there (there here)))) m = three_octets 0xED 0xED 0x80 0x9F (omega arith) (inl (omega arith)) m
char_is_encoding octets (there (there (there (there (there here))))) m = three_octets 0xEE 0xEF 0x80 0xBF (omega arith) (inr (omega arith)) m
char_is_encoding octets (there (there (there (there (there (there here)))))) m = four_octets 0xF0 0xF0 0x90 0xBF (omega arith) (omega arith) m
char_is_encoding octets (there (there (there (there (there (there (there here))))))) m = four_octets 0xF1 0xF3 0x80 0xBF (omega arith) (omega arith) m
char_is_encoding octets (there (there (there (there (there (there (there (there here)))))))) m = four_octets 0xF4 0xF4 0x80 0x8F (omega arith) (omega arith) m
char_is_encoding {form = form} octets (there (there (there (there (there (there (there (there (there l))))))))) m = elim l [ ]

-- Octets are a character exactly if they encode a Unicode scalar value: no surrogate, no number above 0x10FFFF, and none
-- in more octets than the table gives it.
pub char_iff_it_encodes_a_scalar_value : (octets : List ℕ) → Char octets ↔ ((number : ℕ) × Scalar number × Encodes number octets)
char_iff_it_encodes_a_scalar_value octets = (
  λ c. let e = char_is_encoding octets c.listed c.matches in (number_of octets, e.0, e.1),
  λ e. encoding_is_char e.0 octets e.1 e.2,
)

encoded_number : (n : ℕ) (octets : List ℕ) → Encodes n octets → number_of octets ≡ n
unfolding number_of
encoded_number n octets (one p) = refl
encoded_number n octets (two p q) = omega arith
encoded_number n octets (three p q) = omega arith
encoded_number n octets (four p q) = omega arith

-- A character encodes one number only.
pub char_encodes_one_number : (octets : List ℕ) (m n : ℕ) → Encodes m octets → Encodes n octets → m ≡ n
char_encodes_one_number octets m n p q = sym (encoded_number m octets p) ∙ encoded_number n octets q
