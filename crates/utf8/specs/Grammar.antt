-- Well-formed UTF-8, by the grammar of RFC 3629, section 4. What a text is, with no word on how it is read.
-- The names UTF8-1 to UTF8-4 and UTF8-tail below are those of the RFC's rules.
use Rattle.std.specs.Prelude.{ℕ, ◌≤◌, List, [], ◌∷◌, ◌++◌, length, take}

-- %xlow-high: an octet from low to high, both included
pub data Range : Type 0 where
  ◌to◌ : ℕ → ℕ → Range

infix 80 ◌to◌
-- %xvalue: that octet alone
abbrev pub only : ℕ → Range
only value = value to value

-- UTF8-tail
abbrev pub tail : Range
tail = 0x80 to 0xBF

-- The forms of a character, in the RFC's order: UTF8-1, UTF8-2, the four of UTF8-3 and the three of UTF8-4. Each is the
-- ranges of its octets.
abbrev pub forms : List (List Range)
forms =
    (0x00 to 0x7F ∷ [])
    ∷ (0xC2 to 0xDF ∷ tail ∷ [])
    ∷ (only 0xE0 ∷ 0xA0 to 0xBF ∷ tail ∷ [])
    ∷ (0xE1 to 0xEC ∷ tail ∷ tail ∷ [])
    ∷ (only 0xED ∷ 0x80 to 0x9F ∷ tail ∷ [])
    ∷ (0xEE to 0xEF ∷ tail ∷ tail ∷ [])
    ∷ (only 0xF0 ∷ 0x90 to 0xBF ∷ tail ∷ tail ∷ [])
    ∷ (0xF1 to 0xF3 ∷ tail ∷ tail ∷ tail ∷ [])
    ∷ (only 0xF4 ∷ 0x80 to 0x8F ∷ tail ∷ tail ∷ [])
    ∷ []

-- The octets are of the form: one for each of its ranges, and in it.
pub data Matches : List Range → List ℕ → Type 0 where
  none : Matches [] []
  next : {low high octet : ℕ} {form : List Range} {octets : List ℕ}
      → low ≤ octet → octet ≤ high → Matches form octets → Matches (low to high ∷ form) (octet ∷ octets)

-- The form is one of the list.
pub data Listed : List Range → List (List Range) → Type 0 where
  here : {form : List Range} {others : List (List Range)} → Listed form (form ∷ others)
  there : {form other : List Range} {others : List (List Range)} → Listed form others → Listed form (other ∷ others)

-- UTF8-char: the octets are one character.
pub record Char (octets : List ℕ) : Type 0 where
  pub form : List Range
  pub listed : Listed form forms
  pub matches : Matches form octets

-- UTF8-octets: the text is any number of characters, one after the other.
pub data WellFormed : List ℕ → Type 0 where
  empty : WellFormed []
  more : {char rest : List ℕ} → Char char → WellFormed rest → WellFormed (char ++ rest)

-- The text's longest well-formed beginning has n octets.
pub record Longest (text : List ℕ) (n : ℕ) : Type 0 where
  pub within : n ≤ length text
  pub well_formed : WellFormed (take n text)
  pub none_longer : (m : ℕ) → m ≤ length text → WellFormed (take m text) → m ≤ n
