-- Inner page: the length of a text's longest well-formed beginning, computed. Characters are passed from the front while one
-- stands there.
-- Joined to Longest, WellFormed of utf8/Grammar by well_formed_length-is_the_longest, text_iff_well_formed.
use Rattle.std.specs.Prelude.{ℕ, zero, suc, Bool, true, false, cond, ◌&&◌, List, [], ◌∷◌, leb, eqb, length}
use Rattle.utf8.specs.Grammar.{Range, ◌to◌, forms}

-- whether the octet is in the range
unfoldable pub in_range : Range → ℕ → Bool
in_range (low to high) octet = leb low octet && leb octet high

-- whether the text begins with octets of the form
unfoldable pub begins : List Range → List ℕ → Bool
begins [] text = true
begins (range ∷ form) [] = false
begins (range ∷ form) (octet ∷ text) = in_range range octet && begins form text

-- the number of octets of the first form with which the text begins; 0 if it begins with none of them
unfoldable pub begin_length : List (List Range) → List ℕ → ℕ
begin_length [] text = 0
begin_length (form ∷ others) text = cond (begins form text) (length form) (begin_length others text)

-- the number of octets of the character with which the text begins; 0 if it begins with none
unfoldable pub char_length : List ℕ → ℕ
char_length text = begin_length forms text

-- one octet of a character, and what is passed after it with the character's others left; nothing if there is no character
unfoldable pub onward : ℕ → (ℕ → ℕ) → ℕ
onward zero after = 0
onward (suc left) after = suc (after left)

-- the number of octets passed, of which the first `left` belong to a character whose beginning is passed already
unfoldable pub passed : ℕ → List ℕ → ℕ
passed left [] = 0
passed (suc left) (octet ∷ text) = suc (passed left text)
passed zero (octet ∷ text) = onward (char_length (octet ∷ text)) (λ left. passed left text)

-- the length of the text's longest well-formed beginning
unfoldable pub well_formed_length : List ℕ → ℕ
well_formed_length text = passed 0 text

-- whether the whole text is well-formed
unfoldable pub is_text : List ℕ → Bool
is_text text = eqb (well_formed_length text) (length text)
