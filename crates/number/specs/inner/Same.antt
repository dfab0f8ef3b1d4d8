-- Inner page: bytes compared.
-- Joined to equality by same_iff_equal.
use Rattle.std.specs.Prelude.{ℕ, Bool, true, false, ◌&&◌, List, [], ◌∷◌, eqb}

-- whether two lists of bytes are the same
unfoldable pub same_bytes : List ℕ → List ℕ → Bool
same_bytes [] [] = true
same_bytes [] (b ∷ others) = false
same_bytes (a ∷ rest) [] = false
same_bytes (a ∷ rest) (b ∷ others) = eqb a b && same_bytes rest others
