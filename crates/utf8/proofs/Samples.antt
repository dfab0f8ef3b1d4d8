-- Worked samples: those of RFC 3629 and texts at the edges of the rules.
use Prim.Native.Nat.{ℕ}
use mathlib.Core.Path.{◌≡◌, refl}
use mathlib.Core.List.{List, [], ◌∷◌, map}
use Rattle.utf8.specs.inner.Length.{in_range, begins, begin_length, char_length, onward, passed, well_formed_length}

-- a text, and the length of its longest well-formed beginning
pub data Sample : Type 0 where
  sample : ℕ → List ℕ → Sample

pub stated : Sample → ℕ
stated (sample n text) = n

pub computed : Sample → ℕ
computed (sample n text) = well_formed_length text

pub samples : List Sample
samples =
    -- the RFC's examples (section 7), and an overlong form of "/../" that it warns of (section 10)
    sample 7 (0x41 ∷ 0xE2 ∷ 0x89 ∷ 0xA2 ∷ 0xCE ∷ 0x91 ∷ 0x2E ∷ [])
    ∷ sample 9 (0xED ∷ 0x95 ∷ 0x9C ∷ 0xEA ∷ 0xB5 ∷ 0xAD ∷ 0xEC ∷ 0x96 ∷ 0xB4 ∷ [])
    ∷ sample 9 (0xE6 ∷ 0x97 ∷ 0xA5 ∷ 0xE6 ∷ 0x9C ∷ 0xAC ∷ 0xE8 ∷ 0xAA ∷ 0x9E ∷ [])
    ∷ sample 7 (0xEF ∷ 0xBB ∷ 0xBF ∷ 0xF0 ∷ 0xA3 ∷ 0x8E ∷ 0xB4 ∷ [])
    ∷ sample 1 (0x2F ∷ 0xC0 ∷ 0xAE ∷ 0x2E ∷ 0x2F ∷ [])
    -- nothing, and the least and the greatest number of each length
    ∷ sample 0 []
    ∷ sample 2 (0x00 ∷ 0x7F ∷ [])
    ∷ sample 4 (0xC2 ∷ 0x80 ∷ 0xDF ∷ 0xBF ∷ [])
    ∷ sample 6 (0xE0 ∷ 0xA0 ∷ 0x80 ∷ 0xEF ∷ 0xBF ∷ 0xBF ∷ [])
    ∷ sample 8 (0xF0 ∷ 0x90 ∷ 0x80 ∷ 0x80 ∷ 0xF4 ∷ 0x8F ∷ 0xBF ∷ 0xBF ∷ [])
    -- longer than needed: two, three and four octets
    ∷ sample 1 (0x61 ∷ 0xC1 ∷ 0xBF ∷ [])
    ∷ sample 1 (0x61 ∷ 0xE0 ∷ 0x9F ∷ 0xBF ∷ [])
    ∷ sample 1 (0x61 ∷ 0xF0 ∷ 0x8F ∷ 0xBF ∷ 0xBF ∷ [])
    -- beside the surrogates, and the first of them
    ∷ sample 6 (0xED ∷ 0x9F ∷ 0xBF ∷ 0xEE ∷ 0x80 ∷ 0x80 ∷ [])
    ∷ sample 1 (0x61 ∷ 0xED ∷ 0xA0 ∷ 0x80 ∷ [])
    -- above 0x10FFFF
    ∷ sample 1 (0x61 ∷ 0xF4 ∷ 0x90 ∷ 0x80 ∷ 0x80 ∷ [])
    ∷ sample 1 (0x61 ∷ 0xF5 ∷ 0x80 ∷ 0x80 ∷ 0x80 ∷ [])
    -- cut short, and a tail with nothing before it
    ∷ sample 2 (0xC3 ∷ 0xA9 ∷ 0xE2 ∷ 0x82 ∷ [])
    ∷ sample 1 (0x61 ∷ 0xF0 ∷ 0x90 ∷ 0x80 ∷ [])
    ∷ sample 1 (0x61 ∷ 0x80 ∷ [])
    ∷ []

-- Every sample has the length that is stated.
pub every_sample_holds : map computed samples ≡ map stated samples
unfolding samples computed stated well_formed_length passed onward char_length begin_length begins in_range
every_sample_holds = refl
