-- Text as bytes.
use Rattle.std.specs.Prelude.{ℕ, List, [], ◌∷◌}
use Prim.Native.Char.{code}
use Prim.Native.String.{String, [] as none, ◌∷◌ as ◌then◌}

-- the codes of a text's characters: its bytes, where all of them are ASCII
abbrev pub ascii : String → List ℕ
ascii none = []
ascii (character then text) = code character ∷ ascii text
