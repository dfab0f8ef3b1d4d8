-- The tree below a folder as lines: one for each link of the folder, in table order, and right behind each the lines of what that link
-- holds. A link that several paths lead to has a line for each of them.
--
-- That these are the paths from the root is claimed in claims/specs/Tree.antt.
use Rattle.std.specs.Prelude.{ℕ, zero, suc, ◌-◌, cond, List, [], ◌∷◌, ◌++◌, map, eqb, get_or}
use Rattle.format.specs.Blocks.{TableLink}

-- a line: how deep the link stands below the root, and its place among the table's links
abbrev pub Line : Type 0
Line = record { depth : ℕ; place : ℕ }

-- how many levels a listing has: the depths 0 to 31
abbrev pub levels : ℕ
levels = 32

-- the places at which a number stands among others, the first of which has the given place
unfoldable pub places_from : (place number : ℕ) (numbers : List ℕ) → List ℕ
places_from place number [] = []
places_from place number (n ∷ numbers) =
    cond (eqb n number) (place ∷ places_from (suc place) number numbers) (places_from (suc place) number numbers)

-- the links of a folder, in table order, by their places: the folder is their parent
abbrev pub held : (parents : List ℕ) (folder : ℕ) → List ℕ
held parents folder = places_from 0 folder parents

-- the lines of several links, one link after the other
unfoldable pub each : (lines : (place : ℕ) → List Line) (places : List ℕ) → List Line
each lines [] = []
each lines (place ∷ places) = lines place ++ each lines places

-- A table goes by the parents and the children of its links, in table order; a listing asks for nothing else. `left` is the number of
-- levels that are left.

-- the line of a link, and at once the listing of what it holds; where no level is left, the line alone
unfoldable pub entry_lines : (parents children : List ℕ) (left place : ℕ) → List Line
entry_lines parents children zero place = record { depth = levels; place = place } ∷ []
entry_lines parents children (suc left) place =
    record { depth = levels - suc left; place = place }
    ∷ each (entry_lines parents children left) (held parents (get_or children place 0))

-- the listing of a folder
abbrev pub folder_lines : (parents children : List ℕ) (left folder : ℕ) → List Line
folder_lines parents children left folder = each (entry_lines parents children left) (held parents folder)

-- the listing of a table's links from a root on
unfoldable pub tree_lines : (links : List TableLink) (root : ℕ) → List Line
tree_lines links root = folder_lines (map (λ link. link.parent) links) (map (λ link. link.child) links) levels root

-- the numbers of the lines, two each
unfoldable pub line_numbers : List Line → List ℕ
line_numbers [] = []
line_numbers (line ∷ lines) = line.depth ∷ line.place ∷ line_numbers lines
