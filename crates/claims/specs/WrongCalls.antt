-- Listings of trees that are wrong, each in one way, and that the claim on trees is false of: four list by another rule.
-- WrongAreShutOut of Wrong.antt says that the claim does not hold of them.
use Rattle.std.specs.Prelude.{ℕ, suc, cond, List, [], ◌∷◌, ◌++◌, map, leb, eqb, length, take, get_or, Ok, Err}
use Rattle.number.specs.Number.{put}
use Rattle.checks.specs.Checks.{Check, check, first_fault}
use Rattle.refusal.specs.Refusal.{refusal_with}
use Rattle.format.specs.Blocks.{TableLink}
use Rattle.texts.specs.Texts.{texts_at}
use Rattle.volume.specs.Reading.{read_order}
use Rattle.volume.specs.declared.Bookmark.{Bookmark}
use Rattle.folders.specs.Lines.{Line, levels, held, line_numbers}
use Rattle.tree.specs.Listing.{table_due, table_links, lines_at, lines_order}
use Rattle.tree.specs.Answers.{TreeAnswer}

-- Wrong about trees: other checks of the lines, or other lines that are given for them.
abbrev pub Order : Type 0
Order = (room : ℕ) → List Line → List Check

abbrev pub Shape : Type 0
Shape = (links : List TableLink) → List Line → List Line

abbrev pub fault_by : Order → (volume : List ℕ) → Bookmark → (root room : ℕ) → ℕ
fault_by order volume mark root room =
    first_fault (read_order volume (table_due mark) ++ order room (lines_at volume mark.offset root))

abbrev pub lines_by : Shape → (volume : List ℕ) → Bookmark → (root : ℕ) → List Line
lines_by shape volume mark root = shape (table_links volume mark.offset) (lines_at volume mark.offset root)

abbrev pub tree_by : Order → Shape → (volume : List ℕ) → Bookmark → (root room : ℕ) → TreeAnswer
tree_by order shape volume mark root room =
    cond (eqb (fault_by order volume mark root room) 0)
    (Ok (length (lines_by shape volume mark root)))
    (Err (refusal_with (fault_by order volume mark root room) (texts_at volume mark.offset)))

abbrev pub list_by : Order → Shape → (volume : List ℕ) → Bookmark → (root : ℕ) (out : List ℕ) → List ℕ
list_by order shape volume mark root out =
    cond (eqb (fault_by order volume mark root (length out)) 0) (put out 0 (line_numbers (lines_by shape volume mark root))) out

-- the right checks and lines
abbrev pub lines_in_order : Order
lines_in_order room lines = lines_order room 0 lines

abbrev pub as_they_are : Shape
as_they_are links lines = lines

-- one counts the depth from 1
abbrev pub deeper : Shape
deeper links lines = map (λ line. record { depth = suc line.depth; place = line.place }) lines

-- one gives the place among the links of the folder: how many of them stand before it
abbrev pub place_in_folder : (parents : List ℕ) (place : ℕ) → ℕ
place_in_folder parents place = length (held (take place parents) (get_or parents place 0))

abbrev pub in_folder : Shape
in_folder links lines =
    map (λ line. record { depth = line.depth; place = place_in_folder (map (λ link. link.parent) links) line.place }) lines

-- one lists each link once, by the first path that reaches it
unfoldable pub once_after : (seen : List ℕ) → List Line → List Line
once_after seen [] = []
once_after seen (line ∷ lines) =
    cond (eqb (length (held seen line.place)) 0) (line ∷ []) [] ++ once_after (line.place ∷ seen) lines

abbrev pub once : Shape
once links lines = once_after [] lines

abbrev pub once_in_order : Order
once_in_order room lines = lines_order room 0 (once_after [] lines)

-- one tells a line that is too deep before any other that has no room
abbrev pub deep_first : Order
deep_first room lines = map (λ line. check (leb levels line.depth) 24) lines ++ lines_order room 0 lines
