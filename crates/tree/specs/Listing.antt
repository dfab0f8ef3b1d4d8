-- What listing the tree of a link table answers.
--
-- That the lines are the paths from the root, each once, is claimed in claims/specs/Tree.antt.
use Rattle.std.specs.Prelude.{ℕ, suc, ◌+◌, ◌*◌, true, cond, List, [], ◌∷◌, ◌++◌, leb, ltb, eqb, length, drop, Ok, Err}
use Rattle.number.specs.Number.{put}
use Rattle.checks.specs.Checks.{Check, check, first_fault}
use Rattle.refusal.specs.Refusal.{refusal_with}
use Rattle.format.specs.Blocks.{link_table, TableLink}
use Rattle.links.specs.Links.{links_from}
use Rattle.block.specs.Fields.{fixed_length, field_at}
use Rattle.texts.specs.Texts.{texts_at}
use Rattle.volume.specs.Reading.{read_order}
use Rattle.volume.specs.declared.Bookmark.{Bookmark}
use Rattle.folders.specs.Lines.{Line, levels, tree_lines, line_numbers}
use Rattle.tree.specs.Answers.{TreeAnswer}

-- the bookmark with a table due, whatever it says itself
abbrev pub table_due : Bookmark → Bookmark
table_due mark = record { offset = mark.offset; due = true; last = mark.last; number = mark.number }

-- the links of the table at an offset
abbrev pub table_links : (volume : List ℕ) (offset : ℕ) → List TableLink
table_links volume offset =
    links_from (drop (offset + fixed_length link_table) volume) 0 (field_at link_table "link count" volume offset)

-- the lines of the table at an offset
abbrev pub lines_at : (volume : List ℕ) (offset root : ℕ) → List Line
lines_at volume offset root = tree_lines (table_links volume offset) root

-- the checks of lines in listing order, each: 24 (depth), 17; `given` lines stand before them
unfoldable pub lines_order : (room given : ℕ) → List Line → List Check
lines_order room given [] = []
lines_order room given (line ∷ lines) =
    check (leb levels line.depth) 24
    ∷ check (ltb room (2 * suc given)) 17
    ∷ lines_order room (suc given) lines

-- the checks of a listing: those of reading the table, with it due at the bookmark, then those of the lines
abbrev pub tree_order : (volume : List ℕ) → Bookmark → (root room : ℕ) → List Check
tree_order volume mark root room =
    read_order volume (table_due mark) ++ lines_order room 0 (lines_at volume mark.offset root)

unfoldable pub tree_fault : (volume : List ℕ) → Bookmark → (root room : ℕ) → ℕ
tree_fault volume mark root room = first_fault (tree_order volume mark root room)

-- the answer: how many lines there are
unfoldable pub tree_answer : (volume : List ℕ) → Bookmark → (root room : ℕ) → TreeAnswer
tree_answer volume mark root room =
    cond (eqb (tree_fault volume mark root room) 0)
    (Ok (length (lines_at volume mark.offset root)))
    (Err (refusal_with (tree_fault volume mark root room) (texts_at volume mark.offset)))

-- what the lent list then holds: two numbers for each line, and past them what it held before; on refusal all of that
unfoldable pub tree_room : (volume : List ℕ) → Bookmark → (root : ℕ) (out : List ℕ) → List ℕ
tree_room volume mark root out =
    cond (eqb (tree_fault volume mark root (length out)) 0)
    (put out 0 (line_numbers (lines_at volume mark.offset root)))
    out
