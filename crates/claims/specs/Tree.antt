-- The tree below a folder: which links are met from a root number on, in which order they are listed, and what listing them answers.
--
-- It is a claim about the reader of a library, and about a call that is a parameter too, with the lent list after it. Proved of ours,
-- `tree_answer` and `tree_room`, in proofs/Tree.antt; that the links of every table have one listing, in proofs/Paths.antt.
use Rattle.std.specs.Prelude.{ℕ, suc, ◌*◌, ◌-◌, ◌≤◌, ◌<◌, ◌≡◌, ◌↔◌, length, get_or, Some, Ok, Err}
use Rattle.std.proofs.Math.Option.{some}
use mathlib.Core.List.{List, [], ◌∷◌, map, Memᴰ as StandsIn}
use Rattle.std.proofs.Math.ListN.{get_elem?}
use Rattle.number.specs.Number.{Bytes, put}
use Rattle.refusal.specs.Refusal.{Refusal, refusal_of}
use Rattle.format.specs.Layout.{All}
use Rattle.format.specs.Blocks.{TableLink, LinksOf}
use Rattle.block.specs.Fields.{bytes_of}
use Rattle.block.specs.declared.TableBlock.{TableBlock}
use Rattle.block.specs.declared.Block.TheVariants.{Table}
use Rattle.volume.specs.declared.Bookmark.{Bookmark}
use Rattle.volume.specs.declared.Found.{Found}
use Rattle.folders.specs.Lines.{Line, line_numbers}
use Rattle.tree.specs.Listing.{table_due}
use Rattle.tree.specs.Answers.{TreeAnswer}
use Rattle.claims.specs.Library.{Library}

-- A path down from a folder, by the places of its links among the table's links: the folder is the parent of the first link, and the
-- child of each link is the parent of the next.
pub data IsPath (links : List TableLink) : (folder : ℕ) (path : List ℕ) → Type 0 where
  to_a_link :
      {folder place : ℕ} {link : TableLink}
      → get_elem? links place ≡ some link
      → link.parent ≡ folder
      → IsPath links folder (place ∷ [])
  further :
      {folder place : ℕ} {link : TableLink} {path : List ℕ}
      → get_elem? links place ≡ some link
      → link.parent ≡ folder
      → IsPath links link.child path
      → IsPath links folder (place ∷ path)

-- Which of two paths is listed first.
pub data Before : (path other : List ℕ) → Type 0 where
  -- what a link holds is listed right behind it: a path comes before those that go on from it
  goes_on : {place : ℕ} {path : List ℕ} → Before [] (place ∷ path)
  -- a folder's links are listed in table order: where two paths part, the lower place comes first
  lower : {place other : ℕ} {path further : List ℕ} → place < other → Before (place ∷ path) (other ∷ further)
  later : {place other : ℕ} {path further : List ℕ} → place ≡ other → Before path further → Before (place ∷ path) (other ∷ further)

-- each comes before all those after it
abbrev pub InOrder : (paths : List (List ℕ)) → Type 0
InOrder [] = Unit {0}
InOrder (path ∷ paths) = All (Before path) paths × InOrder paths

-- The line of a path is that of its last link: its depth, from 0, and its place among the table's links.
abbrev pub line_of : (path : List ℕ) → Line
line_of path = record { depth = length path - 1; place = get_or path (length path - 1) 0 }

-- The listing from a root on: in listing order each path once, so that each link is listed once for each path that reaches it. Paths
-- of more than 33 links are left out: they come after a line at depth 32, which is refused, so a loop ends.
pub record IsListing (links : List TableLink) (root : ℕ) (paths : List (List ℕ)) : Type 0 where
  pub in_order : InOrder paths
  pub exactly : (path : List ℕ) → StandsIn path paths ↔ (IsPath links root path × (length path ≤ 33))

-- There is a listing, and only one.
pub record OneListing (links : List TableLink) (root : ℕ) : Type 0 where
  pub paths : List (List ℕ)
  pub is_listing : IsListing links root paths
  pub only : (others : List (List ℕ)) → IsListing links root others → others ≡ paths

-- A line, with so many lines before it, can be given: it does not stand at depth 32, and two numbers a line have room.
pub record CanBeGiven (room before : ℕ) (path : List ℕ) : Type 0 where
  pub not_too_deep : (line_of path).depth < 32
  pub has_room : 2 * suc before ≤ room

-- the first lines can be given, so many
abbrev pub FirstCanBeGiven : (room many : ℕ) (paths : List (List ℕ)) → Type 0
FirstCanBeGiven room many paths =
    (before : ℕ) (path : List ℕ) → before < many → get_elem? paths before ≡ some path → CanBeGiven room before path

module _ (library : Library) where
  -- The reader finds a table at the bookmark, with a table due there, and these are the paths of the listing of its links.
  pub record TableListing (volume : List ℕ) (mark : Bookmark) (root : ℕ) (paths : List (List ℕ)) : Type 0 where
    pub found : Found
    pub table : TableBlock
    pub read : library.read volume (table_due mark) ≡ Ok (Some found)
    pub is_table_lem : found.block ≡ Table table
    pub links : LinksOf table.count (bytes_of volume table.links)
    pub is_listing : IsListing links.links root paths

  -- What is to be answered where a list is lent, and what the list then holds.
  pub data Lists (volume : List ℕ) (mark : Bookmark) (root : ℕ) (out : List ℕ) : TreeAnswer → (after : List ℕ) → Type 0 where
    -- the refusals of reading the table come first
    not_read :
        {refusal : Refusal}
        → library.read volume (table_due mark) ≡ Err refusal
        → Lists volume mark root out (Err refusal) out
    -- every line can be given: two numbers a line go to the list
    listed :
        {paths : List (List ℕ)}
        → TableListing volume mark root paths
        → FirstCanBeGiven (length out) (length paths) paths
        → Lists volume mark root out (Ok (length paths)) (put out 0 (line_numbers (map line_of paths)))
    -- the first line that can't be given decides: 24 for its depth,
    too_deep :
        {paths : List (List ℕ)} (before : ℕ) {path : List ℕ}
        → TableListing volume mark root paths
        → FirstCanBeGiven (length out) before paths
        → get_elem? paths before ≡ some path
        → (line_of path).depth ≡ 32
        → Lists volume mark root out (Err (refusal_of 24)) out
    -- else 17 for room
    no_room :
        {paths : List (List ℕ)} (before : ℕ) {path : List ℕ}
        → TableListing volume mark root paths
        → FirstCanBeGiven (length out) before paths
        → get_elem? paths before ≡ some path
        → (line_of path).depth < 32
        → length out < 2 * suc before
        → Lists volume mark root out (Err (refusal_of 17)) out

  -- What is claimed of listing the tree: this is answered and nothing else, and the list then holds this and nothing else. One of these
  -- is always to be answered: where a table is due, the reader finds one or refuses.
  abbrev pub TreeClaim :
      (tree : (volume : List ℕ) → Bookmark → (root room : ℕ) → TreeAnswer)
      (tree_list : (volume : List ℕ) → Bookmark → (root : ℕ) (out : List ℕ) → List ℕ)
      → Type 0
  TreeClaim tree tree_list =
      (volume : List ℕ) (mark : Bookmark) (root : ℕ) (out : List ℕ) → Bytes volume
      → (answer : TreeAnswer) (after : List ℕ)
      → ((tree volume mark root (length out) ≡ answer) × (tree_list volume mark root out ≡ after)) ↔ Lists volume mark root out answer after
