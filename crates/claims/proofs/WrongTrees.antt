-- Wrong listings of the tree answer otherwise than ours for a table of four links, so that the claim is false of them. Assumes nothing.
use Rattle.std.specs.Prelude.{Ok, Err}
use Prim.Native.Nat.{ℕ, ◌≤◌}
use mathlib.Core.Path.{◌≡◌, refl, sym, ap, ◌∙◌}
use mathlib.Core.List.{List, [], ◌∷◌}
use native.Mathlib.Omega.{arith}
use lib.ListN.{length, replicate, get_or}
use borrow.Author.Tests.{ne_eqb}
use Rattle.number.specs.Number.{Bytes, le, le_bytes, put}
use Rattle.checks.specs.Checks.{first_fault}
use Rattle.checks.proofs.Laws.{first_fault-append}
use Rattle.refusal.specs.Refusal.{refusal_with}
use Rattle.refusal.specs.Refusal.{Refusal}
use Rattle.utf8.specs.Grammar.{empty}
use Rattle.utf8.specs.inner.Length.{is_text, well_formed_length, passed, onward, char_length, begin_length, begins, in_range}
use Rattle.utf8.proofs.Longest.{text_iff_well_formed}
use Rattle.format.specs.Layout.{laid, sealed}
use Rattle.format.specs.Blocks.{TableLink, Block, Table, link_image, link_list, image, LinkRules, LinksOf}
use Rattle.format.specs.Headers.{header_fields, header_image}
use Rattle.format.specs.Readings.{Reading, images, volume_of}
use Rattle.links.specs.Links.{link_start, links_from}
use Rattle.texts.specs.Texts.{texts_at}
use Rattle.volume.specs.Heading.{first_mark}
use Rattle.volume.specs.Reading.{read_order, read_fault}
use Rattle.volume.specs.declared.Bookmark.{Bookmark}
use Rattle.volume.proofs.OneCall.{read_complete}
use Rattle.folders.specs.Lines.{Line, places_from, each, entry_lines, tree_lines, line_numbers}
use Rattle.volume.proofs.Steps.{found_sound}
use Rattle.tree.specs.Listing.{table_links, lines_order, tree_fault, tree_answer, tree_room}
use Rattle.tree.specs.Answers.{TreeAnswer}
use Rattle.tree.proofs.Answers.{read_numbered}
use Rattle.claims.specs.Library.{ours}
use Rattle.claims.specs.Tree.{TreeClaim}
use Rattle.claims.specs.WrongCalls.{Order, Shape, fault_by, tree_by, list_by, lines_in_order, as_they_are, deeper, in_folder, once_after, once, once_in_order, deep_first}
use Rattle.claims.proofs.Bytes.{all_small, small_bytes, volume_bytes}
use Rattle.claims.proofs.Tree.{tree_holds}
use Rattle.claims.proofs.Tried.{tabled, tabled_header}

-- Folder 1 holds 2 twice, and 2 holds 3; 5 holds itself.
abbrev links : List TableLink
links =
    record { child = 2; parent = 1; name = 97 ∷ [] }
    ∷ record { child = 2; parent = 1; name = [] }
    ∷ record { child = 3; parent = 2; name = [] }
    ∷ record { child = 5; parent = 5; name = [] }
    ∷ []

abbrev table : Block
table = Table (record { count = 4; links = link_list links })

abbrev reading : Reading
reading = record { header = tabled.header; blocks = table ∷ [] }

abbrev volume : List ℕ
volume = volume_of reading

abbrev mark : Bookmark
mark = first_mark 1

part_bytes : Bytes (link_list links)
unfolding link_list link_image laid le_bytes all_small
part_bytes = small_bytes (link_list links) refl

bytes : Bytes volume
bytes = volume_bytes reading tabled_header (part_bytes, tt)

named : LinkRules (record { child = 2; parent = 1; name = 97 ∷ [] })
unfolding all_small is_text well_formed_length passed onward char_length begin_length begins in_range
named =
    record {
      fit = (omega arith, (omega arith, (omega arith, tt)));
      bytes = small_bytes (97 ∷ []) refl;
      text = (text_iff_well_formed (97 ∷ [])).0 refl;
    }

unnamed : (child parent : ℕ) → child ≤ 5 → parent ≤ 5 → LinkRules (record { child = child; parent = parent; name = [] })
unnamed child parent a b = record { fit = (omega arith, (omega arith, (omega arith, tt))); bytes = λ i. omega arith; text = empty }

rules : LinksOf 4 (link_list links)
rules =
    record {
      links = links;
      laid_out = refl;
      stated = refl;
      few = omega arith;
      each = (
        named,
        (unnamed 2 1 (omega arith) (omega arith), (unnamed 3 2 (omega arith) (omega arith), (unnamed 5 5 (omega arith) (omega arith), tt))),
      );
      distinct = (
        ((λ s. let z : ◌≡◌ {A = ℕ} 1 0 = ap length s.1 in omega arith), ((λ s. omega arith), ((λ s. omega arith), tt))),
        (((λ s. omega arith), ((λ s. omega arith), tt)), (((λ s. omega arith), tt), (tt, tt))),
      );
    }

-- It is read without a fault, and its links are these.
no_fault : read_fault volume mark ≡ 0
unfolding volume_of images image header_image header_fields sealed laid le_bytes link_list link_image
no_fault =
    found_sound volume mark _
    (read_complete volume mark table (omega arith) (omega arith)
    (record { place = refl; keeps = record { fit = (omega arith, tt); bytes = part_bytes; rules = rules }; time = tt; counted = omega arith })
    [] refl).answer

links_there : table_links volume 80 ≡ links
unfolding volume_of images image header_image header_fields sealed laid le_bytes link_list link_image links_from link_start le
links_there = refl

one_count : {a b : ℕ} → ◌≡◌ {A = TreeAnswer} (Ok a) (Ok b) → a ≡ b
one_count e = cc

one_refusal : {a b : Refusal} → ◌≡◌ {A = TreeAnswer} (Err a) (Err b) → a ≡ b
one_refusal e = cc

-- What such a listing of it answers, by its checks of the lines.
module _ (order : Order) (shape : Shape) (root : ℕ) (out : List ℕ) where
  abbrev lines : List Line
  lines = tree_lines links root

  fault_is : fault_by order volume mark root (length out) ≡ first_fault (order (length out) lines)
  unfolding read_fault
  fault_is =
      first_fault-append (read_order volume mark) _ (read_numbered volume mark)
      ∙ rw (no_fault, links_there)

  given : first_fault (order (length out) lines) ≡ 0
      → (tree_by order shape volume mark root (length out) ≡ Ok (length (shape links lines)))
      × (list_by order shape volume mark root out ≡ put out 0 (line_numbers (shape links lines)))
  given e = rw (fault_is, e, links_there) (refl, refl)

  refused : (number : ℕ) → first_fault (order (length out) lines) ≡ number → (number ≡ 0 → ⊥)
      → tree_by order shape volume mark root (length out) ≡ Err (refusal_with number (texts_at volume 80))
  refused number e n = rw (fault_is, e, ne_eqb number 0 n)

-- A claim says that ours answers so, too.
module _ (order : Order) (shape : Shape) (claim : TreeClaim ours (tree_by order shape) (list_by order shape)) (root : ℕ) (out : List ℕ) where
  as_ours : (tree_by order shape volume mark root (length out) ≡ tree_by lines_in_order as_they_are volume mark root (length out))
      × (list_by order shape volume mark root out ≡ list_by lines_in_order as_they_are volume mark root out)
  unfolding tree_answer tree_room tree_fault
  as_ours = (claim volume mark root out bytes _ _).1 ((tree_holds volume mark root out bytes _ _).0 (refl, refl))

  -- so where both give their lines, these are the same
  same_lines : first_fault (order (length out) (tree_lines links root)) ≡ 0 → first_fault (lines_in_order (length out) (tree_lines links root)) ≡ 0
      → (length (shape links (tree_lines links root)) ≡ length (tree_lines links root))
      × (put out 0 (line_numbers (shape links (tree_lines links root))) ≡ put out 0 (line_numbers (tree_lines links root)))
  same_lines e f =
      let wrong = given order shape root out e in
      let right = given lines_in_order as_they_are root out f in
      (one_count (sym wrong.0 ∙ as_ours.0 ∙ right.0), sym wrong.1 ∙ as_ours.1 ∙ right.1)

-- From folder 1 on there are four lines.
abbrev out : List ℕ
out = replicate 8 0

pub counts_depth_from_one : TreeClaim ours (tree_by lines_in_order deeper) (list_by lines_in_order deeper) → ⊥
unfolding first_fault lines_order tree_lines each entry_lines places_from line_numbers put
counts_depth_from_one claim =
    let same = (same_lines lines_in_order deeper claim 1 out refl refl).1 in
    let z : ◌≡◌ {A = ℕ} 1 0 = ap (λ (list : List ℕ). get_or list 0 0) same in
    omega arith

pub counts_places_in_the_folder : TreeClaim ours (tree_by lines_in_order in_folder) (list_by lines_in_order in_folder) → ⊥
unfolding first_fault lines_order tree_lines each entry_lines places_from line_numbers put
counts_places_in_the_folder claim =
    let same = (same_lines lines_in_order in_folder claim 1 out refl refl).1 in
    let z : ◌≡◌ {A = ℕ} 0 2 = ap (λ (list : List ℕ). get_or list 3 0) same in
    omega arith

pub lists_each_link_once : TreeClaim ours (tree_by once_in_order once) (list_by once_in_order once) → ⊥
unfolding first_fault lines_order tree_lines each entry_lines places_from once_after
lists_each_link_once claim =
    let same : ◌≡◌ {A = ℕ} 3 4 = (same_lines once_in_order once claim 1 out refl refl).0 in
    omega arith

-- From folder 5 on there is a loop, and no room for its first line.
pub tells_depth_before_room : TreeClaim ours (tree_by deep_first as_they_are) (list_by deep_first as_they_are) → ⊥
unfolding first_fault lines_order tree_lines each entry_lines places_from refusal_with
tells_depth_before_room claim =
    let wrong = refused deep_first as_they_are 5 [] 24 refl (λ e. omega arith) in
    let right = refused lines_in_order as_they_are 5 [] 17 refl (λ e. omega arith) in
    let same = one_refusal (sym wrong ∙ (as_ours deep_first as_they_are claim 5 []).0 ∙ right) in
    let z : ◌≡◌ {A = ℕ} 24 17 = ap (λ (refusal : Refusal). refusal.number) same in
    omega arith
