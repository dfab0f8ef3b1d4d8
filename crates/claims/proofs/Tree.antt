-- Listing the tree answers what is claimed: its lines are those of the one listing of the table that is read, and the checks of reading
-- come before those of the lines. Assumes nothing.
use Rattle.std.specs.Prelude.{Ok, Err}
use Prim.Native.Nat.{ℕ, ◌+◌, ◌≤◌}
use mathlib.Core.Path.{◌≡◌, refl, sym, ap, ◌∙◌, subst, subst₂}
use mathlib.Core.Bool.{false≢true}
use mathlib.Core.List.{List, ◌++◌, map}
use native.Mathlib.Nat.{zero-add}
use native.Mathlib.Omega.{arith}
use lib.ListN.{length, drop, take-append-drop, length-map}
use Rattle.number.specs.Number.{Bytes, put}
use Rattle.refusal.specs.Refusal.{refusal_of}
use Rattle.format.specs.Blocks.{TableLink, link_table, LinksOf}
use Rattle.links.specs.Links.{links_from}
use Rattle.links.proofs.Lists.{links_of_list}
use Rattle.links.proofs.Rules.{rules_fitting}
use Rattle.block.specs.Fields.{kind_with, fixed_length, field_at, body_length, bytes_of}
use Rattle.block.specs.inner.Decoded.{block_of, block_at}
use Rattle.block.specs.declared.TableBlock.{TableBlock}
use Rattle.block.specs.declared.Block.TheVariants.{Table}
use Rattle.volume.specs.Reading.{read_fault, read_answer}
use Rattle.volume.specs.declared.Bookmark.{Bookmark}
use Rattle.volume.specs.declared.Found.{Found}
use Rattle.volume.specs.Answers.{ReadAnswer}
use Rattle.volume.proofs.Steps.{found_at, Answers, ends, finds, refuses, answers, found_there, found_sound}
use Rattle.volume.proofs.TableLinks.{table_rules}
use Rattle.folders.specs.Lines.{line_numbers}
use Rattle.tree.specs.Listing.{table_due, table_links, lines_at, tree_fault, tree_answer, tree_room}
use Rattle.tree.specs.Answers.{TreeAnswer}
use Rattle.tree.proofs.Answers.{never_ends, table_id, fault_is, Gives, line_refused, lines_given, not_read_gives}
use Rattle.claims.specs.Library.{ours}
use Rattle.claims.specs.Tree.{line_of, IsListing, TableListing, Lists, not_read, listed, too_deep, no_room, TreeClaim}
use Rattle.claims.proofs.PathOrder.{all_of}
use Rattle.claims.proofs.Paths.{listing_from, listing_lines, is_listing, same_listings}
use Rattle.claims.proofs.FirstLine.{fault_from, Finds, none_refused, deep, full, found, from_first, all_given, deep_decides, room_decides}

-- the links that bytes begin with, whatever stands after them
shown_links : {count : ℕ} {bytes : List ℕ} (rule : LinksOf count bytes) (rest : List ℕ) → links_from (bytes ++ rest) 0 count ≡ rule.links
shown_links rule rest = rw (rule.laid_out, rule.stated) at (links_of_list rule.links rest (rules_fitting rule.links rule.each))

-- the lines of a table are those of its listing
lines_of_listing : {links : List TableLink} {root : ℕ} {paths : List (List ℕ)} (volume : List ℕ) (offset : ℕ)
    → table_links volume offset ≡ links → IsListing links root paths → lines_at volume offset root ≡ map line_of paths
lines_of_listing {links} {root} volume offset e listing =
    rw e (listing_lines links root ∙ ap (map line_of) (same_listings (is_listing links root) listing))

module _ (volume : List ℕ) (mark : Bookmark) where
  abbrev due : Bookmark
  due = table_due mark

  abbrev at : ℕ
  at = mark.offset

  -- the block that stands there is a table
  abbrev table_at : TableBlock
  table_at =
      record {
        count = field_at link_table "link count" volume at;
        links = record { offset = at + fixed_length link_table; len = body_length link_table volume at };
      }

  table_there : read_fault volume due ≡ 0 → block_at volume at ≡ Table table_at
  unfolding kind_with block_of
  table_there e =
      ap (λ (n : ℕ). block_of (kind_with n) volume at) (table_id volume mark e)

  -- what is found is the table there, and its links are those that are listed
  links_there : (found : Found) (table : TableBlock) → found_at volume due ≡ found → found.block ≡ Table table → read_fault volume due ≡ 0
      → (rule : LinksOf table.count (bytes_of volume table.links)) → table_links volume at ≡ rule.links
  links_there found table f t e =
      let b : block_at volume at ≡ found.block = ap (λ (f : Found). f.block) f in
      let here : block_at volume at ≡ Table table_at = table_there e in
      let same : table_at ≡ table = cc in
      subst (λ (t : TableBlock). (rule : LinksOf t.count (bytes_of volume t.links)) → table_links volume at ≡ rule.links) same
      (λ rule.
      rw (take-append-drop table_at.links.len (drop table_at.links.offset volume))
      at (shown_links rule (drop table_at.links.len (drop table_at.links.offset volume))))

  module _ (root : ℕ) where
    -- A listing of the table that is read: reading it finds no fault, so its lines decide.
    record Sound (paths : List (List ℕ)) : Type 0 where
      pub no_fault : read_fault volume due ≡ 0
      pub lines : lines_at volume at root ≡ map line_of paths

    sound : {paths : List (List ℕ)} → TableListing ours volume mark root paths → Sound paths
    sound {paths} l =
        let no_fault = found_sound volume due l.found l.read in
        let links = links_there l.found l.table (found_there volume due l.found l.read) l.is_table_lem no_fault l.links in
        record { no_fault = no_fault; lines = lines_of_listing volume at links l.is_listing }

    module _ (out : List ℕ) where
      module _ {paths : List (List ℕ)} (s : Sound paths) where
        lines_decide : tree_fault volume mark root (length out) ≡ fault_from (length out) 0 paths
        lines_decide = rw (fault_is volume mark root (length out), s.no_fault, s.lines)

        listed_gives : fault_from (length out) 0 paths ≡ 0
            → Gives volume mark root out (Ok (length paths)) (put out 0 (line_numbers (map line_of paths)))
        listed_gives e = rw (← length-map paths line_of, ← s.lines) (lines_given volume mark root out (lines_decide ∙ e))

        refused_gives : (number : ℕ) → fault_from (length out) 0 paths ≡ number → (number ≡ 0 → ⊥) → (number ≡ 10 → ⊥)
            → Gives volume mark root out (Err (refusal_of number)) out
        refused_gives number e = line_refused volume mark root out number (lines_decide ∙ e)

      -- What is to be answered is answered.
      answered : {answer : TreeAnswer} {after : List ℕ} → Lists ours volume mark root out answer after → Gives volume mark root out answer after
      answered (not_read e) = not_read_gives volume mark root out e
      answered (listed {paths = paths} l first) = listed_gives (sound l) (all_given (length out) paths first)
      answered (too_deep {paths = paths} before l first e d) =
          refused_gives (sound l) 24 (deep_decides (length out) before paths first e d) (λ z. omega arith) (λ z. omega arith)
      answered (no_room {paths = paths} before l first e d r) =
          refused_gives (sound l) 17 (room_decides (length out) before paths first e d r) (λ z. omega arith) (λ z. omega arith)

      -- And something is to be answered.
      abbrev Some : Type 0
      Some = (answer : TreeAnswer) × (after : List ℕ) × Lists ours volume mark root out answer after

      by_lines : {paths : List (List ℕ)} → TableListing ours volume mark root paths → {fault : ℕ} → Finds (length out) 0 paths fault → Some
      by_lines {paths} l (none_refused first) = (_, _, listed l (from_first (length out) (length paths) paths first))
      by_lines {paths} l (deep before first e d) = (_, _, too_deep before l (from_first (length out) before paths first) e d)
      by_lines {paths} l (full before first e d r) =
          (_, _, no_room before l (from_first (length out) before paths first) e d (rw (zero-add before) at r))

      something : Bytes volume → Some
      something b = go (answers volume due) refl
        where
          go : {a : ReadAnswer} → Answers volume due a → read_answer volume due ≡ a → Some
          go (ends p) e = absurd (false≢true (sym (never_ends volume mark) ∙ p))
          go (finds p f) e =
              let rule = table_rules volume due (found_at volume due) table_at b e (table_there f) in
              let paths : List (List ℕ) = listing_from rule.links root in
              let listing = is_listing rule.links root in
              by_lines
              (record {
                found = found_at volume due;
                table = table_at;
                read = e;
                is_table_lem = table_there f;
                links = rule;
                is_listing = listing;
              })
              (found (length out) 0 paths (all_of (λ path. length path ≤ 33) paths (λ path there. ((listing.exactly path).0 there).1)))
          go (refuses p f) e = (_, _, not_read e)

pub tree_holds : TreeClaim ours tree_answer tree_room
tree_holds volume mark root out b answer after =
    let some = something volume mark root out b in
    let gives = answered volume mark root out some.2 in (
      λ e. subst₂ (λ a l. Lists ours volume mark root out a l) (sym gives.0 ∙ e.0) (sym gives.1 ∙ e.1) some.2,
      answered volume mark root out,
    )
