-- The links of a table are what is claimed of them: they fill its part, from the first byte to the last. Assumes nothing.
use Prim.Native.Nat.{ℕ}
use mathlib.Core.Path.{sym}
use mathlib.Core.List.{List}
use native.Mathlib.Omega.{arith}
use Rattle.format.specs.Blocks.{LinksOf}
use Rattle.links.proofs.Answers.{not_so_many}
use Rattle.links.proofs.Tables.{links_shown, links_fill_bytes}
use Rattle.links.proofs.Walks.{shown_by_number, walked_to_the_end}
use Rattle.volume.proofs.TableLinks.{table_rules}
use Rattle.claims.specs.TableLinks.{TableClaim, TableLinks}

links_claim : (part : List ℕ) (count : ℕ) (of : LinksOf count part) → TableClaim part count of.links
links_claim part count of =
    let end = links_fill_bytes of in
    let stated = of.stated in
    record {
      part_is_the_links = sym of.laid_out;
      count_is_theirs = sym of.stated;
      by_number = λ index. rw (← links_shown of) (shown_by_number part count index (omega arith));
      not_so_many = λ index h. sym (not_so_many part count index (omega arith));
      in_order = rw (← links_shown of) (walked_to_the_end part count end);
    }

pub table_links_hold : TableLinks
table_links_hold volume mark found table b e t =
    let of = table_rules volume mark found table b e t in
    (of, links_claim _ _ of)
