-- The links of a table: the part that the reader hands out with a table holds the links of the reading and nothing else, and the
-- calls that hand out single links from it agree with the reading.
--
-- `read_answer` is the answer of Bookmark::read, `link_answer` of link_at and `link_from` of link_from: these calls have the equations
-- in their contracts. `link_shown` is the format's link that an answer shows, and `Walked` is what going on from link to link gives.
-- Proved in proofs/TableLinks.antt.
use Rattle.std.specs.Prelude.{ℕ, ◌≤◌, ◌≡◌, List, length, Some, None, Ok}
use Rattle.std.proofs.Math.ListN.{get_elem?}
use Rattle.number.specs.Number.{Bytes}
use Rattle.format.specs.Blocks.{TableLink, link_list, LinksOf}
use Rattle.links.specs.Links.{link_answer}
use Rattle.links.specs.Walked.{link_shown, Walked}
use Rattle.block.specs.Fields.{bytes_of}
use Rattle.block.specs.declared.TableBlock.{TableBlock}
use Rattle.block.specs.declared.Block.TheVariants.{Table}
use Rattle.volume.specs.Reading.{read_answer}
use Rattle.volume.specs.declared.Bookmark.{Bookmark}
use Rattle.volume.specs.declared.Found.{Found}

-- What is claimed of a table that shows these links. `part` is the part of the volume that is handed out with it, and `count` the number.
pub record TableClaim (part : List ℕ) (count : ℕ) (links : List TableLink) : Type 0 where
  -- the part is the image of the links, one after the other, and the count is how many there are
  pub part_is_the_links : part ≡ link_list links
  pub count_is_theirs : count ≡ length links
  -- link_at shows the link with that number, and none where the links are not so many
  pub by_number : (index : ℕ) → link_shown part (link_answer part count index) ≡ get_elem? links index
  pub not_so_many : (index : ℕ) → length links ≤ index → link_answer part count index ≡ None
  -- link_from, called at 0 and then where the last link ended, gives all the links in order, and then none
  pub in_order : Walked part 0 links

-- The part and the count of every table that the reader hands out, whatever the bookmark, are links by the rules of the format, and all
-- of this holds of them. A part is the bytes of one list of links only (`one_list_of_links` of demand 3).
abbrev pub TableLinks : Type 0
TableLinks =
    (volume : List ℕ) (mark : Bookmark) (found : Found) (table : TableBlock) → Bytes volume
    → read_answer volume mark ≡ Ok (Some found) → found.block ≡ Table table
    → (of : LinksOf table.count (bytes_of volume table.links))
    × TableClaim (bytes_of volume table.links) table.count of.links
