-- Inner page: the text of a volume's listing, computed.
-- Joined to IsListing, ListingClaim of claims/Listed by listed_holds.
use Rattle.std.specs.Prelude.{Ok, Err, ℕ, ◌-◌, cond, List, ◌++◌, ltb, length}
use Rattle.block.specs.Fields.{id_at}
use Rattle.volume.specs.Heading.{header_answer}
use Rattle.volume.specs.inner.Walk.{Way, walk_from}
use Rattle.volume.specs.declared.Bookmark.{Bookmark}
use Rattle.volume.specs.declared.Found.{Found}
use Rattle.volume.specs.Answers.{HeaderAnswer}
use Rattle.listing.specs.Listing.{heading_line, block_line, end_line, refused_line, list_limit}

-- the line of the block that is handed out at a bookmark. The block ends where the next bookmark stands
abbrev pub found_line : (volume : List ℕ) → Bookmark → Found → List ℕ
found_line volume mark found = block_line mark.offset (id_at volume mark.offset) (found.next.offset - mark.offset)

abbrev pub listing_way : (volume : List ℕ) → Way (List ℕ)
listing_way volume =
    record {
      at_block = λ mark found onward. found_line volume mark found ++ onward;
      at_end = λ mark. end_line mark.offset mark.number;
      at_refusal = λ mark refusal. refused_line refusal.number mark.offset;
    }

-- the lines from a bookmark on
abbrev pub lines_from : (volume : List ℕ) → Bookmark → List ℕ
lines_from volume mark = walk_from volume (listing_way volume) mark

unfoldable pub after_heading : (volume : List ℕ) → HeaderAnswer → List ℕ
after_heading volume (Ok header) = lines_from volume header.next
after_heading volume (Err refusal) = refused_line refusal.number 0

unfoldable pub listing : (volume : List ℕ) → List ℕ
listing volume =
    heading_line ++ cond (ltb list_limit (length volume)) (refused_line 1 0) (after_heading volume (header_answer volume))
