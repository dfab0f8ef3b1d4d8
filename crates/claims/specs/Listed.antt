-- The listing: which text a volume has, in the format's own words, and that list writes it. The forms of a line are `heading_line`,
-- `block_line`, `end_line` and `refused_line`.
--
-- It is a claim about a library, by its calls. Proved of ours in proofs/Listed.antt.
use Rattle.std.specs.Prelude.{ℕ, ◌+◌, ◌≤◌, ◌<◌, ◌≡◌, List, [], ◌∷◌, ◌++◌, length, drop, Ok, Err}
use Rattle.number.specs.Number.{Bytes}
use Rattle.refusal.specs.Refusal.{Refusal, refusal_of}
use Rattle.format.specs.Blocks.{id_of, Block, kind_of, image}
use Rattle.format.specs.Readings.{Reading, ReadingOf}
use Rattle.volume.specs.declared.Bookmark.{Bookmark}
use Rattle.volume.specs.declared.HeaderRead.{HeaderRead}
use Rattle.listing.specs.Listing.{heading_line, block_line, end_line, refused_line}
use Rattle.claims.specs.Library.{Library}
use Rattle.claims.specs.Demand3Reading.{Stops}

-- the line of each block: where it begins, the ID of its kind, how long its image is
abbrev pub lines_of : (offset : ℕ) → List Block → List ℕ
lines_of offset [] = []
lines_of offset (block ∷ blocks) =
    block_line offset (id_of (kind_of block)) (length (image block)) ++ lines_of (offset + length (image block)) blocks

module _ (library : Library) where
  -- The text of a volume's listing. The heading always stands first.
  pub data IsListing (volume : List ℕ) : (text : List ℕ) → Type 0 where
    -- a line for each block of the reading, in order; then where the volume ends, and how many blocks the reading has
    of_an_accepted_volume :
        (reading : Reading)
        → length volume ≤ 65536
        → ReadingOf volume reading
        → IsListing volume (heading_line ++ (lines_of 80 reading.blocks ++ end_line (length volume) (length reading.blocks)))
    -- the header's refusal, at 0
    of_a_refused_header :
        (refusal : Refusal)
        → length volume ≤ 65536
        → library.read_header volume ≡ Err refusal
        → IsListing volume (heading_line ++ refused_line refusal.number 0)
    -- a line for each block that the reader hands out before it is refused; then the refusal, and where it is
    of_a_refused_block :
        (header : HeaderRead) (blocks : List Block) (at : Bookmark) (refusal : Refusal)
        → length volume ≤ 65536
        → library.read_header volume ≡ Ok header
        → Stops library volume 0 header.next blocks at refusal
        → IsListing volume (heading_line ++ (lines_of 80 blocks ++ refused_line refusal.number at.offset))
    -- a volume that is too long to be listed
    of_a_longer_volume : 65536 < length volume → IsListing volume (heading_line ++ refused_line 1 0)

  -- What is claimed of a volume's listing.
  pub record ListingClaim (volume : List ℕ) : Type 0 where
    -- there is such a text, and only one
    pub text : List ℕ
    pub is_listing : IsListing volume text
    pub only : (other : List ℕ) → IsListing volume other → other ≡ text
    -- with room enough list answers its length; the room then begins with it, and the rest of the room is as it was
    pub room_enough : (out : List ℕ) → length text ≤ length out
        → (library.list (length out) volume ≡ Ok (length text)) × (library.list_room out volume ≡ text ++ drop (length text) out)
    -- with less room, the answer is 17 and the room stays
    pub room_too_small : (out : List ℕ) → length out < length text
        → (library.list (length out) volume ≡ Err (refusal_of 17)) × (library.list_room out volume ≡ out)

  -- All of this holds of every volume.
  abbrev pub Listed : Type 0
  Listed = (volume : List ℕ) → Bytes volume → ListingClaim volume
