-- Where a block is handed out, the lines from there on are its line, in the format's own words, and the lines from the next bookmark
-- on: where the block begins, the ID of its kind, and how long its image is. Assumes nothing.
use Rattle.std.specs.Prelude.{Some, Ok}
use Prim.Native.Nat.{ℕ, ◌+◌, ◌-◌}
use mathlib.Core.Path.{◌≡◌, ap, ◌∙◌}
use mathlib.Core.List.{List, ◌++◌}
use native.Mathlib.Omega.{arith}
use lib.ListN.{length, drop}
use Rattle.number.specs.Number.{Bytes}
use Rattle.format.specs.Blocks.{id_of, Block, kind_of, image}
use Rattle.block.specs.Fields.{id_at}
use Rattle.block.specs.Shown.{shown}
use Rattle.block.proofs.BlockImage.{block_complete}
use Rattle.volume.specs.Reading.{read_answer}
use Rattle.volume.specs.declared.Bookmark.{Bookmark}
use Rattle.volume.specs.declared.Found.{Found}
use Rattle.volume.specs.inner.Walk.{on_read}
use Rattle.volume.proofs.OneCall.{HandedOut, read_sound}
use Rattle.volume.proofs.Walk.{walk_step}
use Rattle.listing.specs.Listing.{block_line}
use Rattle.listing.specs.inner.Text.{listing_way, lines_from}

pub block_has_its_line : (volume : List ℕ) (mark : Bookmark) (found : Found) → Bytes volume
    → read_answer volume mark ≡ Ok (Some found)
    → lines_from volume mark
    ≡ block_line mark.offset (id_of (kind_of (shown volume found.block))) (length (image (shown volume found.block)))
    ++ lines_from volume found.next
unfolding on_read
block_has_its_line volume mark found b e =
    let block : Block = shown volume found.block in
    let h : HandedOut volume mark found = read_sound volume mark found b e in
    let id : id_at volume mark.offset ≡ id_of (kind_of block)
    = (block_complete block volume mark.offset (drop found.next.offset volume) h.allowed.keeps h.same).id in
    let end : found.next.offset ≡ mark.offset + length (image block) = ap (λ a. a.offset) h.next in
    let len : found.next.offset - mark.offset ≡ length (image block) = omega arith in
    walk_step volume (listing_way volume) mark e ∙ rw (id, len)
