-- A block that keeps the rules is read back from its image, so no two of them have the same image. Assumes nothing.
use mathlib.Core.Path.{◌≡◌, sym, ap, ◌∙◌}
use mathlib.Core.List.{[], append-nil}
use Rattle.format.specs.Blocks.{Block, kind_of, image, BlockRules}
use Rattle.block.specs.Fields.{kind_at, kind_with}
use Rattle.block.specs.inner.Decoded.{block_at}
use Rattle.block.specs.Shown.{shown}
use Rattle.block.proofs.Ids.{kind_known}
use Rattle.block.proofs.BlockImage.{Reads, block_complete}

read_back : (block : Block) → BlockRules block → shown (image block) (block_at (image block) 0) ≡ block
read_back block o =
    let r : Reads (image block) 0 block = block_complete block (image block) 0 [] o (sym (append-nil (image block))) in
    let kind : kind_at (image block) 0 ≡ kind_of block = ap kind_with r.id ∙ (kind_known (kind_of block)).0 in
    rw kind r.same

pub one_block : (a b : Block) → BlockRules a → BlockRules b → image a ≡ image b → a ≡ b
one_block a b p q same = sym (read_back a p) ∙ ap (λ bytes. shown bytes (block_at bytes 0)) same ∙ read_back b q
