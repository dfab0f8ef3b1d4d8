-- What an append rests on, over any block. Assumes nothing.
use Prim.Native.Nat.{ℕ, ◌+◌}
use mathlib.Core.Path.{◌≡◌, sym}
use lib.ListN.{length}
use Rattle.format.specs.Blocks.{Block, kind_of, body, image}
use Rattle.format.proofs.Images.{size_of, length-image}

-- the bytes of an image, counted by its parts
pub image_len : (block : Block) {fixed rest : ℕ} → fixed ≡ size_of (kind_of block) → rest ≡ length (body block)
    → fixed + rest ≡ length (image block)
image_len block p q = rw (p, q) (sym (length-image block))
