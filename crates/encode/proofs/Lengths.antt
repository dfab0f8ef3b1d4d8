-- How long images are: as long as the layouts say; and the lengths of a block whose values fit their fields. Assumes nothing.
use mathlib.Core.Path.{◌≡◌, ◌∙◌}
use native.Mathlib.Omega.{arith}
use lib.ListN.{length, length-append}
use Rattle.number.proofs.Digits.{length-le_bytes}
use Rattle.format.specs.Layout.{Fit}
use Rattle.format.specs.Blocks.{Block, Inode, Link, Unlink, Xattr, RemovedXattr, Data, Rename, Table, widths, kind_of, fields}
use Rattle.format.specs.Headers.{Header, header_fields, header_image}
use Rattle.format.proofs.Seal.{length-sealed}
use Rattle.encode.specs.inner.Lengths.{LengthsFit}

pub length-header_fields : (header : Header) → length header.id ≡ 16 → length header.previous ≡ 32
    → length (header_fields header) ≡ 76
unfolding header_fields
length-header_fields header h k = simp (length-append, length-le_bytes, h, k)

pub length-header_image : (header : Header) → length header.id ≡ 16 → length header.previous ≡ 32
    → length (header_image header) ≡ 80
unfolding header_image
length-header_image header h k = length-sealed (header_fields header) ∙ omega (arith, length-header_fields header h k)

-- a length is one of the values
pub lengths_fit : (block : Block) → Fit (widths (kind_of block)) (fields block) → LengthsFit block
lengths_fit (Inode b) fit = tt
lengths_fit (Link b) (_, (_, (_, (name, _)))) = name
lengths_fit (Unlink b) (_, (_, (_, (name, _)))) = name
lengths_fit (Xattr b) (_, (_, (name, (value, _)))) = (name, value)
lengths_fit (RemovedXattr b) (_, (_, (name, _))) = name
lengths_fit (Data b) fit = tt
lengths_fit (Rename b) (_, (old, (new, _))) = (old, new)
lengths_fit (Table b) fit = tt
