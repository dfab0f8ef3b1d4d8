-- A volume made of images holds bytes, if the variable parts of its blocks do. Assumes nothing.
use Prim.Native.Nat.{ℕ, zero, suc, ◌<◌}
use mathlib.Core.Path.{◌≡◌, refl}
use mathlib.Core.Bool.{Bool, true, ◌&&◌}
use mathlib.Core.List.{List, [], ◌∷◌, ◌++◌}
use native.Mathlib.Omega.{arith}
use lib.Dec.{ltb}
use lib.ListN.{replicate}
use borrow.Author.Tests.{ltb-true}
use mathlib.Mathlib.Data.Bool.Basic.{and-eq-true-eq-eq-true-and-eq-true as both_true}
use Rattle.number.specs.Number.{Bytes, le_bytes}
use Rattle.number.proofs.Digits.{le_bytes-bytes, bytes-append}
use Rattle.crc32.specs.Crc.{crc}
use Rattle.format.specs.declared.Extent.{Extent}
use Rattle.format.specs.Layout.{All, laid, sealed}
use Rattle.format.specs.Extents.{extent_widths, extent_fields, extent_list}
use Rattle.format.specs.Blocks.{Kind, inode_block, link_block, unlink_block, xattr_block, removed_xattr_block, data_block, rename_block, link_table}
use Rattle.format.specs.Blocks.{Block, id_of, kind_of, widths, fields, body, image}
use Rattle.format.specs.Headers.{Header, HeaderRules, magic, header_fields, header_image}
use Rattle.format.specs.Readings.{Reading, images, volume_of}

bytes_cons : (byte : ℕ) (bytes : List ℕ) → byte < 256 → Bytes bytes → Bytes (byte ∷ bytes)
bytes_cons byte bytes small b zero = small
bytes_cons byte bytes small b (suc i) = b i

pub zeros_bytes : (n : ℕ) → Bytes (replicate n 0)
zeros_bytes zero = λ i. omega arith
zeros_bytes (suc n) = bytes_cons 0 (replicate n 0) (omega arith) (zeros_bytes n)

laid_bytes : (widths values : List ℕ) → Bytes (laid widths values)
unfolding laid
laid_bytes [] values = λ i. omega arith
laid_bytes (width ∷ widths) [] = λ i. omega arith
laid_bytes (width ∷ widths) (value ∷ values) =
    bytes-append (le_bytes width value) (laid widths values) (le_bytes-bytes width value) (laid_bytes widths values)

sealed_bytes : (bytes : List ℕ) → Bytes bytes → Bytes (sealed bytes)
unfolding sealed
sealed_bytes bytes b = bytes-append bytes (le_bytes 4 (crc bytes)) b (le_bytes-bytes 4 (crc bytes))

-- by a test of each byte
unfoldable pub all_small : List ℕ → Bool
all_small [] = true
all_small (byte ∷ bytes) = ltb byte 256 && all_small bytes

pub small_bytes : (bytes : List ℕ) → all_small bytes ≡ true → Bytes bytes
unfolding all_small
small_bytes [] e = λ i. omega arith
small_bytes (byte ∷ bytes) e =
    let both = (both_true (ltb byte 256) (all_small bytes)).0 e in
    bytes_cons byte bytes (ltb-true byte 256 both.0) (small_bytes bytes both.1)

pub header_bytes_lem : (header : Header) → HeaderRules header → Bytes (header_image header)
unfolding header_image header_fields all_small
header_bytes_lem header rules =
    let last : List ℕ = le_bytes 8 header.sequence ++ header.previous in
    let middle : List ℕ = header.id ++ (0 ∷ 0 ∷ last) in
    let ends : Bytes last
    = bytes-append (le_bytes 8 header.sequence) header.previous (le_bytes-bytes 8 header.sequence) rules.hash_bytes in
    sealed_bytes (header_fields header)
    (bytes-append magic (0 ∷ middle) (small_bytes magic refl)
    (bytes_cons 0 middle (omega arith)
    (bytes-append header.id (0 ∷ 0 ∷ last) rules.id_bytes
    (bytes_cons 0 (0 ∷ last) (omega arith) (bytes_cons 0 last (omega arith) ends)))))

id_small : (kind : Kind) → id_of kind < 256
id_small inode_block = omega arith
id_small link_block = omega arith
id_small unlink_block = omega arith
id_small xattr_block = omega arith
id_small removed_xattr_block = omega arith
id_small data_block = omega arith
id_small rename_block = omega arith
id_small link_table = omega arith

image_bytes : (block : Block) → Bytes (body block) → Bytes (image block)
unfolding image
image_bytes block b =
    let front : List ℕ = laid (widths (kind_of block)) (fields block) in
    sealed_bytes (id_of (kind_of block) ∷ front ++ body block)
    (bytes_cons (id_of (kind_of block)) (front ++ body block) (id_small (kind_of block))
    (bytes-append front (body block) (laid_bytes (widths (kind_of block)) (fields block)) b))

images_bytes : (blocks : List Block) → All (λ block. Bytes (body block)) blocks → Bytes (images blocks)
unfolding images
images_bytes [] b = λ i. omega arith
images_bytes (block ∷ blocks) b =
    bytes-append (image block) (images blocks) (image_bytes block b.0) (images_bytes blocks b.1)

-- what stands in the variable parts decides
pub volume_bytes : (reading : Reading) → HeaderRules reading.header → All (λ block. Bytes (body block)) reading.blocks
    → Bytes (volume_of reading)
unfolding volume_of
volume_bytes reading rules b =
    bytes-append (header_image reading.header) (images reading.blocks)
    (header_bytes_lem reading.header rules) (images_bytes reading.blocks b)

pub extents_bytes : (extents : List Extent) → Bytes (extent_list extents)
unfolding extent_list
extents_bytes [] = λ i. omega arith
extents_bytes (e ∷ extents) =
    bytes-append (laid extent_widths (extent_fields e)) (extent_list extents)
    (laid_bytes extent_widths (extent_fields e)) (extents_bytes extents)
