-- How long the image of a block is: as long as its kind's layout says, also where a value does not fit its field. Assumes nothing.
use Prim.Native.Nat.{ℕ, ◌+◌}
use mathlib.Core.Path.{◌≡◌, refl, ◌∙◌}
use mathlib.Core.List.{List, [], ◌∷◌, ◌++◌}
use native.Mathlib.Omega.{arith}
use lib.ListN.{length, length-append}
use Rattle.number.proofs.Digits.{length-le_bytes}
use Rattle.format.specs.Layout.{total, laid}
use Rattle.format.specs.Blocks.{Kind, id_of, widths, Block, Inode, Link, Unlink, Xattr, RemovedXattr, Data, Rename, Table}
use Rattle.format.specs.Blocks.{kind_of, fields, body, image}
use Rattle.format.proofs.Seal.{length-sealed}

-- how many bytes an image has besides those of the variable parts: ID, fixed fields and CRC
abbrev pub size_of : Kind → ℕ
size_of kind = 1 + total (widths kind) + 4

-- fields laid out are as long as their widths say, also where a value does not fit
length-any : (widths values : List ℕ) → length widths ≡ length values → length (laid widths values) ≡ total widths
unfolding laid
length-any [] values e = refl
length-any (width ∷ widths) [] e = absurd (omega arith)
length-any (width ∷ widths) (value ∷ values) e =
    simp length-append (omega (arith, length-le_bytes width value, length-any widths values (omega arith)))

-- there is a value for each field
as_many : (block : Block) → length (widths (kind_of block)) ≡ length (fields block)
as_many (Inode b) = refl
as_many (Link b) = refl
as_many (Unlink b) = refl
as_many (Xattr b) = refl
as_many (RemovedXattr b) = refl
as_many (Data b) = refl
as_many (Rename b) = refl
as_many (Table b) = refl

pub length-image : (block : Block) → length (image block) ≡ size_of (kind_of block) + length (body block)
unfolding image
length-image block =
    let fixed : List ℕ = laid (widths (kind_of block)) (fields block) in
    length-sealed (id_of (kind_of block) ∷ fixed ++ body block)
    ∙ omega (arith, length-append fixed (body block), length-any (widths (kind_of block)) (fields block) (as_many block))
