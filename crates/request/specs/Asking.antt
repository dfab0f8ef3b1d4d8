-- Which numbers and bytes the arguments of an append can be.
use Rattle.std.specs.Prelude.{ℕ, cond, ◌||◌, List, [], ◌∷◌}
use lib.Text.{eqt}
use Rattle.number.specs.Number.{Bytes}
use Rattle.format.specs.Layout.{Field, field, Fit}
use Rattle.format.specs.Blocks.{Block, layout, kind_of, fields, body}

-- how many bytes an argument has: a number is as wide as its field; a length is that of a slice, which has 8 bytes also where its
-- field, n or m, is narrower
abbrev pub argument_widths : (layout : List Field) → List ℕ
argument_widths [] = []
argument_widths (field name width ∷ layout) = cond (eqt name "n" || eqt name "m") 8 width ∷ argument_widths layout

-- What holds of the arguments of every append, by their types. A claim that assumes it of a block leaves out no call: each append
-- has it in its contract for its own arguments, refused or not. And it leaves out no block that keeps the rules (`rules_sized`).
pub record Sized (block : Block) : Type 0 where
  pub fit : Fit (argument_widths (layout (kind_of block))) (fields block)
  -- a slice of bytes holds bytes
  pub bytes : Bytes (body block)
