-- By the file type: only a regular file has the limit.
use Prim.Native.Nat.{ℕ}
use mathlib.Core.Path.{◌≡◌, refl, sym}
use mathlib.Core.Bool.{false}
use Rattle.format.specs.Kinds.{type_named}
use Rattle.format.specs.declared.kind.FileType.{FileType}
use Rattle.format.specs.declared.kind.FileType.TheVariants.{Regular, SymbolicLink, Other}
use Rattle.block.specs.Order.{too_long}
use Rattle.block.proofs.inode.is_too_long.Goals as goal

unlimited : (type : FileType) (n : ℕ) → (type ≡ Regular → ⊥) → too_long (type_named type) n ≡ false
unlimited Regular n other = absurd (other refl)
unlimited SymbolicLink n other = refl
unlimited Other n other = refl

pub returns-in-Regular : goal.returns-in-Regular
returns-in-Regular c = rw (← c.of.ensures, c.in-Regular.is)

pub returns-in_default : goal.returns-in_default
returns-in_default c = rw (← c.of.ensures) (sym (unlimited c.of.result c.args.n c.in_default.not-Regular))
