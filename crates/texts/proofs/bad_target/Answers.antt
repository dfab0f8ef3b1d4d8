-- The n bytes are a text where the type is that of a symbolic link.
use mathlib.Core.Path.{◌≡◌, refl}
use mathlib.Core.List.{List, []}
use Prim.Native.Nat.{ℕ}
use Rattle.format.specs.Kinds.{type_named}
use Rattle.format.specs.declared.kind.FileType.{FileType}
use Rattle.format.specs.declared.kind.FileType.TheVariants.{Regular, SymbolicLink, Other}
use Rattle.texts.specs.Texts.{targets}
use Rattle.texts.proofs.bad_target.Goals as goal

no_target : (type : FileType) (rest : List ℕ) → (type ≡ SymbolicLink → ⊥) → targets (type_named type) rest ≡ []
no_target Regular rest other = refl
no_target SymbolicLink rest other = absurd (other refl)
no_target Other rest other = refl

pub returns-in-SymbolicLink : goal.returns-in-SymbolicLink
returns-in-SymbolicLink c = rw (← c.of.ensures, c.in-SymbolicLink.is) c.bad_text.ensures

pub returns-in_default : goal.returns-in_default
returns-in_default c = rw (← c.of.ensures, no_target c.of.result c.args.rest.now c.in_default.not-SymbolicLink) c.no_text.ensures
