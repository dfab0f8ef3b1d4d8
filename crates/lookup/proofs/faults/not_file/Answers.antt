-- Of the blocks with an inode's ID only those whose mode says so are regular files.
use mathlib.Core.Path.{◌≡◌, refl, sym, ap, ◌∙◌}
use mathlib.Core.Bool.{not}
use native.Mathlib.Omega.{arith}
use borrow.Author.Tests.{eq-eqb, ne_eqb}
use denote.Enum.Bare.{sameb}
use Rattle.format.specs.Blocks.{id_of}
use Rattle.format.specs.Kinds.{kind_named, type_named}
use Rattle.format.specs.declared.kind.Kind.{Kind}
use Rattle.format.specs.declared.kind.Kind.TheVariants.{Inode, Link, Unlink, Xattr, RemovedXattr, Data, Rename, Table}
use Rattle.format.specs.declared.kind.FileType.{FileType}
use Rattle.format.specs.declared.kind.FileType.TheVariants.{Regular, SymbolicLink, Other}
use Rattle.format.specs.contracts.kind.FileType.{the_type}
use Rattle.block.specs.Fields.{is_regular}
use Rattle.block.proofs.Ids.{id_known}
use Rattle.lookup.specs.Lookup.{not_file}
use Rattle.lookup.proofs.faults.not_file.Goals as goal

by_id : (kind : Kind) → id_of (kind_named kind) ≡ 1 → kind ≡ Inode
by_id Inode e = refl
by_id Link e = absurd (omega (arith, e))
by_id Unlink e = absurd (omega (arith, e))
by_id Xattr e = absurd (omega (arith, e))
by_id RemovedXattr e = absurd (omega (arith, e))
by_id Data e = absurd (omega (arith, e))
by_id Rename e = absurd (omega (arith, e))
by_id Table e = absurd (omega (arith, e))

by_type : (type : FileType) → not (sameb the_type type Regular) ≡ not (is_regular (type_named type))
by_type Regular = refl
by_type SymbolicLink = refl
by_type Other = refl

pub returns-in-Inode : goal.returns-in-Inode
unfolding not_file
returns-in-Inode c =
    let known = id_known _ c.requires.1 in
    let named = ap (λ (kind : Kind). id_of (kind_named kind)) (sym c.in-Inode.is) ∙ ap id_of c.kind_at.ensures in
    rw (eq-eqb _ 1 (sym (named ∙ known)), ← c.read_u16.ensures, ← c.of.ensures) (c.ne.ensures ∙ by_type c.of.result)

pub returns-in_default : goal.returns-in_default
unfolding not_file
returns-in_default c =
    let known = id_known _ c.requires.1 in
    rw (ne_eqb _ 1 (λ e. c.in_default.not-Inode (by_id _ (ap id_of c.kind_at.ensures ∙ known ∙ e))))
