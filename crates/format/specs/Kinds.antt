-- The kinds of block and the types of file as code has them.
use Rattle.std.specs.Prelude.{ℕ, ◌≡◌}
use Rattle.format.specs.Blocks.{Kind, inode_block, link_block, unlink_block, xattr_block, removed_xattr_block, data_block, rename_block, link_table, id_of, FileType, regular, symbolic_link, other}
use Rattle.format.specs.declared.kind.Kind.{Kind as CodeKind}
use Rattle.format.specs.declared.kind.Kind.TheVariants.{Inode, Link, Unlink, Xattr, RemovedXattr, Data, Rename, Table}
use Rattle.format.specs.declared.kind.FileType.{FileType as CodeType}
use Rattle.format.specs.declared.kind.FileType.TheVariants.{Regular, SymbolicLink, Other}

abbrev pub kind_named : CodeKind → Kind
kind_named Inode = inode_block
kind_named Link = link_block
kind_named Unlink = unlink_block
kind_named Xattr = xattr_block
kind_named RemovedXattr = removed_xattr_block
kind_named Data = data_block
kind_named Rename = rename_block
kind_named Table = link_table

abbrev pub type_named : CodeType → FileType
type_named Regular = regular
type_named SymbolicLink = symbolic_link
type_named Other = other

-- no kind has the ID
abbrev pub NoKind : (id : ℕ) → Type 0
NoKind id = (kind : Kind) → id_of kind ≡ id → ⊥
