-- IDs and kinds: every kind has an ID of its own, and every ID that is not refused is that of a kind. Assumes nothing.
use Prim.Native.Nat.{ℕ, suc, ◌≤◌}
use mathlib.Core.Path.{◌≡◌, refl, sym, ap, ◌∙◌}
use mathlib.Core.Logic.{◌↔◌}
use mathlib.Core.Bool.{Bool, true, false, false≢true, cond}
use mathlib.Mathlib.Data.Bool.Basic.{or-eq-false-eq-eq-false-and-eq-false as both_false}
use native.Mathlib.Omega.{arith}
use lib.Dec.{eqb}
use borrow.Author.Tests.{ltb-false, eqb-true, eqb-false, ne_eqb}
use Rattle.format.specs.Blocks.{Kind, inode_block, link_block, unlink_block, xattr_block, removed_xattr_block, data_block, rename_block, link_table, id_of, Block, kind_of}
use Rattle.format.specs.Kinds.{kind_named, NoKind}
use Rattle.format.specs.declared.kind.Kind.{Kind as CodeKind}
use Rattle.format.specs.declared.kind.Kind.TheVariants.{Table}
use Rattle.std.specs.Prelude.{Option, Some, None, MatchOption}
use Rattle.std.specs.Option.{unwrap_or}
use Rattle.format.specs.Readings.{IsTable}
use Rattle.block.specs.Fields.{kind_with}
use Rattle.block.specs.Order.{unknown_id}

-- a kind is found by its ID, which is not refused
pub kind_known : (kind : Kind) → (kind_with (id_of kind) ≡ kind) × (unknown_id (id_of kind) ≡ false)
unfolding kind_with
kind_known inode_block = (refl, refl)
kind_known link_block = (refl, refl)
kind_known unlink_block = (refl, refl)
kind_known xattr_block = (refl, refl)
kind_known removed_xattr_block = (refl, refl)
kind_known data_block = (refl, refl)
kind_known rename_block = (refl, refl)
kind_known link_table = (refl, refl)

-- an ID that is not refused is that of the kind found by it: it is tried with one number after the other, from 1 on
pub id_known : (id : ℕ) → unknown_id id ≡ false → id_of (kind_with id) ≡ id
unfolding kind_with
id_known id e =
    let p = (both_false (eqb id 0) _).0 e in
    let low : id ≡ 0 → ⊥ = eqb-false id 0 p.0 in
    let high : id ≤ 8 = ltb-false 8 id p.1 in
    try 1 inode_block _ (omega arith) refl (λ h.
    try 2 link_block _ h refl (λ h.
    try 3 unlink_block _ h refl (λ h.
    try 4 xattr_block _ h refl (λ h.
    try 5 removed_xattr_block _ h refl (λ h.
    try 6 data_block _ h refl (λ h.
    try 7 rename_block link_table h refl (λ h. omega arith)))))))
  where
    try : (n : ℕ) (kind others : Kind) → n ≤ id → id_of kind ≡ n → (suc n ≤ id → id_of others ≡ id)
        → id_of (cond (eqb id n) kind others) ≡ id
    try n kind others h e next = go (eqb id n) refl
      where
        go : (t : Bool) → eqb id n ≡ t → id_of (cond t kind others) ≡ id
        go true q = e ∙ sym (eqb-true id n q)
        go false q = let d : id ≡ n → ⊥ = eqb-false id n q in next (omega arith)

-- the kind that has an ID is the one found by it, and the ID is not refused
pub kind_found : (id : ℕ) (kind : Kind) → id_of kind ≡ id → (kind_with id ≡ kind) × (unknown_id id ≡ false)
kind_found id kind e = (ap kind_with (sym e) ∙ (kind_known kind).0, ap unknown_id (sym e) ∙ (kind_known kind).1)

-- an ID that no kind has is refused
pub no_kind_known : (id : ℕ) → NoKind id → unknown_id id ≡ true
no_kind_known id none = go (unknown_id id) refl
  where
    go : (t : Bool) → unknown_id id ≡ t → t ≡ true
    go true q = refl
    go false q = absurd (none (kind_with id) (id_known id q))

-- and is taken for that of a table
pub kind_or_table : (id : ℕ) (found : Option CodeKind) → MatchOption found (NoKind id) (λ kind. id_of (kind_named kind) ≡ id)
    → kind_named (unwrap_or found Table) ≡ kind_with id
unfolding kind_with
kind_or_table id (Some kind) e = sym (kind_found id (kind_named kind) e).0
kind_or_table id None none =
    rw (
      other_than inode_block,
      other_than link_block,
      other_than unlink_block,
      other_than xattr_block,
      other_than removed_xattr_block,
      other_than data_block,
      other_than rename_block,
    ) refl
  where
    other_than : (kind : Kind) → eqb id (id_of kind) ≡ false
    other_than kind = ne_eqb id (id_of kind) (λ e. none kind (sym e))

-- whether a block is a table, by its ID
abbrev pub is_table : Block → Bool
is_table block = eqb (id_of (kind_of block)) 8

pub table_iff : (block : Block) → (is_table block ≡ true) ↔ IsTable block
table_iff block = (table (kind_of block), λ e. ap (λ kind. eqb (id_of kind) 8) e)
  where
    table : (kind : Kind) → eqb (id_of kind) 8 ≡ true → kind ≡ link_table
    table inode_block e = absurd (false≢true e)
    table link_block e = absurd (false≢true e)
    table unlink_block e = absurd (false≢true e)
    table xattr_block e = absurd (false≢true e)
    table removed_xattr_block e = absurd (false≢true e)
    table data_block e = absurd (false≢true e)
    table rename_block e = absurd (false≢true e)
    table link_table e = refl
