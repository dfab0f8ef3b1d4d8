-- An inode's time stands after its number, a table has no time, and every other kind has its time after the ID.
use Rattle.std.specs.Prelude.{Some}
use Prim.Native.Nat.{ℕ, ◌+◌}
use mathlib.Core.Path.{◌≡◌, refl, ap, ◌∙◌}
use mathlib.Core.List.{List}
use Rattle.number.specs.Number.{number_at}
use Rattle.format.specs.Kinds.{kind_named}
use Rattle.format.specs.declared.kind.Kind.{Kind}
use Rattle.format.specs.declared.kind.Kind.TheVariants.{Inode, Link, Unlink, Xattr, RemovedXattr, Data, Rename, Table}
use Rattle.block.specs.inner.Decoded.{block_of, time_of_block}
use Rattle.volume.proofs.reading.time_at.Goals as goal

time-after-id : (kind : Kind) (volume : List ℕ) (offset : ℕ) → (kind ≡ Inode → ⊥) → (kind ≡ Table → ⊥)
    → Some (number_at volume (offset + 1) 8) ≡ time_of_block (block_of (kind_named kind) volume offset)
unfolding block_of
time-after-id Inode volume offset inode table = absurd (inode refl)
time-after-id Link volume offset inode table = refl
time-after-id Unlink volume offset inode table = refl
time-after-id Xattr volume offset inode table = refl
time-after-id RemovedXattr volume offset inode table = refl
time-after-id Data volume offset inode table = refl
time-after-id Rename volume offset inode table = refl
time-after-id Table volume offset inode table = absurd (table refl)

pub returns-in-Inode : goal.returns-in-Inode
unfolding block_of
returns-in-Inode c = rw (← c.kind_at.ensures, c.in-Inode.is) (ap Some c.read_u64.ensures)

pub returns-in-Table : goal.returns-in-Table
unfolding block_of
returns-in-Table c = rw (← c.kind_at.ensures, c.in-Table.is)

pub returns-in_default : goal.returns-in_default
returns-in_default c =
    rw (← c.kind_at.ensures)
    (ap Some c.read_u64-in_default.ensures ∙ time-after-id c.kind_at.result _ _ c.in_default.not-Inode c.in_default.not-Table)
