-- After the fixed fields comes the limit, and the rest of the table is that of the end and the n bytes.
use borrow.Author.Rules.{rules}
use Rattle.checks.specs.Checks.{hit, miss}
use Rattle.checks.proofs.Laws.{decided, rest}
use Rattle.checks.proofs.Tests.{told, walks}
use Rattle.block.specs.Fields.{body_length}
use Rattle.format.specs.Blocks.{inode_block}
use Rattle.block.proofs.Faults.{fields_there}
use Rattle.block.proofs.inode.inode_fault.Goals as goal

pub returns-then-volume-from : goal.returns-then-volume-from
returns-then-volume-from c = decided (search walks)

pub returns-then-is_too_long : goal.returns-then-is_too_long
unfolding body_length
returns-then-is_too_long c =
    let a = c.args in
    fields_there
    inode_block
    a.volume.now
    a.offset
    _
    c.if-volume-from.false
    (rw (← c.read_u16-mode.ensures, ← c.read_u64-n.ensures)
    (decided (hit (told c.is_too_long.ensures c.if-is_too_long.true))))

pub end_fault-requires : goal.end_fault-requires
end_fault-requires c = record { offset_le_from = (search rules, search rules, told c.is_too_long.ensures c.if-is_too_long.false) }

pub returns : goal.returns
unfolding body_length
returns c =
    let a = c.args in
    fields_there
    inode_block
    a.volume.now
    a.offset
    _
    c.if-volume-from.false
    (rw (
      ← c.read_u16-mode.ensures,
      ← c.read_u64-size.ensures,
      ← c.read_u64-n.ensures,
    )
    (decided (miss (told c.is_too_long.ensures c.if-is_too_long.false) (rest c.end_fault.ensures))))
