-- After the fixed fields comes the limit, and the rest of the table is that of the end and the links.
use borrow.Author.Tests.{le-ltb, lt-ltb}
use Rattle.checks.specs.Checks.{hit, miss}
use Rattle.checks.proofs.Laws.{decided, rest}
use Rattle.checks.proofs.Tests.{walks}
use Rattle.format.specs.Blocks.{link_table}
use Rattle.block.specs.Fields.{body_length}
use Rattle.block.proofs.Faults.{fields_there}
use Rattle.block.proofs.table.table_fault.Goals as goal

pub returns-then-volume-from : goal.returns-then-volume-from
returns-then-volume-from c = decided (search walks)

pub returns-then-count-gt-MAX_LINKS : goal.returns-then-count-gt-MAX_LINKS
unfolding body_length
returns-then-count-gt-MAX_LINKS c =
    let a = c.args in
    fields_there
    link_table
    a.volume.now
    a.offset
    _
    c.if-volume-from.false
    (rw (← c.read_u64-count.ensures) (decided (hit (lt-ltb _ _ c.if-count-gt-MAX_LINKS.true))))

pub returns : goal.returns
unfolding body_length
returns c =
    let a = c.args in
    fields_there
    link_table
    a.volume.now
    a.offset
    _
    c.if-volume-from.false
    (rw (← c.read_u64-count.ensures) (decided (miss (le-ltb _ _ c.if-count-gt-MAX_LINKS.false) (rest c.end_fault.ensures))))
