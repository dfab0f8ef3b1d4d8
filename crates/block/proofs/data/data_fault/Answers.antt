-- After the fixed fields the table of a data block is the one that its end answers.
use Rattle.checks.proofs.Laws.{decided}
use Rattle.checks.proofs.Tests.{walks}
use Rattle.format.specs.Blocks.{data_block}
use Rattle.block.specs.Fields.{body_length}
use Rattle.block.proofs.Faults.{fields_there}
use Rattle.block.proofs.data.data_fault.Goals as goal

pub returns-then-volume-from : goal.returns-then-volume-from
returns-then-volume-from c = decided (search walks)

pub returns : goal.returns
unfolding body_length
returns c =
    let a = c.args in
    fields_there
    data_block
    a.volume.now
    a.offset
    _
    c.if-volume-from.false
    (rw (← c.read_u64-n.ensures) c.sealed_fault.ensures)
