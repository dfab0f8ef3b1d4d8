-- The two tests are the two checks of the table.
use Rattle.checks.proofs.Laws.{decided}
use Rattle.checks.proofs.Tests.{walks}
use Rattle.block.proofs.table.links_fault.Goals as goal

pub returns-then-some_name_not_text : goal.returns-then-some_name_not_text
returns-then-some_name_not_text c = decided (search walks)

pub returns-then-some_link_twice : goal.returns-then-some_link_twice
returns-then-some_link_twice c = decided (search walks)

pub returns : goal.returns
returns c = decided (search walks)
