-- Each file type has a table of its own, which one call answers.
use borrow.Author.Tests.{ltb-false}
use Rattle.block.proofs.inode.rest_fault.Goals as goal

pub list_fault-requires : goal.list_fault-requires
list_fault-requires c = ltb-false _ _ (rw (← c.of.ensures, c.in-Regular.is) at c.requires)

pub returns-in-Regular : goal.returns-in-Regular
returns-in-Regular c = rw (← c.of.ensures, c.in-Regular.is) c.list_fault.ensures

pub returns-in-SymbolicLink : goal.returns-in-SymbolicLink
returns-in-SymbolicLink c = rw (← c.of.ensures, c.in-SymbolicLink.is) c.target_fault.ensures

pub returns-in-Other : goal.returns-in-Other
returns-in-Other c = rw (← c.of.ensures, c.in-Other.is) c.other_fault.ensures
