-- The first links of what the links below `i` hold are stored.
use Rattle.folders.specs.inner.Folders.{Opened}
use Rattle.folders.proofs.open_all.Given as goal

abbrev pub invariant-loop-i : goal.invariant-loop-i
invariant-loop-i l = Opened l.parents l.children l.firsts l.i
