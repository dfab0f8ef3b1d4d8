-- After `j` turns the window is moved on by the first `j` bytes of the chunk.
use mathlib.Core.List.{foldl}
use lib.ListN.{take}
use Rattle.folding.specs.inner.Folding.{taken}
use Rattle.folding.specs.inner.Buffer.{Holds}
use Rattle.folding.proofs.take_chunk.Given as goal

abbrev pub invariant-loop-j : goal.invariant-loop-j
invariant-loop-j l = Holds l.buffer l.j (foldl taken (take 300 l.initial.buffer) (take l.j l.chunk))
