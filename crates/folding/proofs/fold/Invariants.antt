-- Before each turn the window of the chunks so far stands at the beginning of the buffer.
use mathlib.Core.List.{foldl}
use lib.ListN.{take}
use Rattle.std.specs.List.{fold}
use Rattle.folding.specs.inner.Folding.{taken, start}
use Rattle.folding.specs.inner.Buffer.{Holds}
use Rattle.folding.proofs.fold.Given as goal

abbrev pub invariant-loop-chunk : goal.invariant-loop-chunk
invariant-loop-chunk l = Holds l.buffer 0 (fold (foldl taken) start (take l.chunk-index l.chunks))
