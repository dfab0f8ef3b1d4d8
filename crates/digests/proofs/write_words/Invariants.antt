-- The words so far are written.
use Rattle.std.proofs.Common.{◌≡◌, replicate}
use Rattle.number.specs.Number.{put}
use Rattle.format.specs.Layout.{laid}
use Rattle.digests.proofs.write_words.Given as goal

abbrev pub invariant-loop-i : goal.invariant-loop-i
invariant-loop-i l = l.state ≡ put l.initial.state 0 (laid (replicate l.i 4) l.words)
