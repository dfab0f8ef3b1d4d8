-- The links behind those that are left are in the index.
use Rattle.std.proofs.Common.{◌≡◌, length}
use Rattle.folders.specs.inner.Folders.{Chained, Heads}
use Rattle.folders.proofs.chain_all.Given as goal

abbrev pub invariant-loop-i : goal.invariant-loop-i
invariant-loop-i l =
    record {
      heads_len : length l.heads ≡ length l.initial.heads;
      nexts_len : length l.nexts ≡ length l.initial.nexts;
      headed : Heads l.parents l.heads l.count (l.i);
      chained : Chained l.parents l.nexts (l.i);
    }
