-- The window of all bytes stands in the buffer after the last chunk, and the bytes left over are made of it.
use mathlib.Core.Path.{sym, subst}
use mathlib.Core.List.{List, [], foldl}
use Prim.Native.Nat.{ℕ}
use native.Mathlib.Omega.{arith}
use Rattle.std.proofs.lemmas.List.Sums.{fold_more}
use Rattle.folding.specs.inner.Folding.{taken, start}
use Rattle.folding.specs.inner.Buffer.{Holds}
use Rattle.folding.proofs.Window.{holds_full, left_over}
use Rattle.folding.proofs.fold.Goals as goal

pub loop-chunk-init : goal.loop-chunk-init
loop-chunk-init c = c.begin.ensures

pub loop-chunk-preserved : goal.loop-chunk-preserved
loop-chunk-preserved c =
    let turn = c.loop-chunk in
    subst (λ (w : List ℕ). Holds c.move_window.new.buffer 0 w)
    (sym (fold_more (foldl taken) start c.as_chunks.result.0.now turn.chunk-index [] (omega arith)))
    (holds_full _ _ turn.buffer c.take_chunk.new.buffer _ (omega arith) turn.invariant c.take_chunk.ensures c.move_window.ensures)

pub returns : goal.returns
returns c =
    let chunks = c.as_chunks in
    left_over c.args.bytes.now _ c.loop-chunk.buffer c.take_chunk-2.new.buffer _ chunks.result.0.now _ c.loop-chunk.chunk-index
    chunks.ensures.front chunks.ensures.back (omega arith) c.loop-chunk.invariant c.take_chunk-2.ensures c.write_rest.ensures
