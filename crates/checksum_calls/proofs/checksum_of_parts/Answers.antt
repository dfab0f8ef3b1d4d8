-- `checksum_of_parts` meets its contract: the chunks are the parts in turn, and parts of size 0 are none.
use Prim.Native.Nat.{ℕ, ◌/◌}
use mathlib.Core.Path.{◌≡◌, ap, ap₂, ◌∙◌}
use mathlib.Core.List.{List}
use native.Mathlib.Omega.{arith}
use borrow.Author.Rules.{rules}
use lib.ListN.{length}
use Rattle.checksum_calls.specs.Parts.{sum_of_parts}
use Rattle.checksum_calls.proofs.Parts.{with_part, run_parts, no_parts}
use Rattle.checksum_calls.proofs.checksum_of_parts.Goals as goal

pub returns-then-size-eq0 : goal.returns-then-size-eq0
returns-then-size-eq0 c = no_parts _ _ (omega arith)

pub returns : goal.returns
returns c =
    let run = c.fold.ensures.runs in
    let size : run.0.from.size ≡ c.args.size = ap (λ s. s.size) run.1 ∙ c.chunks_exact.ensures.size in
    let bytes : run.0.from.rest.now ≡ c.args.bytes.now = ap (λ s. s.rest.now) run.1 ∙ c.chunks_exact.ensures.rest in
    let chunks = c.chunks_exact.ensures.runs run.0 run.0.seen (omega arith) in
    run.3 with_part (λ a x b q k. search rules)
    ∙ run_parts run.0.from.rest.now run.0.from.size run.0.items c.args.bytes run.0.len run.0.at run.0.long (chunks.1 run.2)
    run.0.reads chunks.2
    ∙ ap₂ (λ (b : List ℕ) (s : ℕ). sum_of_parts b s (length b / s)) bytes size
