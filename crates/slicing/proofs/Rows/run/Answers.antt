-- `run` meets its contract: chunks of sixteen bytes, then chunks of four of what is left, and then its last bytes.
use mathlib.Core.Path.{◌∙◌}
use mathlib.Core.List.{foldl}
use borrow.Author.Rules.{rules}
use Rattle.std.proofs.lemmas.Iterator.{YieldsList-from_slice}
use Rattle.std.proofs.lemmas.Iterator.Consumers.{fold_from_yields_List}
use Rattle.slicing.specs.inner.Slicing.{step, zeros, first_row}
use Rattle.slicing.proofs.Turns.{one_by_one, in_turns}
use Rattle.slicing.proofs.Rows.run.Goals as goal

pub returns : goal.returns
unfolding zeros
returns c =
    let f = step (first_row c.args.self.now.entries) in
    let blocks = c.as_chunks in
    let words = c.as_chunks-2 in
    in_turns f 16 _ c.args.bytes.now _ blocks.result.0.now _ _ _ blocks.ensures.front blocks.ensures.back
    (fold_from_yields_List _ (foldl f) _ _ c.fold-current.ensures.ran (YieldsList-from_slice blocks.result.0.now cc) (λ a x b q k. search rules))
    (in_turns f 4 _ _ _ words.result.0.now _ _ _ words.ensures.front words.ensures.back
    (fold_from_yields_List _ (foldl f) _ _ c.fold-current-2.ensures.ran (YieldsList-from_slice words.result.0.now cc) (λ a x b q k. search rules))
    (fold_from_yields_List _ f _ _ c.fold.ensures.ran (YieldsList-from_slice words.result.1.now cc) (λ a x b q k. search rules)
    ∙ one_by_one f words.result.1.now _))
