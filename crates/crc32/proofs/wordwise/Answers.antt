-- `wordwise` meets its contract: chunks of four bytes, and then the last bytes.
use mathlib.Core.Path.{◌∙◌}
use mathlib.Core.List.{foldl}
use borrow.Author.Rules.{rules}
use Rattle.std.proofs.lemmas.Iterator.{YieldsList-from_slice}
use Rattle.std.proofs.lemmas.Iterator.Consumers.{fold_from_yields_List}
use Rattle.slicing.proofs.Turns.{one_by_one, in_turns}
use Rattle.crc32.specs.Crc.{byte_step}
use Rattle.crc32.proofs.wordwise.Goals as goal

pub returns : goal.returns
returns c =
    let words = c.as_chunks in
    in_turns byte_step 4 _ c.args.bytes.now _ words.result.0.now _ _ _ words.ensures.front words.ensures.back
    (fold_from_yields_List _ (foldl byte_step) _ _ c.fold-register.ensures.ran (YieldsList-from_slice words.result.0.now cc) (λ a x b q k. search rules))
    (fold_from_yields_List _ byte_step _ _ c.fold.ensures.ran (YieldsList-from_slice words.result.1.now cc) (λ a x b q k. search rules)
    ∙ one_by_one byte_step words.result.1.now _)
