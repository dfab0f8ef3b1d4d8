-- The counts with no level left are the tallies, so are those with all levels left, and the answer is that of the tally.
use mathlib.Core.Path.{◌∙◌}
use mathlib.Core.List.{[]}
use Rattle.counts.proofs.Tallies.{answer_all}
use Rattle.counts.proofs.Counts.{bottom_counted}
use Rattle.counts.proofs.count_lines.Goals as goal

pub count_levels-requires-clause-counted : goal.count_levels-requires-clause-counted
count_levels-requires-clause-counted c = bottom_counted _ _ _ _ c.args.index.now.indexed _ c.count_none.ensures

pub returns : goal.returns
returns c =
    let counted = c.count_levels.ensures c.args.first c.requires.first_in_bounds.0 in
    c.answer_of.ensures ∙ answer_all _ [] _ _ c.requires.first_in_bounds.1 counted
