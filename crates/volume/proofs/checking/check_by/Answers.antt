-- The header decides first; a sound one is followed by the check of the blocks.
use mathlib.Core.Path.{ap, ◌∙◌}
use Rattle.volume.specs.inner.Check.{after_header, check_answer}
use Rattle.volume.proofs.checking.check_by.Goals as goal

pub returns-in-Ok : goal.returns-in-Ok
unfolding after_header check_answer
returns-in-Ok c = c.check_from.ensures ∙ ap (after_header _) c.in-Ok.ensures

pub returns-in-Err : goal.returns-in-Err
unfolding after_header check_answer
returns-in-Err c = ap (after_header _) c.in-Err.ensures
