-- The texts are looked at only where the number is 10.
use mathlib.Core.Path.{ap, ◌∙◌}
use Rattle.refusal.specs.Faults.{number_of}
use Rattle.refusal.proofs.Laws.{with_other, with_text}
use Rattle.refusal.proofs.Numbers.{number_of_other}
use Rattle.texts.proofs.refusal_at.Goals as goal

pub returns-in-NotText : goal.returns-in-NotText
returns-in-NotText c = with_text _ _ (ap number_of c.in-NotText.is) c.bad_at.ensures c.into.ensures

pub returns-in_default : goal.returns-in_default
returns-in_default c = c.into-in_default.ensures ∙ with_other _ _ (number_of_other _ c.in_default.not-NotText)
