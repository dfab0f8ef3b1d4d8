-- Nothing is found among no texts.
use mathlib.Core.Path.{refl}
use Rattle.refusal.specs.inner.FirstBad.{first_bad}
use Rattle.texts.proofs.no_text.Goals as goal

pub returns : goal.returns
unfolding first_bad
returns c = refl
