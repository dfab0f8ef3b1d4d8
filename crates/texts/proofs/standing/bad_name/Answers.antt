-- The part is the name, as far as the volume goes.
use Rattle.texts.proofs.standing.bad_name.Goals as goal

pub returns : goal.returns
returns c = rw (← c.part_of.ensures) c.bad_text.ensures
