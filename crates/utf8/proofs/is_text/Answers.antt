-- The text is well-formed exactly if the length of its longest well-formed beginning is its own.
use Rattle.utf8.specs.inner.Length.{is_text}
use Rattle.utf8.proofs.is_text.Goals as goal

pub returns : goal.returns
unfolding is_text
returns c = rw (← c.well_formed_len.ensures)
