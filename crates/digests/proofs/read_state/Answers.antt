-- The words, the number and the held bytes, each where it stands.
use Rattle.digests.specs.States.{state_of}
use Rattle.digests.proofs.read_state.Goals as goal

pub returns : goal.returns
unfolding state_of
returns c = rw (c.read_words.ensures, c.read_u64.ensures, c.copy_from_slice.ensures.after)
