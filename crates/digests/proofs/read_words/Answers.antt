-- The words stand one after the other.
use Rattle.digests.specs.States.{words_of}
use Rattle.digests.proofs.read_words.Goals as goal

pub returns : goal.returns
unfolding words_of
returns c =
    rw (
      c.read_u32.ensures,
      c.read_u32-2.ensures,
      c.read_u32-3.ensures,
      c.read_u32-4.ensures,
      c.read_u32-5.ensures,
      c.read_u32-6.ensures,
      c.read_u32-7.ensures,
      c.read_u32-8.ensures,
    )
