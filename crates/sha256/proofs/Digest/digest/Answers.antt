-- The bytes of the last words.
use Rattle.sha256.specs.Feeding.{digest_of}
use Rattle.sha256.proofs.Digest.digest.Goals as goal

pub returns : goal.returns
unfolding digest_of
returns c = cc
