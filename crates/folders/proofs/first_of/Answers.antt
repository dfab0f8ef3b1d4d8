-- What stands where the folder belongs decides.
use Rattle.folders.specs.inner.Folders.{missing}
use Rattle.folders.proofs.Heads.{no_head}
use Rattle.folders.proofs.first_of.Goals as goal

pub returns-in-Err : goal.returns-in-Err
returns-in-Err c =
    elim c.in-Err.ensures [ missing p none ↦ no_head _ _ _ 0 c.requires _ _ p none ]
