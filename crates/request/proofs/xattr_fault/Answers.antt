-- The value's length decides first, and without a fault of it the name.
use mathlib.Core.Path.{refl}
use mathlib.Core.List.{[], ◌∷◌}
use lib.Dec.{ltb}
use lib.ListN.{length}
use Rattle.std.proofs.lemmas.Result.{err_from_is_err_and}
use Rattle.checks.specs.Checks.{check}
use Rattle.checks.proofs.Laws.{stopped, continued}
use Rattle.refusal.proofs.Numbers.{number_above_zero}
use Rattle.request.proofs.xattr_fault.Goals as goal

pub returns-in_err-length_fault-clause-fault : goal.returns-in_err-length_fault-clause-fault
returns-in_err-length_fault-clause-fault c =
    let given = err_from_is_err_and c.from_residual.result c.from_residual.ensures.1 in
    rw (given.1, given.2)
    (stopped (check (ltb 65535 (length c.args.value.now)) 9 ∷ []) _ tt c.in_err-length_fault.ensures (number_above_zero _))

pub returns-clause-fault : goal.returns-clause-fault
returns-clause-fault c =
    continued (check (ltb 65535 (length c.args.value.now)) 9 ∷ []) _ tt c.in_ok-length_fault.ensures refl c.name_fault.ensures
