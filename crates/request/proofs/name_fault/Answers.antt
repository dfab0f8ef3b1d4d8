-- The length decides first, and without a fault of it the text.
use mathlib.Core.Path.{refl}
use mathlib.Core.List.{[], ◌∷◌}
use lib.Dec.{ltb}
use lib.ListN.{length}
use Rattle.std.proofs.lemmas.Result.{err_from_is_err_and}
use Rattle.checks.specs.Checks.{check}
use Rattle.checks.proofs.Laws.{stopped, continued}
use Rattle.refusal.proofs.Numbers.{number_above_zero}
use Rattle.request.proofs.name_fault.Goals as goal

pub returns-in_err-length_fault : goal.returns-in_err-length_fault
returns-in_err-length_fault c =
    let given = err_from_is_err_and c.from_residual.result c.from_residual.ensures.1 in
    rw (given.1, given.2)
    (stopped (check (ltb c.args.most (length c.args.name.now)) 9 ∷ []) _ tt c.in_err-length_fault.ensures (number_above_zero _))

pub returns : goal.returns
returns c =
    continued (check (ltb c.args.most (length c.args.name.now)) 9 ∷ []) _ tt c.in_ok-length_fault.ensures refl c.text_fault.ensures
