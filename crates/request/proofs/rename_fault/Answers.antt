-- Each length and each text is a check, in the same order.
use mathlib.Core.Path.{refl}
use mathlib.Core.Bool.{not}
use mathlib.Core.List.{[], ◌∷◌}
use lib.Dec.{ltb}
use lib.ListN.{length}
use Rattle.std.proofs.lemmas.Result.{err_from_is_err_and}
use Rattle.utf8.specs.inner.Length.{is_text}
use Rattle.checks.specs.Checks.{check}
use Rattle.checks.proofs.Laws.{stopped, continued}
use Rattle.refusal.proofs.Numbers.{number_above_zero}
use Rattle.request.proofs.rename_fault.Goals as goal

pub returns-in_err-length_fault-clause-fault : goal.returns-in_err-length_fault-clause-fault
returns-in_err-length_fault-clause-fault c =
    let given = err_from_is_err_and c.from_residual.result c.from_residual.ensures.1 in
    rw (given.1, given.2)
    (stopped (check (ltb 65535 (length c.args.old.now)) 9 ∷ []) _ tt c.in_err-length_fault.ensures (number_above_zero _))

pub returns-in_err-length_fault-2-clause-fault : goal.returns-in_err-length_fault-2-clause-fault
returns-in_err-length_fault-2-clause-fault c =
    let given = err_from_is_err_and c.from_residual-in_err-length_fault-2.result c.from_residual-in_err-length_fault-2.ensures.1 in
    rw (given.1, given.2)
    (continued (check (ltb 65535 (length c.args.old.now)) 9 ∷ []) _ tt c.in_ok-length_fault.ensures refl
    (stopped (check (ltb 65535 (length c.args.new.now)) 9 ∷ []) _ tt c.in_err-length_fault-2.ensures (number_above_zero _)))

pub returns-in_err-text_fault-clause-fault : goal.returns-in_err-text_fault-clause-fault
returns-in_err-text_fault-clause-fault c =
    let given = err_from_is_err_and c.from_residual-in_err-text_fault.result c.from_residual-in_err-text_fault.ensures.1 in
    rw (given.1, given.2)
    (continued (check (ltb 65535 (length c.args.old.now)) 9 ∷ []) _ tt c.in_ok-length_fault.ensures refl
    (continued (check (ltb 65535 (length c.args.new.now)) 9 ∷ []) _ tt c.in_ok-length_fault-2.ensures refl
    (stopped (check (not (is_text c.args.old.now)) 10 ∷ []) _ tt c.in_err-text_fault.ensures (number_above_zero _))))

pub returns-clause-fault : goal.returns-clause-fault
returns-clause-fault c =
    continued (check (ltb 65535 (length c.args.old.now)) 9 ∷ []) _ tt c.in_ok-length_fault.ensures refl
    (continued (check (ltb 65535 (length c.args.new.now)) 9 ∷ []) _ tt c.in_ok-length_fault-2.ensures refl
    (continued (check (not (is_text c.args.old.now)) 10 ∷ []) _ tt c.in_ok-text_fault.ensures refl
    c.text_fault-2.ensures))
