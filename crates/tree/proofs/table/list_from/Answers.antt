-- What is counted decides, and where nothing is at fault all lines are given.
use Rattle.std.proofs.Common.{◌≡◌, refl, rules, Err}
use Rattle.lines.proofs.Gives.{some_fault}
use Rattle.tree.proofs.Stores.{none_listed, all_listed}
use Rattle.tree.proofs.table.list_from.Goals as goal

pub returns-in_err-count_all : goal.returns-in_err-count_all
returns-in_err-count_all g c =
    let passed : c.from_residual.result ≡ Err c.in_err-count_all.field-0.0 = search rules in
    rw passed (none_listed _ c.args.out.now _ c.in_err-count_all.ensures (some_fault _))

pub returns : goal.returns
returns g c =
    all_listed _ c.args.out.now _ c.in_ok-count_all.ensures _ _ refl c.folder.ensures.answer c.folder.ensures.list
