-- Reading the table decides, and of a table that is read the listing of its lines.
use mathlib.Core.Path.{refl, sym, ap, ◌∙◌}
use Rattle.std.proofs.lemmas.Result.{err_from_is_err_and}
use Rattle.refusal.proofs.Numbers.{number_above_zero}
use Rattle.volume.specs.Reading.{read_answer}
use Rattle.tree.proofs.Answers.{table_fits, not_read_gives, end_never, table_sound, all_given, not_given}
use Rattle.tree.proofs.tree.Goals as goal

pub returns-in_err-read : goal.returns-in_err-read
returns-in_err-read c =
    let a = c.args in
    let p = err_from_is_err_and c.from_residual.result c.from_residual.ensures.1 in
    let gives = not_read_gives a.volume.now a.mark a.root a.out.now (ap (read_answer a.volume.now) (sym c.table_due.ensures) ∙ sym c.in_err-read.ensures) in
    record { answer = rw (p.1, p.2) (sym gives.0); list = sym gives.1 }

pub returns-in_err-ok_or : goal.returns-in_err-ok_or
returns-in_err-ok_or c = end_never c.args.volume.now c.args.mark c.table_due.result c.table_due.ensures _ c.in_ok-read.ensures c.in_err-ok_or.ensures.ok_part

pub list_table-requires : goal.list_table-requires
list_table-requires c =
    let a = c.args in
    table_fits a.volume.now a.mark (table_sound a.volume.now a.mark c.table_due.result c.table_due.ensures _ c.in_ok-read.ensures _ c.in_ok-ok_or.ensures.ok_part)

pub returns-in_err-lines : goal.returns-in_err-lines
returns-in_err-lines c =
    let a = c.args in
    let p = err_from_is_err_and c.from_residual-in_err-lines.result c.from_residual-in_err-lines.ensures.1 in
    let sound = table_sound a.volume.now a.mark c.table_due.result c.table_due.ensures _ c.in_ok-read.ensures _ c.in_ok-ok_or.ensures.ok_part in
    let gives = not_given a.volume.now a.mark a.root a.out.now _ _ sound c.in_err-lines.ensures (number_above_zero _) in
    record { answer = rw (p.1, p.2) (sym gives.0); list = sym gives.1 }

pub returns : goal.returns
returns c =
    let a = c.args in
    let sound = table_sound a.volume.now a.mark c.table_due.result c.table_due.ensures _ c.in_ok-read.ensures _ c.in_ok-ok_or.ensures.ok_part in
    let gives = all_given a.volume.now a.mark a.root a.out.now _ _ sound c.in_ok-lines.ensures refl in
    record { answer = sym gives.0; list = sym gives.1 }
