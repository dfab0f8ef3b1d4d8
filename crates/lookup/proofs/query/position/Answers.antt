-- The lookup's fault comes first, then the size, and then the place in the list of extents decides.
use Rattle.std.proofs.Common.{◌≡◌, rules, tests}
use native.Mathlib.Omega.{arith}
use lib.Dec.{leb}
use borrow.Author.Tests.{leb-true, leb-false}
use Rattle.checks.proofs.Tests.{told}
use Rattle.refusal.proofs.Numbers.{number_above_zero}
use Rattle.lookup.proofs.Clear.{file_of}
use Rattle.lookup.proofs.Answers.{position_refused, position_past_end, position_placed}
use Rattle.lookup.proofs.query.position.Goals as goal

pub returns-in-Err : goal.returns-in-Err
returns-in-Err c = position_refused _ _ _ c.in-Err.ensures (number_above_zero _) c.refusal_at.ensures _

pub overflow_add-offset : goal.overflow_add-offset
overflow_add-offset c = omega (arith, (file_of _ _ _ c.in_default.ensures).whole)

pub returns-then-le : goal.returns-then-le
returns-then-le c =
    let ended : c.le.result ≡ leb c.read_u64.result c.args.position.0 = search (rules, tests) in
    position_past_end _ _ _ c.in_default.ensures _ (rw (← c.read_u64.ensures) (leb-true _ _ (told ended c.if-le.true)))

pub list_of-requires : goal.list_of-requires
list_of-requires c = (file_of _ _ _ c.in_default.ensures).whole

pub locate-requires : goal.locate-requires
locate-requires c = let f = file_of _ _ _ c.in_default.ensures in rw c.list_of.ensures (f.sound, f.few)

pub returns-in-None : goal.returns-in-None
returns-in-None c =
    let ended : c.le.result ≡ leb c.read_u64.result c.args.position.0 = search (rules, tests) in
    position_placed _ _ _ c.in_default.ensures _ _ (rw (← c.read_u64.ensures) (leb-false _ _ (told ended c.if-le.false)))
    c.list_of.ensures c.in-None.ensures

pub returns-in-Some : goal.returns-in-Some
returns-in-Some c =
    let ended : c.le.result ≡ leb c.read_u64.result c.args.position.0 = search (rules, tests) in
    position_placed _ _ _ c.in_default.ensures _ _ (rw (← c.read_u64.ensures) (leb-false _ _ (told ended c.if-le.false)))
    c.list_of.ensures c.in-Some.ensures
