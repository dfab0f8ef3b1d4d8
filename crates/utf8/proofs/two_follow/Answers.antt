-- The first octet and the one after it are each looked at by `one_follows`; together they are the form.
use native.Mathlib.Omega.{arith}
use Rattle.utf8.proofs.Reading.{begins_within, begins_on, begins_not}
use Rattle.utf8.proofs.two_follow.Goals as goal

pub overflow_add-at : goal.overflow_add-at
overflow_add-at c =
    let a = c.args in
    omega (arith, begins_within a.text.now a.at _ _ c.one_follows.ensures c.if-one_follows.true)

pub returns-then-one_follows : goal.returns-then-one_follows
returns-then-one_follows c =
    let a = c.args in
    begins_on a.text.now a.at _ _ c.one_follows.ensures _ c.if-one_follows.true _ c.one_follows-then-one_follows.ensures

pub returns-else-one_follows : goal.returns-else-one_follows
returns-else-one_follows c =
    let a = c.args in
    begins_not a.text.now a.at _ _ c.one_follows.ensures _ c.if-one_follows.false
