use Prim.Native.Nat.{suc, ◌+◌, ◌*◌}
use mathlib.Core.Path.{◌≡◌, sym, ◌∙◌}
use native.Mathlib.Omega.{arith}
use Rattle.folders.specs.Lines.{levels}
use Rattle.counts.proofs.Counts.{counted_small, counted_more, settled, same_of, same_follows}
use Rattle.counts.proofs.count_levels.Goals as goal

pub count_level-requires-clause-small : goal.count_level-requires-clause-small
count_level-requires-clause-small c =
    let o = c.loop-pair in
    counted_small _ _ _ _ c.args.index.now.indexed o.counts _ o.invariant

pub returns-then-eq : goal.returns-then-eq
returns-then-eq c =
    let x = c.args.index.now.indexed in
    let o = c.loop-pair in
    let same = same_of _ _ _ (sym c.eq.ensures ∙ c.if-eq.true) in
    let follows = same_follows _ _ _ _ x o.counts _ same c.count_level.ensures in
    settled _ _ _ _ x o.counts _ follows o.invariant levels (omega arith)

pub count_level-requires-in-loop-pair-clause-small : goal.count_level-requires-in-loop-pair-clause-small
count_level-requires-in-loop-pair-clause-small c =
    let x = c.args.index.now.indexed in
    let o = c.loop-pair in
    let more = counted_more _ _ _ _ x o.counts _ _ c.count_level.ensures o.invariant in
    counted_small _ _ _ _ x _ _ more

pub loop-pair-preserved : goal.loop-pair-preserved
loop-pair-preserved c =
    let x = c.args.index.now.indexed in
    let o = c.loop-pair in
    let more = counted_more _ _ _ _ x o.counts _ _ c.count_level.ensures o.invariant in
    let second = c.count_level-in-loop-pair in
    let e : 2 * (o._pair + 1) ≡ suc (suc (2 * o._pair)) = omega arith in
    rw e (counted_more _ _ _ _ x _ _ _ second.ensures more)
