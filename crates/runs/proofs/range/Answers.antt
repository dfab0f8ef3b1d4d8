-- `runs::range` meets its contract: the runs are counted, no further than the room goes, and stored where they fit.
-- Assumes nothing.
use Rattle.std.proofs.Common.{◌≡◌, min, arith, rules, tests}
use Rattle.runs.proofs.Room.{answer_runs, room_filled, answer_small, room_kept}
use Rattle.runs.proofs.range.Goals as goal

pub returns-then-most-runs : goal.returns-then-most-runs
returns-then-most-runs c =
    let out = c.args.out.now in
    let clip : c.min-end.result.0 ≡ min c.args.to.0 c.args.size.0 = search (rules, tests) in
    let counted = c.count_runs-runs.ensures in
    record {
      answer = answer_small _ _ _ _ _ _ out clip counted (omega arith);
      room = room_kept _ _ _ _ _ _ out clip counted (omega arith);
    }

pub returns : goal.returns
returns c =
    let out = c.args.out.now in
    let clip : c.min-end.result.0 ≡ min c.args.to.0 c.args.size.0 = search (rules, tests) in
    let counted = c.count_runs-runs.ensures in
    record {
      answer = answer_runs _ _ _ _ _ _ out clip counted (omega arith);
      room = room_filled _ _ _ _ _ _ out clip counted (omega arith) _ c.fill_runs.ensures;
    }
