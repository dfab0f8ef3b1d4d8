use Prim.Native.Nat.{◌<◌}
use mathlib.Core.Path.{◌≡◌}
use native.Mathlib.Omega.{arith}
use Rattle.folding.specs.inner.Folding.{added, delayed}
use Rattle.folding.proofs.Laying.{laid_all}
use Rattle.folding.proofs.Rest.{laying_late, late_more, length-late}
use Rattle.folding.proofs.add_delayed.Goals as goal

pub loop-t-init : goal.loop-t-init
loop-t-init c =
    let args = c.args in
    (omega arith, laying_late args.places args.window.now args.rest.now (omega arith) c.requires.1)

pub loop-t-preserved : goal.loop-t-preserved
loop-t-preserved c =
    let args = c.args in
    let turn = c.loop-t in
    let more : turn.t < 300 = omega arith in
    (omega arith, late_more args.places args.window.now args.rest.now (omega arith) c.requires.0 turn.rest turn.t turn.invariant.1 turn.invariant.0 more)

pub returns : goal.returns
returns c =
    let args = c.args in
    let turn = c.loop-t in
    let end : turn.t ≡ 300 = omega arith in
    let new = added args.rest.now (delayed args.places args.window.now) in
    let long = length-late args.places args.window.now args.rest.now (omega arith) c.requires.0 in
    laid_all new args.rest.now turn.rest 300 (rw end at turn.invariant.1) long (omega arith)
