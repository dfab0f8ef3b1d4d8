use mathlib.Core.Path.{◌≡◌, refl, ◌∙◌}
use native.Mathlib.Numerals.{add-one}
use native.Mathlib.Omega.{arith}
use lib.ListN.{length, length-set}
use lib.Seq.{paste-zero, paste-suc}
use Rattle.number.proofs.Put.{put_paste}
use Rattle.number.proofs.copy.Goals as goal

pub loop-i-init : goal.loop-i-init
loop-i-init c = (refl, paste-zero c.args.buf.now c.args.at c.args.bytes.now)

pub loop-i-preserved : goal.loop-i-preserved
loop-i-preserved c =
    let a = c.args in
    let turn = c.loop-i in (
      simp length-set turn.invariant.0,
      rw (add-one, turn.invariant.1) (paste-suc a.buf.now a.at a.bytes.now turn.i 0 (omega (arith, c.requires)) (omega arith)),
    )

pub returns : goal.returns
returns c =
    let a = c.args in
    let done : c.loop-i.i ≡ length a.bytes.now = omega arith in
    c.loop-i.invariant.1 ∙ rw done (put_paste a.buf.now a.at a.bytes.now (omega (arith, c.requires)))
