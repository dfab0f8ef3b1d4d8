-- The octet at the place is a run of one; the blocks of both sizes are runs, one after the other.
use native.Mathlib.Omega.{arith}
use Rattle.utf8.proofs.Ascii.{run_one, run_join}
use Rattle.utf8.proofs.skip_ascii.Goals as goal

pub returns-then-at-ne0 : goal.returns-then-at-ne0
returns-then-at-ne0 c = let st = c in (omega arith, run_one _ _ st.requires.0 st.requires.1)

pub returns-then-far-at : goal.returns-then-far-at
returns-then-far-at c =
    (omega arith, run_one _ _ c.requires.0 c.requires.1)

pub returns : goal.returns
returns c =
    let near = c.skip_blocks-near.ensures in
    let far = c.skip_blocks-far.ensures in
    (omega (arith, near.rising, far.rising, c.if-far-at.false), run_join _ _ _ _ near far)
