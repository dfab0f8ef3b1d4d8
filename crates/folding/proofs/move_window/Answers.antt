use mathlib.Core.Path.{sym}
use native.Mathlib.Omega.{arith}
use lib.Seq.{length-take-le}
use Rattle.folding.proofs.Window.{moved}
use Rattle.folding.proofs.move_window.Goals as goal

pub slice_bounds-copy_from_slice-end-2 : goal.slice_bounds-copy_from_slice-end-2
slice_bounds-copy_from_slice-end-2 c =
    let front = c.split_at_mut-front.ensures.front_len in
    sym (length-take-le 300 c.split_at_mut-front.result.0.now (omega arith))

pub copy_from_slice-requires : goal.copy_from_slice-requires
copy_from_slice-requires c =
    let front = c.split_at_mut-front.ensures.front_len in
    let back = c.split_at_mut-front.ensures.back_len in
    omega (arith, length-take-le 300 c.split_at_mut-front.result.0.now (omega arith))

pub returns : goal.returns
returns c =
    let cut = c.split_at_mut-front in
    moved c.args.buffer.now _ _ _ cut.ensures.front_len (omega arith) cut.ensures.back c.copy_from_slice.ensures.after
