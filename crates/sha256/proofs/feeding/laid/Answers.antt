use Rattle.std.proofs.Common.{arith, ap, ◌∙◌, ◌+◌, ◌-◌, length}
use Rattle.number.specs.Number.{put}
use Rattle.sha256.proofs.Endian.{part_written}
use Rattle.sha256.proofs.feeding.laid.Goals as goal

pub returns : goal.returns
returns c =
    let a = c.args in
    let copy = c.copy_from_slice in
    part_written a.held a.at (a.at + length a.part.now - a.at) copy.new.self (omega (arith, copy.ensures.len)) (omega arith) ∙ ap (put a.held a.at) copy.ensures.after
