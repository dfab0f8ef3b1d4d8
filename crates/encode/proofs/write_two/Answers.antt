-- The second part begins where the first ends.
use mathlib.Core.Path.{refl}
use native.Mathlib.Omega.{arith}
use lib.ListN.{length}
use Rattle.number.proofs.Put.{put_next}
use Rattle.encode.proofs.write_two.Goals as goal

pub returns : goal.returns
returns c =
    let a = c.args in
    put_next a.buf.now a.first.now a.second.now a.at (length a.first.now) refl (omega (arith, c.requires))
    c.write_bytes.ensures c.write_bytes-2.ensures
