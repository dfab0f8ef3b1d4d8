-- The part lies within the header, which is whole where nothing is at fault.
use mathlib.Core.Path.{sym}
use native.Mathlib.Omega.{arith}
use Rattle.volume.proofs.Whole.{header-length}
use Rattle.volume.proofs.heading.handed_out.Goals as goal

pub slice_bounds-result-end : goal.slice_bounds-result-end
slice_bounds-result-end c = omega (arith, header-length _ (sym c.in-Ok.ensures))
