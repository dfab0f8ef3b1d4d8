-- `look` meets its contract: entry 256 k + b of the rows stands at its place.
use native.Mathlib.Omega.{arith}
use Rattle.slicing.proofs.Entries.{slice_at}
use Rattle.slicing.proofs.Rows.look.Goals as goal

pub returns : goal.returns
returns c = slice_at c.args.self.now.filled c.args.after c.args.byte (omega arith) (omega arith)
