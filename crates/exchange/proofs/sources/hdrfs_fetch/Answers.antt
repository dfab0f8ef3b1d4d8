-- Where nothing is refused, the number in the first header tells which volume has it.
use mathlib.Core.Path.{sym, ap, ◌∙◌}
use borrow.Author.Tests.{eq-eqb}
use Rattle.refusal.specs.Faults.{fault_number}
use Rattle.exchange.specs.Sources.{source_of}
use Rattle.exchange.proofs.Told.{told_by_the_first}
use Rattle.exchange.proofs.sources.hdrfs_fetch.Goals as goal

pub returns-in-Ok : goal.returns-in-Ok
unfolding source_of
returns-in-Ok c =
    let sound = sym c.fetch_refusal.ensures ∙ ap fault_number c.in-Ok.is in
    let zeros = c.default.ensures in
    rw (zeros.0, zeros.1.0, zeros.1.1.0, c.into.ensures, c.read_u64.ensures, eq-eqb _ _ sound, sound, told_by_the_first _ _ _ _ _ sound)
