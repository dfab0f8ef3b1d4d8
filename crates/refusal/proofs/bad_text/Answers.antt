-- The text is well-formed where its well-formed beginning is all of it.
use mathlib.Core.Path.{sym}
use mathlib.Core.List.{[]}
use native.Mathlib.Omega.{arith}
use Rattle.refusal.proofs.FirstBad.{one_good, stops}
use Rattle.refusal.proofs.bad_text.Goals as goal

pub returns-then-start-text : goal.returns-then-start-text
returns-then-start-text c = one_good _ (omega (arith, c.well_formed_len-start.ensures))

pub returns : goal.returns
returns c = rw c.well_formed_len-start.ensures (sym (stops _ [] (λ e. omega (arith, e, c.well_formed_len-start.ensures))))
