-- Past the end no block stands, and so no text.
use mathlib.Core.Path.{◌∙◌, ap, sym}
use native.Mathlib.Omega.{arith}
use Rattle.refusal.specs.inner.FirstBad.{first_bad}
use Rattle.texts.proofs.Table.{nothing_past}
use Rattle.texts.proofs.standing.bad_at.Goals as goal

pub returns-then-volume-offset : goal.returns-then-volume-offset
returns-then-volume-offset c =
    let a = c.args in
    c.no_text.ensures ∙ ap first_bad (sym (nothing_past a.volume.now a.offset (omega arith)))
