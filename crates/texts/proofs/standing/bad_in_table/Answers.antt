-- The names in what stands after the count are those of the table.
use mathlib.Core.Path.{ap, ap₂, ◌∙◌}
use Rattle.refusal.specs.inner.FirstBad.{first_bad}
use Rattle.links.specs.Links.{names}
use Rattle.texts.proofs.Table.{names_standing}
use Rattle.texts.proofs.standing.bad_in_table.Goals as goal

pub returns : goal.returns
returns c =
    let a = c.args in
    c.first_bad_name.ensures
    ∙ ap first_bad (ap₂ names c.part_of.ensures c.read_u64-count.ensures ∙ names_standing a.volume.now a.offset)
