-- `runs::locate` meets its contract: the keeper of the position says where it is stored. Assumes nothing.
use Rattle.std.proofs.Common.{ap, ◌∙◌, sym}
use Rattle.format.specs.declared.Extent.{Extent}
use Rattle.runs.specs.inner.Stored.{stored_at}
use Rattle.runs.proofs.Keeper.{place_hole, place_is}
use Rattle.runs.proofs.locate.Goals as goal

pub returns-in_err-index : goal.returns-in_err-index
returns-in_err-index c = c.from_residual.ensures ∙ sym (place_hole _ _ c.in_err-index.ensures)

pub returns : goal.returns
returns c =
    let same = c.get-e.ensures.value in
    place_is c.args.list.now c.in_ok-index.index _ _ _ c.in_ok-index.ensures.1.1
    (ap (λ (e : Extent). e.volume) same)
    (c.stored_at.ensures ∙ ap (λ (e : Extent). stored_at e c.args.position.0) same)
