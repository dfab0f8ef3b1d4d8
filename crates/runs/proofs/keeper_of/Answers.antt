-- `runs::keeper_of` meets its contract: the first extent that keeps the position is its keeper. Assumes nothing.
use Rattle.std.proofs.Common.{◌≡◌, true, false, rules, tests}
use Rattle.std.proofs.lemmas.Iterator.{first_from_find, YieldsList-from_range}
use Rattle.extent.specs.Extents.{extent_at, extent_count}
use Rattle.runs.specs.Positions.{keeps}
use Rattle.runs.proofs.Keeper.{search_is}
use Rattle.runs.proofs.keeper_of.Goals as goal

pub returns : goal.returns
returns c =
    let list = c.args.extents.now.list.now in
    let position = c.args.position.0 in
    search_is list position c.find.result
    (first_from_find _ _ c.find.result (λ i. keeps (extent_at list i) position ≡ true) (λ i. keeps (extent_at list i) position ≡ false) c.find.ensures.ran (YieldsList-from_range 0 (extent_count list) _ (search rules) (search rules)) (λ x q k. search (rules, tests)) (λ x q k. search (rules, tests)))
