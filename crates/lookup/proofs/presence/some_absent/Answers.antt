-- The test is asked of each extent.
use Rattle.std.proofs.Common.{ℕ, ◌∙◌, rules, tests}
use Rattle.std.proofs.lemmas.Iterator.{YieldsList-from_range}
use Rattle.std.proofs.lemmas.Iterator.Search.{any_from_yields_List}
use Rattle.extent.specs.Extents.{extent_at, extent_count}
use Rattle.extent.proofs.Scans.{any_over}
use Rattle.lookup.specs.Lookup.{is_absent, some_absent}
use Rattle.lookup.proofs.presence.some_absent.Goals as goal

pub returns : goal.returns
unfolding some_absent
returns c =
    let list = c.args.extents.now.list.now in
    let absent = λ (i : ℕ). is_absent c.args.lengths.now (extent_at list i) in
    any_from_yields_List absent _ _ _ c.any.ensures.ran (YieldsList-from_range 0 (extent_count list) _ (search rules) (search rules)) (λ x b q k. search (rules, tests)) ∙ any_over absent (extent_count list)
