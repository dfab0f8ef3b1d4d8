use Rattle.std.proofs.Common.{◌≡◌, ◌-◌, length, ◌∙◌, arith}
use lib.ListN.{length-set}
use Rattle.counts.proofs.Counts.{within, follows_small, follows_more}
use Rattle.counts.proofs.count_level.Goals as goal

pub join_counts-requires : goal.join_counts-requires
join_counts-requires c =
    let o = c.loop-i in
    let w = within _ _ _ _ c.args.index.now.indexed in
    let behind = w.behind (o.i - 1) (omega arith) in (
      c.requires.small _ (omega arith) (w.first_place (o.i - 1) (omega arith)),
      follows_small _ _ _ _ _ _ o.invariant _ (omega arith) (w.next_place (o.i - 1) (omega arith)),
    )

pub loop-i-preserved : goal.loop-i-preserved
loop-i-preserved c =
    let o = c.loop-i in
    let w = within _ _ _ _ c.args.index.now.indexed in
    let long : length o.counts ≡ length c.args.counts.now = o.auto.counts ∙ simp length-set in
    follows_more _ _ _ _ _ _ o.invariant (o.i - 1) _ (omega arith) (omega arith) (omega arith) w c.join_counts.ensures
