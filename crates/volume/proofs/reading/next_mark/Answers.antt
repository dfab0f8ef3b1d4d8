-- The block has passed its checks, and one more can be counted.
use Rattle.volume.proofs.Passed.{read_passed}
use Rattle.volume.proofs.reading.next_mark.Goals as goal

pub end_at-end-requires : goal.end_at-end-requires
end_at-end-requires c = (read_passed _ _ c.requires).block.own

pub time_at-requires : goal.time_at-requires
time_at-requires c = (read_passed _ _ c.requires).block.more

pub mark_after-requires : goal.mark_after-requires
mark_after-requires c = (read_passed _ _ c.requires).counted
