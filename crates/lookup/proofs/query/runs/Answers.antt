-- The lookup's fault comes first; then the runs of the list of extents are counted and stored, where there is room.
use mathlib.Core.Path.{◌∙◌}
use native.Mathlib.Omega.{arith}
use Rattle.refusal.proofs.Numbers.{number_above_zero}
use Rattle.lookup.proofs.Clear.{file_of}
use Rattle.lookup.proofs.Answers.{runs_refused, room_kept, runs_numbered, room_filled}
use Rattle.lookup.proofs.query.runs.Goals as goal

pub returns-in-Err : goal.returns-in-Err
returns-in-Err c =
    record {
      answer = runs_refused _ _ _ c.in-Err.ensures (number_above_zero _) c.refusal_at.ensures _ _ _;
      room = room_kept _ _ _ c.in-Err.ensures (number_above_zero _) _ _ _;
    }

pub overflow_add-offset : goal.overflow_add-offset
overflow_add-offset c = omega (arith, (file_of _ _ _ c.in_default.ensures).whole)

pub list_of-list-requires : goal.list_of-list-requires
list_of-list-requires c = (file_of _ _ _ c.in_default.ensures).whole

pub range-requires : goal.range-requires
range-requires c = let f = file_of _ _ _ c.in_default.ensures in rw c.list_of-list.ensures (f.sound, (f.apart, f.few))

pub returns : goal.returns
returns c =
    let list = c.list_of-list.ensures in
    let size = c.read_u64.ensures in
    record {
      answer = c.ok_or.ensures.value ∙ rw c.from.ensures (runs_numbered _ _ _ c.in_default.ensures list size _ _ _ _ c.range.ensures.answer);
      room = room_filled _ _ _ c.in_default.ensures list size _ _ _ _ c.range.ensures.room;
    }
