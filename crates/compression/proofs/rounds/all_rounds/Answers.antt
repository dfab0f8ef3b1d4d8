use Rattle.std.proofs.Common.{◌≡◌, ◌+◌, ◌*◌, take, length, arith, refl}
use lib.Seq.{length-take-le}
use Rattle.fips180.specs.Constants.{K}
use Rattle.fips180.specs.Hash.{extended}
use Rattle.fips180.proofs.Constants.{K-long}
use Rattle.compression.proofs.Extending.{words_first, words_there, schedule-length}
use Rattle.compression.proofs.InTurns.{rounds_turn, rounds_end}
use Rattle.compression.proofs.rounds.all_rounds.Goals as goal

pub loop-turn-init : goal.loop-turn-init
loop-turn-init c = record { words = words_first c.args.schedule.now (omega arith); left = refl }

pub loop-turn-preserved : goal.loop-turn-preserved
loop-turn-preserved c =
    let head = c.loop-turn in
    let room = c.args.schedule.now in
    let t = 8 * head.turn in
    let words = take 16 room in
    let more : 8 * (head.turn + 1) ≡ t + 8 = omega arith in
    let long : length words ≡ 16 = length-take-le 16 room (omega arith) in
    let all : length (extended 48 words) ≡ 64 = schedule-length room (omega arith) in
    let has = c.next_words.ensures words head.invariant.words in
    let there = words_there words _ t long (omega arith) has in
    let turn = rounds_turn head.v _ _ K (extended 48 words) _ t (omega (arith, K-long)) (omega arith) there c.eight_rounds-v.ensures head.invariant.left in
    record { words = rw more has; left = rw more turn }

pub returns : goal.returns
returns c =
    let head = c.loop-turn in
    rounds_end head.v _ K _ (8 * head.turn) (omega (arith, K-long)) head.invariant.left
