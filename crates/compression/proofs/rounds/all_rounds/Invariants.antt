-- The rounds that are left always end at the same words, and the words that they take are those of the whole schedule.
use Rattle.std.proofs.Common.{◌≡◌, ◌*◌, take, drop}
use Rattle.fips180.specs.Constants.{K}
use Rattle.fips180.specs.Hash.{extended, rounds}
use Rattle.compression.specs.inner.HasWords.{HasWords}
use Rattle.compression.proofs.rounds.all_rounds.Given as goal

abbrev pub invariant-loop-turn : goal.invariant-loop-turn
invariant-loop-turn l =
    let all = extended 48 (take 16 l.initial.schedule) in record {
      words : HasWords (take 16 l.initial.schedule) (8 * l.turn) l.schedule;
      left : rounds l.v (drop (8 * l.turn) K) (drop (8 * l.turn) all) ≡ rounds l.initial.v K all;
    }
