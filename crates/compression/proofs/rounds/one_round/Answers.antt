-- The definition: the functions and sums that it names are the callees'.
use Rattle.compression.proofs.InTurns.{round_sums}
use Rattle.compression.proofs.rounds.one_round.Goals as goal

pub returns : goal.returns
returns c = round_sums c.args.v c.args.k c.args.w c.big_sigma_1.ensures c.ch.ensures c.big_sigma_0.ensures c.maj.ensures
