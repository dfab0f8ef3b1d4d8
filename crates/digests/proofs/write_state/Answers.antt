-- Words, number and held bytes stand one after the other.
use mathlib.Core.Path.{◌≡◌}
use lib.ListN.{length}
use borrow.Author.Rules.{rules}
use Rattle.digests.proofs.Crossing.{state_written}
use Rattle.digests.proofs.write_state.Goals as goal

pub returns : goal.returns
returns c =
    let long : length c.args.digest.held ≡ 64 = search rules in
    record {
      state = state_written c.args.state.now c.args.digest long c.requires c.write_words.ensures c.write_u64.ensures c.write_bytes.ensures;
      long = long;
    }
