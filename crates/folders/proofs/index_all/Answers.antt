-- The two loops make the two halves of the index.
use Rattle.std.proofs.Common.{arith}
use Rattle.folders.proofs.Heads.{long, heads_cut}
use Rattle.folders.proofs.index_all.Goals as goal

pub open_all-requires-clause-heads : goal.open_all-requires-clause-heads
open_all-requires-clause-heads c =
    let heads = c.chain_all-count.ensures.0 in
    heads_cut _ _ _ (long _ _ _ _ (omega (arith, c.chain_all-count.auto.heads)) heads) 0 heads

pub invariant_of-result : goal.invariant_of-result
invariant_of-result c =
    let chain = c.chain_all-count in
    let opened = c.open_all in
    record {
      indexed = record {
        paired = c.requires.parents_len_bound.1;
        next_each = omega (arith, chain.auto.nexts);
        first_each = omega (arith, opened.auto.firsts);
        chained = chain.ensures.1;
        opened = rw c.requires.parents_len_bound.1 at opened.ensures;
      };
      headed = heads_cut _ _ _ (long _ _ _ _ (omega (arith, chain.auto.heads)) chain.ensures.0) 0 chain.ensures.0;
    }
