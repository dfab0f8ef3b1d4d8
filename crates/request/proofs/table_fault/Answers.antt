-- The tests are the checks in their order. Bytes that are exactly so few links are fewer than 2^32.
use native.Mathlib.Omega.{arith}
use borrow.Author.Rules.{rules}
use Rattle.checks.proofs.Laws.{decided}
use Rattle.checks.proofs.Tests.{walks}
use Rattle.links.proofs.Starts.{start_bound}
use Rattle.request.proofs.table_fault.Goals as goal

pub returns-then-count-gt-MAX_LINKS-clause-fault : goal.returns-then-count-gt-MAX_LINKS-clause-fault
returns-then-count-gt-MAX_LINKS-clause-fault c = decided (search walks depth 12)

pub returns-then-links_len-links-clause-fault : goal.returns-then-links_len-links-clause-fault
returns-then-links_len-links-clause-fault c = decided (search walks depth 12)

pub returns-then-some_name_not_text-clause-fault : goal.returns-then-some_name_not_text-clause-fault
returns-then-some_name_not_text-clause-fault c = decided (search walks depth 12)

pub some_link_twice-requires : goal.some_link_twice-requires
some_link_twice-requires c =
    let bound = start_bound c.args.links.now (λ i. (c.type_inv.links i).fits) c.args.count in
    (search rules, (search rules, omega (arith, bound)))

pub returns-then-some_link_twice-clause-fault : goal.returns-then-some_link_twice-clause-fault
returns-then-some_link_twice-clause-fault c = decided (search walks depth 12)

pub returns-clause-fault : goal.returns-clause-fault
returns-clause-fault c = decided (search walks depth 12)
