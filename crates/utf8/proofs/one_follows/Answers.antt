-- Before the end the test is that of a range; past it nothing stands at the place.
use Rattle.std.proofs.Common.{◌≡◌, ◌≤◌, ◌<◌, length, get_or, false, arith, rules, tests}
use Rattle.std.proofs.lemmas.Grind.{common_steps}
use Rattle.utf8.specs.Grammar.{◌to◌}
use Rattle.utf8.specs.inner.Length.{in_range}
use Rattle.utf8.proofs.Reading.{where_octet}
use Rattle.utf8.proofs.one_follows.Goals as goal

pub returns : goal.returns
unfolding in_range
returns c =
    let text = c.args.text.now in
    let at = c.args.at in
    let inside : at < length text → c.is_some_and.result ≡ in_range (c.args.low to c.args.high) (get_or text at 0)
    = λ l. grind (arith, common_steps) in
    let outside : length text ≤ at → c.is_some_and.result ≡ false = λ l. search (rules, tests) in
    where_octet _ _ _ _ c.is_some_and.result inside outside
