-- It is a line of two words and two numbers.
use Rattle.listing.specs.Listing.{end_line}
use Rattle.listing.proofs.text.end_line.Goals as goal

pub last_line-requires : goal.last_line-requires
unfolding end_line
last_line-requires c = c.requires

pub returns : goal.returns
unfolding end_line
returns c = c.last_line.ensures
