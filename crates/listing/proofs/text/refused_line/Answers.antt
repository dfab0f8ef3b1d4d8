-- It is a line of two words and two numbers.
use Rattle.listing.specs.Listing.{refused_line}
use Rattle.listing.proofs.text.refused_line.Goals as goal

pub last_line-requires : goal.last_line-requires
unfolding refused_line
last_line-requires c = c.requires

pub returns : goal.returns
unfolding refused_line
returns c = c.last_line.ensures
