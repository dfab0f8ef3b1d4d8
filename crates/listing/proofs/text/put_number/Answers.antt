-- The word follows the number.
use Rattle.listing.proofs.Pieces.{then}
use Rattle.listing.proofs.text.put_number.Goals as goal

pub returns : goal.returns
returns c = then c.put_decimal-next.ensures c.put_word.ensures
