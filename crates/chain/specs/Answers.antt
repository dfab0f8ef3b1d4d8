-- What the check of a pair of volumes answers.
use Rattle.std.specs.Prelude.{Result, ⊤}
use Rattle.chain.specs.declared.PairFault.{PairFault}

-- the second follows the first, or why not
abbrev pub Pairing : Type 0
Pairing = Result ⊤ PairFault
