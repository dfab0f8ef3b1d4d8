-- What the check of a pair of volumes answers, as numbers.
use Rattle.std.specs.Prelude.{Ok, Err, ℕ}
use Rattle.volume.specs.declared.Rejected.{Rejected}
use Rattle.chain.specs.Answers.{Pairing}
use Rattle.chain.specs.declared.PairFault.TheVariants.{FirstRefused, SecondRefused, DoesNotFollow}
use Rattle.exchange.specs.declared.PairNumbers.{PairNumbers}

-- a fault of a volume itself: 1 for the first, 2 for the second
abbrev pub fault_in : (which : ℕ) → Rejected → PairNumbers
fault_in which r =
    record { refusal = r.refusal.number; text = r.refusal.text; start = r.refusal.start; which = which; offset = r.offset }

-- 23: both are accepted, and the second does not follow the first
unfoldable pub pair_numbers : Pairing → PairNumbers
pair_numbers (Ok tt) = record { refusal = 0; text = 0; start = 0; which = 0; offset = 0 }
pair_numbers (Err (FirstRefused r)) = fault_in 1 r
pair_numbers (Err (SecondRefused r)) = fault_in 2 r
pair_numbers (Err DoesNotFollow) = record { refusal = 23; text = 0; start = 0; which = 0; offset = 0 }
