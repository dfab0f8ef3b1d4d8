-- What the check of a pair of volumes answers: the first volume's refusal, else the second's, else whether the second follows the first.
use Rattle.std.specs.Prelude.{ℕ, suc, Bool, cond, ◌&&◌, List, eqb, Result, Ok, Err, ⊤}
use Rattle.number.specs.inner.Same.{same_bytes}
use Rattle.refusal.specs.Refusal.{refusal_of, Refusal}
use Rattle.fips180.specs.Hash.{sha256}
use Rattle.volume.specs.Heading.{header_bytes, sequence_of}
use Rattle.volume.specs.inner.Check.{check_answer}
use Rattle.volume.specs.Answers.{Verdict}
use Rattle.chain.specs.declared.PairFault.TheVariants.{FirstRefused, SecondRefused, DoesNotFollow}
use Rattle.chain.specs.Answers.{Pairing}

-- equal file system IDs, the second number one above the first, and the second's previous hash the digest of the whole first volume
unfoldable pub follows : (first second : List ℕ) → Bool
follows first second =
    same_bytes (header_bytes "file system ID" second) (header_bytes "file system ID" first)
    && (eqb (sequence_of second) (suc (sequence_of first)) && same_bytes (header_bytes "previous hash" second) (sha256 first))

-- the answer, by the verdicts on the two volumes and whether the second follows the first: the first's refusal, the second's, 23
unfoldable pub paired : (first second : Verdict) (following : Bool) → Pairing
paired (Err rejected) second following = Err (FirstRefused rejected)
paired (Ok earlier) (Err rejected) following = Err (SecondRefused rejected)
paired (Ok earlier) (Ok later) following = cond following (Ok tt) (Err DoesNotFollow)

unfoldable pub pair_answer : (first second : List ℕ) → Pairing
pair_answer first second = paired (check_answer first) (check_answer second) (follows first second)

-- the refusal, by the list of numbers: 0 where there is none, a volume's own, or 23
abbrev pub refusal_in : Pairing → Refusal
refusal_in (Ok tt) = refusal_of 0
refusal_in (Err (FirstRefused rejected)) = rejected.refusal
refusal_in (Err (SecondRefused rejected)) = rejected.refusal
refusal_in (Err DoesNotFollow) = refusal_of 23

-- and that which an answer stands for: with the number 0 where nothing is refused
abbrev pub refusal_told : Result ⊤ Refusal → Refusal
refusal_told (Ok tt) = refusal_of 0
refusal_told (Err refusal) = refusal
