-- Which volume follows which, and what the check of a pair answers.
--
-- It is a claim about the check of a library, and about a call on two volumes that is a parameter too; `ReadingOf` is the format's, and
-- `sha256` is FIPS 180-4's. Proved of ours, `pair_answer`, in proofs/Chained.antt.
use Rattle.std.specs.Prelude.{ℕ, suc, ◌≤◌, ◌≡◌, ◌↔◌, List, length, Err, Ok}
use Rattle.number.specs.Number.{Bytes}
use Rattle.fips180.specs.Hash.{sha256}
use Rattle.format.specs.Readings.{Reading, ReadingOf}
use Rattle.chain.specs.Answers.{Pairing}
use Rattle.chain.specs.declared.PairFault.TheVariants.{FirstRefused, SecondRefused, DoesNotFollow}
use Rattle.claims.specs.Library.{Library}
use Rattle.claims.specs.Demand3Reading.{IsAccepted}

-- The second volume follows the first. Both are volumes: they are within the limit and have a reading.
pub record FollowsOn (first second : List ℕ) : Type 0 where
  pub first_within : length first ≤ 16777216
  pub second_within : length second ≤ 16777216
  pub earlier : Reading
  pub later : Reading
  pub first_read : ReadingOf first earlier
  pub second_read : ReadingOf second later
  -- they are of one file system
  pub same_id : later.header.id ≡ earlier.header.id
  -- the second number is one above the first; where the first is the highest there is, none is
  pub next_number : later.header.sequence ≡ suc earlier.header.sequence
  -- and the second has the digest of all of the first
  pub hash_of_first : later.header.previous ≡ sha256 first

module _ (library : Library) where
  -- What each answer says of two volumes. The first volume's refusal comes first, then the second's, each as the check gives it.
  abbrev pub Says : (first second : List ℕ) → Pairing → Type 0
  Says first second (Err (FirstRefused rejected)) = library.check first ≡ Err rejected
  Says first second (Err (SecondRefused rejected)) = IsAccepted library first × (library.check second ≡ Err rejected)
  Says first second (Ok tt) = FollowsOn first second
  Says first second (Err DoesNotFollow) = IsAccepted library first × IsAccepted library second × (FollowsOn first second → ⊥)

  -- An answer is given exactly if what it says is so.
  abbrev pub PairClaim : (pair : (first second : List ℕ) → Pairing) → Type 0
  PairClaim pair =
      (first second : List ℕ) → Bytes first → Bytes second → (answer : Pairing) → (pair first second ≡ answer) ↔ Says first second answer
