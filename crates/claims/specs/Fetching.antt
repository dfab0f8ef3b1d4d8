-- What lookup names, fetch hands out.
--
-- Demand 2 says of a stored position which volume has its byte, and where. Here: with that volume lent, a fetch from there hands
-- out this byte, and a fetch of a run hands out the bytes of the run's positions, one by one. Before it, when a fetch is refused,
-- and what it hands out: the very part of whichever volume has the number.
--
-- `fetch_fault` is the answer of fetch_refusal, and `fetch_part` and `fetch_address` are the bytes of the part that fetch hands out
-- and where it begins: these calls have the equations in their contracts. `position_answer`, `runs_answer` and `runs_room` are as in
-- Demand2.antt. Proved in proofs/Fetching.antt.
use Rattle.std.specs.Prelude.{ℕ, ◌+◌, ◌*◌, ◌≤◌, ◌<◌, ◌≡◌, ◌↔◌, List, [], ◌∷◌, length, get_or, Ok}
use Rattle.number.specs.Number.{Bytes, part}
use Rattle.number.specs.Address.{Address, address_in}
use Rattle.format.specs.Headers.{Header, header_image, HeaderRules}
use Rattle.lookup.specs.inner.Answers.{position_answer, runs_answer, runs_room}
use Rattle.lookup.specs.Fetch.{fetch_fault}
use Rattle.lookup.specs.inner.Part.{fetch_part, fetch_address}
use Rattle.lookup.specs.Answers.{PositionAnswer as Answer}
use Rattle.lookup.specs.declared.Position.TheVariants.{Stored}
use Rattle.claims.specs.Demand2.{TrueLengths}

-- Bytes that are lent: which, and where they begin.
pub record Lent : Type 0 where
  pub bytes : List ℕ
  pub at : Address

-- A part of them.
abbrev pub lent_part : (whole : Lent) (offset len : ℕ) → Lent
lent_part whole offset len = record { bytes = part whole.bytes offset len; at = address_in whole.at offset }

-- The number of a fetch's refusal, or 0, and the part that it hands out.
abbrev pub refusal : (first second : Lent) (number offset len : ℕ) → ℕ
refusal first second number offset len = fetch_fault first.bytes second.bytes number offset len

abbrev pub fetched : (first second : Lent) (number offset len : ℕ) → Lent
fetched first second number offset len =
    record {
      bytes = fetch_part first.bytes second.bytes number offset len;
      at = fetch_address first.bytes second.bytes first.at second.at number offset len;
    }

-- A volume with this number by the format: it is within the limit, and the image of a header that keeps the rules stands first
-- in it.
pub record HasNumber (volume : List ℕ) (number : ℕ) : Type 0 where
  pub small : length volume ≤ 16777216
  pub header : Header
  pub keeps : HeaderRules header
  pub stands : part volume 0 80 ≡ header_image header
  pub numbered : header.sequence ≡ number

-- Of two volumes, whichever has the number; the first if both do.
pub data Whichever (first second : Lent) (number : ℕ) : (taken : Lent) → Type 0 where
  the_first : {other : ℕ} → HasNumber first.bytes number → HasNumber second.bytes other → Whichever first second number first
  the_second : {other : ℕ} → HasNumber first.bytes other → (other ≡ number → ⊥) → HasNumber second.bytes number
      → Whichever first second number second

-- What is claimed of a fetch.
pub record FetchClaim (first second : Lent) (number offset len : ℕ) : Type 0 where
  -- it is not refused if one of the two volumes has the number and the range lies within that one, and only then
  pub not_refused_iff_it_is_there : (refusal first second number offset len ≡ 0)
      ↔ ((taken : Lent) × Whichever first second number taken × (offset + len ≤ length taken.bytes))
  -- it then hands out the very part
  pub the_very_part : (taken : Lent) → Whichever first second number taken → offset + len ≤ length taken.bytes
      → fetched first second number offset len ≡ lent_part taken offset len
  -- a refused fetch hands out an empty part of the first volume
  pub empty_otherwise : (refusal first second number offset len ≡ 0 → ⊥)
      → fetched first second number offset len ≡ lent_part first 0 0

-- The answer of a lookup for a byte that is stored at this place of the volume with this number.
abbrev pub stored_answer : (number place : ℕ) → Answer
stored_answer number place = Ok (Stored (record { volume = number; offset = record { 0 = place } }))

-- The file's byte at a position: the lookup of the position names a volume and a place in it, and there it stands.
pub data FileByte (volume : List ℕ) (offset : ℕ) (lengths : List ℕ) (volumes : ℕ → List ℕ) (position : ℕ) : (byte : ℕ) → Type 0 where
  stands_where_named : {number place : ℕ} → position_answer volume offset lengths position ≡ stored_answer number place
      → place < length (volumes number)
      → FileByte volume offset lengths volumes position (get_or (volumes number) place 0)

-- Of the two volumes that are lent, the one with this number has the bytes of the volume with this number.
abbrev pub Lends : (volumes : ℕ → List ℕ) (first second : Lent) (number : ℕ) → Type 0
Lends volumes first second number = (taken : Lent) × Whichever first second number taken × (taken.bytes ≡ volumes number)

-- The bytes that are handed out are the file's bytes at `len` positions from `start` on, one by one.
pub record HandsOut (volume : List ℕ) (offset : ℕ) (lengths : List ℕ) (volumes : ℕ → List ℕ) (start len : ℕ) (bytes : List ℕ) : Type 0 where
  pub long : length bytes ≡ len
  pub each : (k : ℕ) → k < len → FileByte volume offset lengths volumes (start + k) (get_or bytes k 0)

-- What is claimed of the places that a lookup names, where the lengths lent to it are those of the volumes.
pub record NamedClaim (volume : List ℕ) (offset : ℕ) (lengths : List ℕ) (volumes : ℕ → List ℕ) : Type 0 where
  -- a stored position: the fetch of one byte from there is not refused, and hands out that byte
  pub the_byte_of_a_position : (position number place : ℕ) (first second : Lent)
      → position_answer volume offset lengths position ≡ stored_answer number place
      → Lends volumes first second number
      → (refusal first second number place 1 ≡ 0)
      × (place < length (volumes number))
      × ((fetched first second number place 1).bytes ≡ get_or (volumes number) place 0 ∷ [])
  -- a run of kind 1 in the list that a range query filled: the fetch of its length from its offset on is not refused, and hands out
  -- the bytes of its positions
  pub the_bytes_of_a_run : (from to : ℕ) (out : List ℕ) (count index start len number place : ℕ) (first second : Lent)
      → runs_answer volume offset lengths from to (length out) ≡ Ok count
      → index < count
      → part (runs_room volume offset lengths from to out) (5 * index) 5 ≡ start ∷ len ∷ 1 ∷ number ∷ place ∷ []
      → Lends volumes first second number
      → (refusal first second number place len ≡ 0)
      × HandsOut volume offset lengths volumes start len (fetched first second number place len).bytes

-- What lookup names, fetch hands out.
pub record Fetching : Type 0 where
  pub of_every_fetch : (first second : Lent) (number offset len : ℕ) → Bytes first.bytes → Bytes second.bytes
      → FetchClaim first second number offset len
  pub of_what_lookup_names : (volume : List ℕ) (offset : ℕ) (lengths : List ℕ) (volumes : ℕ → List ℕ) → Bytes volume
      → TrueLengths lengths volumes → NamedClaim volume offset lengths volumes
