-- What the calls answer. A state is taken as it stands, also one that a caller makes up: eight words, the number of bytes fed so far, and
-- 64 held bytes, of which as many are in use as that number's remainder by 64.
use Rattle.std.specs.Prelude.{ℕ, ◌+◌, ◌%◌, Bool, cond, ltb, eqb, Result, Ok, Err, length, take, set, replicate}
use mathlib.Core.List.{List, ◌++◌, foldl}
use Rattle.fips180.specs.Constants.{H0}
use Rattle.fips180.specs.Padding.{padding, blocks}
use Rattle.fips180.specs.Hash.{hashed, word_bytes, sha256}
use Rattle.refusal.specs.declared.Fault.{Fault}
use Rattle.refusal.specs.declared.Fault.TheVariants.{TooLarge}
use Rattle.sha256.specs.declared.Digest.{Digest}

-- a new state: nothing is fed, and the held bytes are zeros
unfoldable pub new : Digest
new = record { words = H0; fed = 0; held = replicate 64 0 }

-- A byte is fed: it is held in the first place that is not in use, and the others hold what they held. A block that is full is hashed.
unfoldable pub feed_byte : Digest → (byte : ℕ) → Digest
feed_byte state byte =
    let held = set state.held (state.fed % 64) byte in
    record {
      words = cond (eqb (state.fed % 64) 63) (hashed state.words held) state.words;
      fed = state.fed + 1;
      held = held;
    }

-- more bytes in all than a volume may have
abbrev pub too_many : (count : ℕ) → Bool
too_many count = ltb 16777216 count

-- feeding a part, byte by byte
unfoldable pub feed_answer : Digest → (part : List ℕ) → Result Digest Fault
feed_answer state part = cond (too_many (state.fed + length part)) (Err TooLarge) (Ok (foldl feed_byte state part))

-- the digest of a state: what is in use of the held bytes is hashed with the padding of as many bytes as were fed
unfoldable pub digest_of : Digest → List ℕ
digest_of state = word_bytes (foldl hashed state.words (blocks (take (state.fed % 64) state.held ++ padding state.fed)))

-- finishing
unfoldable pub finish_answer : Digest → Result (List ℕ) Fault
finish_answer state = cond (too_many state.fed) (Err TooLarge) (Ok (digest_of state))

-- the digest of bytes in one call
unfoldable pub whole_answer : (bytes : List ℕ) → Result (List ℕ) Fault
whole_answer bytes = cond (too_many (length bytes)) (Err TooLarge) (Ok (sha256 bytes))
