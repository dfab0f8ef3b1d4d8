-- Digests into lent bytes: the bytes of a state, what the calls answer, and what the lent bytes then hold.
use Rattle.std.specs.Prelude.{ℕ, ◌+◌, ◌≡◌, cond, List, [], ◌∷◌, ◌++◌, eqb, ltb, length}
use Rattle.number.specs.Number.{part, number_at, put}
use Rattle.checks.specs.Checks.{Check, check, first_fault}
use Rattle.format.specs.Layout.{Fit, laid}
use Rattle.sha256.specs.Feeding.{too_many}
use Rattle.fips180.specs.declared.Words.{Words}
use Rattle.sha256.specs.declared.Digest.{Digest}

-- The bytes of a state: eight words of 4 bytes and the number of bytes fed in 8, all little-endian, then the 64 held bytes.

abbrev pub state_widths : List ℕ
state_widths = 4 ∷ 4 ∷ 4 ∷ 4 ∷ 4 ∷ 4 ∷ 4 ∷ 4 ∷ 8 ∷ []

abbrev pub state_numbers : Digest → List ℕ
state_numbers state =
    let words = state.words in
    words.a ∷ words.b ∷ words.c ∷ words.d ∷ words.e ∷ words.f ∷ words.g ∷ words.h ∷ state.fed ∷ []

unfoldable pub state_bytes : Digest → List ℕ
state_bytes state = laid state_widths (state_numbers state) ++ state.held

-- the words that stand at the beginning of some bytes
unfoldable pub words_of : List ℕ → Words
words_of bytes = record {
  a = number_at bytes 0 4;
  b = number_at bytes 4 4;
  c = number_at bytes 8 4;
  d = number_at bytes 12 4;
  e = number_at bytes 16 4;
  f = number_at bytes 20 4;
  g = number_at bytes 24 4;
  h = number_at bytes 28 4;
}

-- the state that stands there: any bytes are taken for one, also those that a caller makes up
unfoldable pub state_of : List ℕ → Digest
state_of bytes = record { words = words_of bytes; fed = number_at bytes 32 8; held = part bytes 40 64 }

-- A state whose numbers fit their widths, with 64 held bytes. Every state in the code is sized by its type.
pub record SizedState (state : Digest) : Type 0 where
  pub fit : Fit state_widths (state_numbers state)
  pub long : length state.held ≡ 64

-- The checks of each call, in order. 17: fewer bytes are lent than the state or the digest has; 1: more bytes in all than a volume
-- may have.

-- whole: 1, 17
abbrev pub whole_order : (bytes out : List ℕ) → List Check
whole_order bytes out = check (too_many (length bytes)) 1 ∷ check (ltb (length out) 32) 17 ∷ []

-- start: 17
abbrev pub start_order : (state : List ℕ) → List Check
start_order state = check (ltb (length state) 104) 17 ∷ []

-- feed: 17, 1
abbrev pub feed_order : (state part : List ℕ) → List Check
feed_order state part = check (ltb (length state) 104) 17 ∷ check (too_many ((state_of state).fed + length part)) 1 ∷ []

-- finish: 17 (the state), 1, 17 (the digest)
abbrev pub finish_order : (state out : List ℕ) → List Check
finish_order state out =
    check (ltb (length state) 104) 17 ∷ check (too_many (state_of state).fed) 1 ∷ check (ltb (length out) 32) 17 ∷ []

-- what lent bytes hold after a call: new bytes over the first of them, or what they held where a check is at fault
unfoldable pub laid_over : (checks : List Check) (new old : List ℕ) → List ℕ
laid_over checks new old = cond (eqb (first_fault checks) 0) (put old 0 new) old
