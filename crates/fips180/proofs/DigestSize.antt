-- A digest is 32 bytes, whatever the message is. Assumes nothing.
use Prim.Native.Nat.{ℕ, zero, suc, ◌/◌, ◌%◌}
use mathlib.Core.Path.{◌≡◌, refl, ◌∙◌}
use mathlib.Core.List.{List, [], ◌∷◌, ◌++◌}
use native.Mathlib.Omega.{arith}
use lib.ListN.{length, length-append}
use Rattle.number.specs.Number.{Bytes}
use Rattle.number.proofs.Digits.{bytes-append}
use Rattle.fips180.specs.Padding.{be_bytes}
use Rattle.fips180.specs.Hash.{word_bytes, sha256}
use Rattle.fips180.specs.declared.Words.{Words}

pub length-be_bytes : (width value : ℕ) → length (be_bytes width value) ≡ width
unfolding be_bytes
length-be_bytes zero value = refl
length-be_bytes (suc width) value =
    length-append (be_bytes width (value / 256)) (value % 256 ∷ []) ∙ omega (arith, length-be_bytes width (value / 256))

one_byte : (value : ℕ) → Bytes (value % 256 ∷ [])
one_byte value zero = omega arith
one_byte value (suc i) = omega arith

be_bytes-bytes : (width value : ℕ) → Bytes (be_bytes width value)
unfolding be_bytes
be_bytes-bytes zero value = λ i. omega arith
be_bytes-bytes (suc width) value = bytes-append (be_bytes width (value / 256)) (value % 256 ∷ []) (be_bytes-bytes width (value / 256)) (one_byte value)

word-length : (words : Words) → length (word_bytes words) ≡ 32
unfolding word_bytes
word-length words = simp (length-append, length-be_bytes)

-- bytes, under a name by which the lists are found
record Held (bytes : List ℕ) : Type 0 where
  pub each : Bytes bytes

word : (value : ℕ) → Held (be_bytes 4 value)
word value = record { each = be_bytes-bytes 4 value }

join : {a b : List ℕ} → Held a → Held b → Held (a ++ b)
join {a} {b} first rest = record { each = bytes-append a b first.each rest.each }

word_bytes_lem : (words : Words) → Held (word_bytes words)
unfolding word_bytes
word_bytes_lem words =
    join (word words.a) (join (word words.b) (join (word words.c) (join (word words.d)
    (join (word words.e) (join (word words.f) (join (word words.g) (word words.h)))))))

module _ (message : List ℕ) where
  pub digest-length : length (sha256 message) ≡ 32
  unfolding sha256
  digest-length = word-length _

  pub digest_bytes : Bytes (sha256 message)
  unfolding sha256
  digest_bytes = (word_bytes_lem _).each
