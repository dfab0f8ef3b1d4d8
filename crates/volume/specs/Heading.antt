-- What reading a header answers.
use Rattle.std.specs.Prelude.{ℕ, Bool, not, cond, ◌&&◌, List, [], ◌∷◌, ltb, eqb, length, None, Ok, Err}
use Prim.Native.String.{String}
use Rattle.number.specs.Number.{number_at, part}
use Rattle.number.specs.inner.Same.{same_bytes}
use Rattle.number.specs.Address.{Address, address_in}
use Rattle.checks.specs.Checks.{Check, check, first_fault}
use Rattle.refusal.specs.Refusal.{refusal_of}
use Rattle.format.specs.Layout.{start_of, width_of, total, widths_in}
use Rattle.format.specs.Headers.{header_layout, magic, no_hash}
use Rattle.block.specs.Order.{volume_limit, checksum_wrong}
use Rattle.volume.specs.declared.Bookmark.{Bookmark}
use Rattle.volume.specs.Answers.{HeaderAnswer}

-- the bytes of a field of the header, by its name, and the number that they make
abbrev pub header_bytes : (name : String) (volume : List ℕ) → List ℕ
header_bytes name volume = part volume (start_of name header_layout) (width_of name header_layout)

abbrev pub header_number : (name : String) (volume : List ℕ) → ℕ
header_number name volume = number_at volume (start_of name header_layout) (width_of name header_layout)

abbrev pub sequence_of : (volume : List ℕ) → ℕ
sequence_of volume = header_number "sequence number" volume

-- 6: volume 0 with a previous hash that is not 32 zero bytes
abbrev pub hash_wrong : (sequence : ℕ) (previous : List ℕ) → Bool
hash_wrong sequence previous = eqb sequence 0 && not (same_bytes previous no_hash)

-- the checks of the fields of a header: 3, 4 (version, CRC algorithm, hash algorithm), 5, 6
abbrev pub field_order : (volume : List ℕ) → List Check
field_order volume =
    check (not (same_bytes (header_bytes "magic" volume) magic)) 3
    ∷ check (not (eqb (header_number "version" volume) 0)) 4
    ∷ check (not (eqb (header_number "CRC algorithm" volume) 0)) 4
    ∷ check (not (eqb (header_number "hash algorithm" volume) 0)) 4
    ∷ check (checksum_wrong volume 0 (total (widths_in header_layout))) 5
    ∷ check (hash_wrong (sequence_of volume) (header_bytes "previous hash" volume)) 6
    ∷ []

-- the checks of a header: 1, 2, and those of its fields
abbrev pub header_order : (volume : List ℕ) → List Check
header_order volume =
    check (ltb volume_limit (length volume)) 1
    ∷ check (ltb (length volume) 80) 2
    ∷ field_order volume

unfoldable pub header_fault : (volume : List ℕ) → ℕ
header_fault volume = first_fault (header_order volume)

-- the bookmark after a header: offset 80, no last time yet, no block before it, and in every volume but volume 0 a table is due
abbrev pub first_mark : (sequence : ℕ) → Bookmark
first_mark sequence = record { offset = 80; due = ltb 0 sequence; last = None; number = 0 }

unfoldable pub header_answer : (volume : List ℕ) → HeaderAnswer
header_answer volume =
    cond (eqb (header_fault volume) 0)
    (Ok (record { sequence = sequence_of volume; next = first_mark (sequence_of volume) }))
    (Err (refusal_of (header_fault volume)))

-- the bytes of a field that a sound header hands out; nothing where it is refused
abbrev pub field_answer : (name : String) (volume : List ℕ) → List ℕ
field_answer name volume = cond (eqb (header_fault volume) 0) (header_bytes name volume) []

-- and where they begin, by where the volume does; the empty part begins at the volume's beginning
abbrev pub field_address : (name : String) (volume : List ℕ) (whole : Address) → Address
field_address name volume whole = address_in whole (cond (eqb (header_fault volume) 0) (start_of name header_layout) 0)
