-- The header of a volume: 80 bytes.
use Rattle.std.specs.Prelude.{ℕ, ◌^◌, ◌<◌, ◌≡◌, List, [], ◌∷◌, ◌++◌, length, replicate}
use Rattle.number.specs.Number.{Bytes, le_bytes}
use Rattle.format.specs.Layout.{Field, field, sealed}

pub record Header : Type 0 where
  pub id : List ℕ
  pub sequence : ℕ
  pub previous : List ℕ

-- the first 17 bytes of every volume
abbrev pub magic : List ℕ
magic =
    0xD3 ∷ 0x48 ∷ 0x44 ∷ 0x52 ∷ 0x46 ∷ 0x53 ∷ 0x0D ∷ 0x0A ∷ 0x1A ∷ 0x0A ∷ 0x00 ∷ 0x48 ∷ 0x44 ∷ 0x52 ∷ 0x46 ∷ 0x53 ∷ 0x00 ∷ []

-- the fields before the CRC
abbrev pub header_layout : List Field
header_layout =
    field "magic" 17 ∷ field "version" 1 ∷ field "file system ID" 16 ∷ field "CRC algorithm" 1 ∷ field "hash algorithm" 1
    ∷ field "sequence number" 8 ∷ field "previous hash" 32 ∷ []

-- version and both algorithms are 0
unfoldable pub header_fields : Header → List ℕ
header_fields header = magic ++ (0 ∷ header.id ++ (0 ∷ 0 ∷ le_bytes 8 header.sequence ++ header.previous))

unfoldable pub header_image : Header → List ℕ
header_image header = sealed (header_fields header)

-- 32 zero bytes
abbrev pub no_hash : List ℕ
no_hash = replicate 32 0

pub record HeaderRules (header : Header) : Type 0 where
  pub fit : header.sequence < 256 ^ 8
  pub id-length : length header.id ≡ 16
  pub id_bytes : Bytes header.id
  pub hash-length : length header.previous ≡ 32
  pub hash_bytes : Bytes header.previous
  -- volume 0 comes after no other, and its hash is all zeros
  pub first : header.sequence ≡ 0 → header.previous ≡ no_hash
