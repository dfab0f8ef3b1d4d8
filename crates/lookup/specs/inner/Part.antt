-- Inner page: what fetching stored bytes hands out, computed.
-- Joined to Fetching of claims/Fetching by what_lookup_names_fetch_hands_out.
use Rattle.std.specs.Prelude.{ℕ, cond, List, [], eqb}
use Rattle.std.proofs.Math.Option.{Option, none, some}
use Rattle.number.specs.Number.{part}
use Rattle.number.specs.Address.{Address, address_in}
use Rattle.lookup.specs.Fetch.{whichever, chosen, fetch_fault}

abbrev pub part_of : (offset len : ℕ) → Option (List ℕ) → List ℕ
part_of offset len none = []
part_of offset len (some volume) = part volume offset len

-- the part; empty on refusal
unfoldable pub fetch_part : (first second : List ℕ) (number offset len : ℕ) → List ℕ
fetch_part first second number offset len =
    cond (eqb (fetch_fault first second number offset len) 0) (part_of offset len (chosen first second number)) []

-- and where it begins, by where the two volumes do; on refusal at the beginning of the first
unfoldable pub fetch_address : (first second : List ℕ) (first_at second_at : Address) (number offset len : ℕ) → Address
fetch_address first second first_at second_at number offset len =
    cond (eqb (fetch_fault first second number offset len) 0)
    (address_in (whichever first second number first_at second_at first_at) offset)
    (address_in first_at 0)
