-- Inner page: any part of the header, as one function hands it out for both fields.
use Rattle.std.specs.Prelude.{ℕ, cond, List, [], eqb}
use Rattle.number.specs.Number.{part}
use Rattle.number.specs.Address.{Address, address_in}
use Rattle.volume.specs.Heading.{header_fault}

abbrev pub part_answer : (volume : List ℕ) (offset len : ℕ) → List ℕ
part_answer volume offset len = cond (eqb (header_fault volume) 0) (part volume offset len) []

abbrev pub part_address : (volume : List ℕ) (whole : Address) (offset : ℕ) → Address
part_address volume whole offset = address_in whole (cond (eqb (header_fault volume) 0) offset 0)
