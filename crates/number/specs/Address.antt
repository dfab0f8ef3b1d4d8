-- Where lent bytes begin in memory. Two parts may hold the same bytes and stand apart, so a call that hands out a part says its
-- address too: with the bytes, whose number is its length, it is then that part and no other.
use Rattle.std.specs.Prelude.{ℕ, ◌+◌}

-- a block of memory and an offset in it: the `.ptr` of a reference
abbrev pub Address : Type 0
Address = ℕ × ℕ

-- where a part begins, by where the whole begins and the part's offset in it
abbrev pub address_in : (whole : Address) (offset : ℕ) → Address
address_in whole offset = (whole.0, whole.1 + offset)
