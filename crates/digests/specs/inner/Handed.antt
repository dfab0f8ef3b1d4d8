-- Inner page: the check of handing out a digest: 17, where fewer bytes are lent than it has.
-- Joined to whole_order, finish_order of digests/States by digest_handed.
use Rattle.std.specs.Prelude.{ℕ, List, [], ◌∷◌, ltb, length}
use Rattle.checks.specs.Checks.{Check, check}

abbrev pub hand_order : (out : List ℕ) → List Check
hand_order out = check (ltb (length out) 32) 17 ∷ []
