-- A listing that invents its number of blocks writes another digit for a volume that has none. Assumes nothing.
use Prim.Native.Nat.{ℕ}
use mathlib.Core.Path.{◌≡◌, sym, ap, ◌∙◌}
use mathlib.Core.List.{List, ◌++◌}
use native.Mathlib.Omega.{arith}
use lib.ListN.{length, replicate, get_or}
use Rattle.number.specs.Number.{put}
use Rattle.format.specs.Readings.{volume_of}
use Rattle.listing.specs.Decimal.{decimal, digits_within}
use Rattle.listing.specs.Listing.{heading_line, end_line}
use Rattle.claims.specs.Listed.{ListingClaim, of_an_accepted_volume, Listed}
use Rattle.claims.specs.Wrong.{invents_listed_blocks}
use Rattle.claims.proofs.Bytes.{volume_bytes}
use Rattle.claims.proofs.Tried.{bare, first_rules, bare_keeps, bare_long, whole}

-- what is claimed of the volume, and its one text
of_bare : Listed invents_listed_blocks → ListingClaim invents_listed_blocks (volume_of bare)
of_bare claim = claim (volume_of bare) (volume_bytes bare first_rules tt)

text_is : (claim : Listed invents_listed_blocks) → (of_bare claim).text ≡ heading_line ++ end_line 80 0
text_is claim =
    sym ((of_bare claim).only _ (of_an_accepted_volume bare (omega (arith, bare_long)) (whole bare bare_keeps)))
    ∙ ap (λ (n : ℕ). heading_line ++ end_line n 0) bare_long

pub invents_listed_blocks_lem : Listed invents_listed_blocks → ⊥
unfolding put end_line decimal digits_within
invents_listed_blocks_lem claim =
    let room : length (of_bare claim).text ≡ 33 = ap length (text_is claim) in
    let wrote = ((of_bare claim).room_enough (replicate 100 0) (omega arith)).1 in
    let both = rw (text_is claim, bare_long) at wrote in
    let digit : ◌≡◌ {A = ℕ} 55 48 = ap (λ (text : List ℕ). get_or text 31 0) {x = put (replicate 100 0) 0 (heading_line ++ end_line 80 7)} both in
    omega arith
