-- A room of 65,536 bytes is long enough for every text, so the answer is its length and never the refusal.
use Prim.Native.Nat.{ℕ, ◌+◌, ◌≤◌}
use mathlib.Core.Path.{◌≡◌, sym, ap, ◌∙◌}
use mathlib.Core.List.{List}
use native.Mathlib.Omega.{arith}
use lib.ListN.{length, take}
use Rattle.io.specs.Counts.{IsPrefixLen}
use Rattle.number.specs.Number.{put}
use Rattle.number.proofs.Put.{length-put, part_put}
use Rattle.listing.specs.Listing.{list_limit}
use Rattle.listing.specs.inner.Text.{listing}
use Rattle.listing.proofs.Room.{listing_short}

pub written : (volume old new : List ℕ) (len : ℕ) → list_limit ≤ length old → new ≡ put old 0 (listing volume)
    → len ≡ length (listing volume) → IsPrefixLen len new × (take len new ≡ listing volume)
written volume old new len long e same =
    let fits : 0 + length (listing volume) ≤ length old = omega (arith, listing_short volume) in
    let text : take len new ≡ listing volume = rw (same, e) (part_put old 0 (listing volume) fits) in
    ((omega (arith, listing_short volume, ap length e, length-put old 0 (listing volume)), same ∙ sym (ap length text)), text)
