-- The test of two headers, from what its comparisons were given, and the three equations that it stands for. Assumes nothing.
use Rattle.std.specs.Prelude.{Ok}
use Prim.Native.Nat.{ℕ, suc}
use Prim.Native.String.{String}
use mathlib.Core.Path.{◌≡◌}
use mathlib.Core.Logic.{◌↔◌}
use mathlib.Core.Bool.{true}
use mathlib.Core.List.{List}
use borrow.Author.Tests.{eqb-true, eq-eqb, le-ltb}
use Rattle.number.proofs.Same.{and_true, same_equal, same_refl}
use Rattle.fips180.specs.Hash.{sha256}
use Rattle.sha256.specs.Feeding.{whole_answer}
use Rattle.volume.specs.Heading.{header_bytes, sequence_of, header_fault, field_answer}
use Rattle.volume.proofs.Passed.{header_passed}
use Rattle.chain.specs.Pairing.{follows}

module _ (volume : List ℕ) (sound : header_fault volume ≡ 0) where
  -- a sound header hands out its fields
  pub handed : (name : String) → field_answer name volume ≡ header_bytes name volume
  handed name = rw sound

  -- and a volume that has one is not too long for a digest
  pub digested : whole_answer volume ≡ Ok (sha256 volume)
  unfolding whole_answer
  digested = rw (le-ltb _ _ (header_passed volume sound).small)

-- the second volume follows the first
pub record Following (first second : List ℕ) : Type 0 where
  pub same_id : header_bytes "file system ID" second ≡ header_bytes "file system ID" first
  pub next_number : sequence_of second ≡ suc (sequence_of first)
  pub hash_of_first : header_bytes "previous hash" second ≡ sha256 first

pub follows_iff : (first second : List ℕ) → (follows first second ≡ true) ↔ Following first second
unfolding follows
follows_iff first second = (
  λ e.
      let a = and_true _ _ e in
      let b = and_true _ _ a.1 in
      record { same_id = same_equal _ _ a.0; next_number = eqb-true _ _ b.0; hash_of_first = same_equal _ _ b.1 },
  λ f. rw (f.same_id, f.hash_of_first, same_refl (header_bytes "file system ID" first), eq-eqb _ _ f.next_number) (same_refl (sha256 first)),
)
