-- Wrong checks of a pair answer for the header alone and a volume after it what the claim does not allow. Assumes nothing.
use Rattle.std.specs.Prelude.{Ok, Err}
use Prim.Native.Nat.{ℕ, suc, ◌≤◌}
use mathlib.Core.Path.{◌≡◌, refl, sym, ap, ◌∙◌}
use mathlib.Core.Bool.{Bool, true, cond}
use mathlib.Core.List.{List}
use native.Mathlib.Omega.{arith}
use lib.ListN.{length, replicate, get_or, length-append}
use borrow.Author.Tests.{eq-eqb}
use Rattle.number.specs.Number.{Bytes, le_bytes}
use Rattle.number.proofs.Same.{same_refl}
use Rattle.fips180.specs.Hash.{sha256}
use Rattle.fips180.proofs.DigestSize.{digest-length, digest_bytes}
use Rattle.format.specs.Layout.{laid, sealed}
use Rattle.format.specs.Blocks.{link_image, link_list, image}
use Rattle.format.specs.Headers.{Header, HeaderRules, no_hash, header_image}
use Rattle.format.specs.Readings.{Reading, images, volume_of, ReadingOf}
use Rattle.volume.specs.Heading.{sequence_of}
use Rattle.volume.proofs.HeaderImage.{header_at, length-header}
use Rattle.chain.specs.Pairing.{paired}
use Rattle.chain.proofs.Following.{Following}
use Rattle.chain.specs.declared.PairFault.TheVariants.{DoesNotFollow}
use Rattle.claims.specs.Library.{ours}
use Rattle.claims.specs.Chained.{FollowsOn, PairClaim}
use Rattle.claims.specs.Wrong.{pairing, any_id, any_hash, no_pair}
use Rattle.claims.proofs.Bytes.{all_small, small_bytes, zeros_bytes, volume_bytes}
use Rattle.claims.proofs.Chained.{header_shown, by_the_bytes, accepted}
use Rattle.claims.proofs.Tried.{bare, first_rules, bare_keeps, bare_long, whole, tabled, tabled_keeps, link_bytes}

-- The header alone comes first.
abbrev before : List ℕ
before = volume_of bare

before_bytes : Bytes before
before_bytes = volume_bytes bare first_rules tt

before_small : length before ≤ 16777216
before_small = omega (arith, bare_long)

before_shown : header_at before ≡ bare.header
before_shown = header_shown before bare before_small (whole bare bare_keeps)

-- Volume 1 comes after it, with any ID and hash.
abbrev after : (id previous : List ℕ) → Reading
after id previous = record { header = record { id = id; sequence = 1; previous = previous }; blocks = tabled.blocks }

abbrev next : (id previous : List ℕ) → List ℕ
next id previous = volume_of (after id previous)

table_long : length (images tabled.blocks) ≡ 31
unfolding images image sealed laid le_bytes link_list link_image
table_long = refl

record Sized (id previous : List ℕ) : Type 0 where
  pub id-length : length id ≡ 16
  pub id_bytes : Bytes id
  pub hash-length : length previous ≡ 32
  pub hash_bytes : Bytes previous

module _ (id previous : List ℕ) (sized : Sized id previous) where
  rules : HeaderRules (after id previous).header
  rules =
      record {
        fit = omega arith;
        id-length = sized.id-length;
        id_bytes = sized.id_bytes;
        hash-length = sized.hash-length;
        hash_bytes = sized.hash_bytes;
        first = λ e. absurd (omega arith);
      }

  read : ReadingOf (next id previous) (after id previous)
  read =
      whole (after id previous)
      (record { header = rules; each = tabled_keeps.each; table = tabled_keeps.table; times = tabled_keeps.times })

  after_bytes : Bytes (next id previous)
  after_bytes = volume_bytes (after id previous) rules (link_bytes, tt)

  after_small : length (next id previous) ≤ 16777216
  unfolding volume_of
  after_small =
      let long = length-append (header_image (after id previous).header) (images tabled.blocks) in
      omega (arith, length-header (after id previous).header rules, table_long)

  shown : header_at (next id previous) ≡ (after id previous).header
  shown = header_shown (next id previous) (after id previous) after_small read

  -- its number is one above
  numbers : sequence_of (next id previous) ≡ suc (sequence_of before)
  numbers = ap (λ (h : Header). h.sequence) shown ∙ sym (ap (λ (h : Header). suc h.sequence) before_shown)

  -- both volumes are accepted, so the test decides
  tested : (test : (first second : List ℕ) → Bool)
      → pairing test before (next id previous) ≡ cond (test before (next id previous)) (Ok tt) (Err DoesNotFollow)
  unfolding paired
  tested test =
      rw (
        (accepted before bare before_bytes before_small (whole bare bare_keeps)).1,
        (accepted (next id previous) (after id previous) after_bytes after_small read).1,
      )

  -- what a claim says of a test that takes them
  taken : (test : (first second : List ℕ) → Bool) → PairClaim ours (pairing test) → test before (next id previous) ≡ true
      → Following before (next id previous)
  taken test claim e =
      by_the_bytes ((claim before (next id previous) before_bytes after_bytes (Ok tt)).0
      (tested test ∙ ap (λ (t : Bool). cond t (Ok tt) (Err DoesNotFollow)) e))

-- The volume after it has the digest of the header alone.
with_digest : (id : List ℕ) → length id ≡ 16 → Bytes id → Sized id (sha256 before)
with_digest id long b =
    record { id-length = long; id_bytes = b; hash-length = digest-length before; hash_bytes = digest_bytes before }

pub any_id_follows : PairClaim ours (pairing any_id) → ⊥
unfolding all_small
any_id_follows claim =
    let ones : List ℕ = replicate 16 1 in
    let sized : Sized ones (sha256 before) = with_digest ones refl (small_bytes ones refl) in
    let e = shown ones (sha256 before) sized in
    let f = taken ones (sha256 before) sized any_id claim
    (rw (eq-eqb _ _ (numbers ones (sha256 before) sized), ap (λ (h : Header). h.previous) e) (same_refl (sha256 before))) in
    let same : ones ≡ replicate 16 0 = sym (ap (λ (h : Header). h.id) e) ∙ f.same_id ∙ ap (λ (h : Header). h.id) before_shown in
    let z : ◌≡◌ {A = ℕ} 1 0 = ap (λ (l : List ℕ). get_or l 0 0) same in
    omega arith

-- Whatever hash it has is the digest, if any hash is taken: but two hashes are not the same.
taken_hash : PairClaim ours (pairing any_hash) → (previous : List ℕ) → length previous ≡ 32 → Bytes previous → previous ≡ sha256 before
taken_hash claim previous long b =
    let zeros : List ℕ = replicate 16 0 in
    let sized : Sized zeros previous
    = record { id-length = refl; id_bytes = zeros_bytes 16; hash-length = long; hash_bytes = b } in
    let e = shown zeros previous sized in
    let f = taken zeros previous sized any_hash claim
    (rw (ap (λ (h : Header). h.id) e, ap (λ (h : Header). h.id) before_shown, same_refl zeros) (eq-eqb _ _ (numbers zeros previous sized))) in
    sym (ap (λ (h : Header). h.previous) e) ∙ f.hash_of_first

pub any_hash_follows : PairClaim ours (pairing any_hash) → ⊥
unfolding all_small
any_hash_follows claim =
    let ones : List ℕ = replicate 32 1 in
    let same : ones ≡ no_hash
    = taken_hash claim ones refl (small_bytes ones refl) ∙ sym (taken_hash claim no_hash refl (zeros_bytes 32)) in
    let z : ◌≡◌ {A = ℕ} 1 0 = ap (λ (l : List ℕ). get_or l 0 0) same in
    omega arith

pub no_volume_follows : PairClaim ours (pairing no_pair) → ⊥
no_volume_follows claim =
    let zeros : List ℕ = replicate 16 0 in
    let sized : Sized zeros (sha256 before) = with_digest zeros refl (zeros_bytes 16) in
    let on : FollowsOn before (next zeros (sha256 before))
    = record {
      first_within = before_small;
      second_within = after_small zeros (sha256 before) sized;
      earlier = bare;
      later = after zeros (sha256 before);
      first_read = whole bare bare_keeps;
      second_read = read zeros (sha256 before) sized;
      same_id = refl;
      next_number = refl;
      hash_of_first = refl;
    } in
    let right = (claim before (next zeros (sha256 before)) before_bytes (after_bytes zeros (sha256 before) sized) (Ok tt)).1 on in
    let wrong = tested zeros (sha256 before) sized no_pair in
    let z : ◌≡◌ {A = ℕ} 0 1 = cc in
    omega arith
