-- The headers are sound, so the parts handed out are their fields, and the digest is that of the whole first volume.
use Prim.Native.Nat.{ℕ, suc}
use mathlib.Core.Path.{◌≡◌, sym, ap₂, ◌∙◌}
use mathlib.Core.Bool.{true, false}
use lib.Dec.{eqb}
use Rattle.number.specs.inner.Same.{same_bytes}
use Rattle.fips180.specs.Hash.{sha256}
use Rattle.volume.specs.Heading.{header_bytes, sequence_of}
use Rattle.chain.specs.Pairing.{follows}
use Rattle.chain.proofs.Following.{handed, digested}
use Rattle.chain.proofs.is_followed.Goals as goal

pub returns-then-not-same_bytes : goal.returns-then-not-same_bytes
unfolding follows
returns-then-not-same_bytes c =
    let first = c.args.first.now in
    let second = c.args.second.now in
    let ids : same_bytes (header_bytes "file system ID" second) (header_bytes "file system ID" first) ≡ false
    = sym
    (c.same_bytes.ensures
    ∙ ap₂ same_bytes
    (c.file_system_id.ensures.bytes ∙ handed _ c.requires.first_value.1 "file system ID")
    (c.file_system_id-2.ensures.bytes ∙ handed _ c.requires.first_value.0 "file system ID"))
    ∙ c.if-not-same_bytes.true in
    rw ids

pub returns-then-not-is_next : goal.returns-then-not-is_next
unfolding follows
returns-then-not-is_next c =
    let first = c.args.first.now in
    let second = c.args.second.now in
    let ids : same_bytes (header_bytes "file system ID" second) (header_bytes "file system ID" first) ≡ true
    = sym
    (c.same_bytes.ensures
    ∙ ap₂ same_bytes
    (c.file_system_id.ensures.bytes ∙ handed _ c.requires.first_value.1 "file system ID")
    (c.file_system_id-2.ensures.bytes ∙ handed _ c.requires.first_value.0 "file system ID"))
    ∙ c.if-not-same_bytes.false in
    let numbers : eqb (sequence_of second) (suc (sequence_of first)) ≡ false
    = sym (c.is_next.ensures ∙ ap₂ (λ (next number : ℕ). eqb next (suc number)) c.requires.number_value.1 c.requires.number_value.0)
    ∙ c.if-not-is_next.true in
    rw (ids, numbers)

pub returns-in-Ok : goal.returns-in-Ok
unfolding follows
returns-in-Ok c =
    let first = c.args.first.now in
    let second = c.args.second.now in
    let ids : same_bytes (header_bytes "file system ID" second) (header_bytes "file system ID" first) ≡ true
    = sym
    (c.same_bytes.ensures
    ∙ ap₂ same_bytes
    (c.file_system_id.ensures.bytes ∙ handed _ c.requires.first_value.1 "file system ID")
    (c.file_system_id-2.ensures.bytes ∙ handed _ c.requires.first_value.0 "file system ID"))
    ∙ c.if-not-same_bytes.false in
    let numbers : eqb (sequence_of second) (suc (sequence_of first)) ≡ true
    = sym (c.is_next.ensures ∙ ap₂ (λ (next number : ℕ). eqb next (suc number)) c.requires.number_value.1 c.requires.number_value.0)
    ∙ c.if-not-is_next.false in
    let told = c.in-Ok.ensures ∙ digested _ c.requires.first_value.0 in
    let digest : c.in-Ok.digest ≡ sha256 first = cc in
    let hashes : c.same_bytes-in-Ok.result ≡ same_bytes (header_bytes "previous hash" second) (sha256 first)
    = c.same_bytes-in-Ok.ensures
    ∙ ap₂ same_bytes (c.previous_hash.ensures.bytes ∙ handed _ c.requires.first_value.1 "previous hash") digest in
    rw (ids, numbers) hashes

-- a volume with a sound header has a digest
pub returns-in-Err : goal.returns-in-Err
returns-in-Err c = absurd (let told = c.in-Err.ensures ∙ digested _ c.requires.first_value.0 in cc)
