-- Where nothing is fed, no bytes and "abc" have one digest; the published ones differ. Assumes nothing.
use Prim.Native.Nat.{ℕ}
use mathlib.Core.Path.{◌≡◌, refl, sym, ap, ◌∙◌}
use mathlib.Core.List.{List, [], ◌∷◌}
use native.Mathlib.Omega.{arith}
use lib.ListN.{get_or}
use Rattle.number.specs.Ascii.{ascii}
use Rattle.fips180.specs.Padding.{be_bytes}
use Rattle.fips180.specs.Hash.{sha256}
use Rattle.fips180.specs.Claimed.{EachIsTheDigest}
use Rattle.fips180.proofs.Vectors.{published_hold}
use Rattle.sha256.specs.Feeding.{new, finish_answer, whole_answer}
use Rattle.sha256.specs.declared.Digest.{Digest}
use Rattle.std.proofs.Common.{Result, Ok}
use Rattle.refusal.specs.declared.Fault.{Fault}
use Rattle.claims.specs.Digests.{end_to_end, AllFed, none_left, one_more, DigestClaim}
use Rattle.claims.specs.Wrong.{feeds_nothing}

stays : {state last : Digest} {parts : List (List ℕ)} → AllFed new feeds_nothing finish_answer whole_answer state parts last → last ≡ state
stays none_left = refl
stays (one_more e rest) = stays rest ∙ sym (cc)

differ : sha256 [] ≡ sha256 (ascii "abc") → ⊥
unfolding EachIsTheDigest be_bytes
differ e =
    let bytes : be_bytes 32 0xe3b0c44298fc1c149afbf4c8996fb92427ae41e4649b934ca495991b7852b855
    ≡ be_bytes 32 0xba7816bf8f01cfea414140de5dae2223b00361a396177a9cb410ff61f20015ad
    = sym published_hold.0 ∙ e ∙ published_hold.1.0 in
    let first : ◌≡◌ {A = ℕ} 0xe3 0xba = ap (λ (l : List ℕ). get_or l 0 0) bytes in
    omega arith

pub feeds_nothing_lem : DigestClaim new feeds_nothing finish_answer whole_answer → ⊥
unfolding end_to_end
feeds_nothing_lem claim =
    let none = claim.whatever_the_cuts [] (omega arith) in
    let some = claim.whatever_the_cuts (ascii "abc" ∷ []) (omega arith) in
    let both : ◌≡◌ {A = Result (List ℕ) Fault} (Ok (sha256 [])) (Ok (sha256 (ascii "abc")))
    = sym none.2 ∙ ap finish_answer (stays none.1 ∙ sym (stays some.1)) ∙ some.2 in
    differ (cc both)
