-- The claim on digests holds of ours: byte by byte, feeding parts is feeding what they are end to end. Assumes nothing.
use Prim.Native.Nat.{ℕ, ◌+◌, ◌%◌, ◌≤◌, ◌<◌}
use mathlib.Core.Path.{◌≡◌, refl, sym, ap, ◌∙◌}
use mathlib.Core.List.{List, [], ◌∷◌, ◌++◌, foldl, foldl-append}
use native.Mathlib.Omega.{arith}
use lib.ListN.{length, set, length-append}
use borrow.Author.Tests.{lt-ltb, le-ltb}
use Rattle.fips180.specs.Hash.{sha256}
use Rattle.sha256.specs.Feeding.{new, feed_byte, digest_of, feed_answer, finish_answer, whole_answer}
use Rattle.sha256.specs.declared.Digest.{Digest}
use Rattle.std.proofs.Common.{Ok, Err}
use Rattle.refusal.specs.declared.Fault.TheVariants.{TooLarge}
use Rattle.sha256.proofs.Bytewise.{fed_sum}
use Rattle.sha256.proofs.Cuts.{digest_of_fed, new_fed}
use Rattle.claims.specs.Digests.{end_to_end, AllFed, none_left, one_more, DigestClaim}

-- what is not too long is fed, and finished
accepted : (state : Digest) (part : List ℕ) → state.fed + length part ≤ 16777216
    → feed_answer state part ≡ Ok (foldl feed_byte state part)
unfolding feed_answer
accepted state part h = rw (le-ltb 16777216 (state.fed + length part) h)

finished : (state : Digest) → state.fed ≤ 16777216 → finish_answer state ≡ Ok (digest_of state)
unfolding finish_answer
finished state h = rw (le-ltb 16777216 state.fed h)

-- the state after all parts is that after their bytes
Ends : (state : Digest) → List (List ℕ) → Type 0
Ends state parts = (last : Digest) × AllFed new feed_answer finish_answer whole_answer state parts last × (last ≡ foldl feed_byte state (end_to_end parts))

all_fed : (parts : List (List ℕ)) (state : Digest) → state.fed + length (end_to_end parts) ≤ 16777216 → Ends state parts
unfolding Ends end_to_end
all_fed [] state h = (state, none_left, refl)
all_fed (part ∷ parts) state h =
    let rest : List ℕ = end_to_end parts in
    let next : Digest = foldl feed_byte state part in
    let sum : length (part ++ rest) ≡ length part + length rest = length-append part rest in
    let fed : next.fed ≡ state.fed + length part = fed_sum state part in
    let others = all_fed parts next (omega arith) in (
      others.0,
      one_more (accepted state part (omega arith)) others.1,
      others.2 ∙ sym (foldl-append feed_byte state part rest),
    )

new_within : (bytes : List ℕ) → length bytes ≤ 16777216 → new.fed + length bytes ≤ 16777216
new_within bytes h = rw (new_fed bytes) h

whatever : (parts : List (List ℕ)) → length (end_to_end parts) ≤ 16777216
    → (last : Digest)
    × AllFed new feed_answer finish_answer whole_answer new parts last
    × (finish_answer last ≡ Ok (sha256 (end_to_end parts)))
unfolding Ends
whatever parts h =
    let bytes : List ℕ = end_to_end parts in
    let all = all_fed parts new (new_within bytes h) in
    let fed : (foldl feed_byte new bytes).fed ≡ length bytes = fed_sum new bytes ∙ new_fed bytes in
    let done : finish_answer (foldl feed_byte new bytes) ≡ Ok (digest_of (foldl feed_byte new bytes))
    = finished (foldl feed_byte new bytes) (omega arith) in (
      all.0,
      all.1,
      ap finish_answer all.2 ∙ done ∙ ap (λ (d : List ℕ). Ok d) (digest_of_fed bytes),
    )

both : (state : Digest) (first second : List ℕ) → state.fed + length (first ++ second) ≤ 16777216
    → (middle : Digest) × (feed_answer state first ≡ Ok middle) × (feed_answer middle second ≡ feed_answer state (first ++ second))
both state first second h =
    let middle : Digest = foldl feed_byte state first in
    let sum : length (first ++ second) ≡ length first + length second = length-append first second in
    let fed : middle.fed ≡ state.fed + length first = fed_sum state first in (
      middle,
      accepted state first (omega arith),
      accepted middle second (omega arith) ∙ ap (λ (s : Digest). Ok s) (sym (foldl-append feed_byte state first second))
          ∙ sym (accepted state (first ++ second) h),
    )

at_once : (bytes : List ℕ) → length bytes ≤ 16777216 → whole_answer bytes ≡ Ok (sha256 bytes)
unfolding whole_answer
at_once bytes h = rw (le-ltb 16777216 (length bytes) h)

not_fed : (state : Digest) (part : List ℕ) → 16777216 < state.fed + length part
    → feed_answer state part ≡ Err TooLarge
unfolding feed_answer
not_fed state part h = rw (lt-ltb 16777216 (state.fed + length part) h)

not_finished : (state : Digest) → 16777216 < state.fed → finish_answer state ≡ Err TooLarge
unfolding finish_answer
not_finished state h = rw (lt-ltb 16777216 state.fed h)

not_at_once : (bytes : List ℕ) → 16777216 < length bytes → whole_answer bytes ≡ Err TooLarge
unfolding whole_answer
not_at_once bytes h = rw (lt-ltb 16777216 (length bytes) h)

one : (state : Digest) (byte : ℕ) → state.fed < 16777216
    → (next : Digest)
    × (feed_answer state (byte ∷ []) ≡ Ok next)
    × (next.held ≡ set state.held (state.fed % 64) byte)
    × (next.fed ≡ state.fed + 1)
unfolding feed_byte
one state byte h = (feed_byte state byte, accepted state (byte ∷ []) (omega arith), refl, refl)

pub digests_hold : DigestClaim new feed_answer finish_answer whole_answer
digests_hold = record {
  whatever_the_cuts = whatever;
  in_one_call = at_once;
  one_after_the_other = both;
  one_byte = one;
  too_many_fed = not_fed;
  too_many_finished = not_finished;
  too_many_at_once = not_at_once;
}
