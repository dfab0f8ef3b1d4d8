-- The digest of bytes that were fed is the digest of these bytes. Assumes nothing.
use Prim.Native.Nat.{ℕ, ◌+◌, ◌-◌, ◌*◌, ◌/◌, ◌%◌, ◌≤◌, ◌<◌}
use mathlib.Core.Path.{◌≡◌, refl, sym, ap, ◌∙◌}
use mathlib.Core.Bool.{Bool, true, false, cond}
use mathlib.Core.Logic.{⊎_elim}
use mathlib.Mathlib.Data.Bool.Basic.{dichotomy}
use mathlib.Core.List.{List, ◌++◌, foldl, foldl-append}
use native.Mathlib.Nat.{zero-add}
use native.Mathlib.Omega.{arith}
use lib.ListN.{length, get_or, take, drop, replicate, length-drop}
use Rattle.number.specs.Number.{put}
use Rattle.number.proofs.Put.{part_put}
use Rattle.fips180.specs.Constants.{H0}
use Rattle.fips180.specs.Padding.{padding, parts, blocks}
use Rattle.fips180.specs.Hash.{hashed, word_bytes, sha256}
use Rattle.sha256.specs.Feeding.{new, feed_byte, too_many, feed_answer, digest_of, finish_answer, whole_answer}
use Rattle.fips180.specs.declared.Words.{Words}
use Rattle.sha256.specs.declared.Digest.{Digest}
use Rattle.std.proofs.Common.{Ok, Err}
use Rattle.refusal.specs.declared.Fault.{Fault}
use Rattle.refusal.specs.declared.Fault.TheVariants.{TooLarge}
use Rattle.fips180.proofs.Parts.{blocks_after}
use Rattle.sha256.proofs.Bytewise.{state, few, whole, last-length, in_two, fed_sum}

-- few bytes after whole blocks: they are hashed with the padding
few_hashed : (words : Words) (fed : ℕ) (held bytes : List ℕ) → length held ≡ 64 → fed % 64 ≡ 0 → length bytes < 64
    → digest_of (foldl feed_byte (state words fed held) bytes) ≡ word_bytes (foldl hashed words (blocks (bytes ++ padding (fed + length bytes))))
unfolding digest_of
few_hashed words fed held bytes l a h =
    let used : (fed + length bytes) % 64 ≡ length bytes = omega arith in
    let there : take (length bytes) (put held 0 bytes) ≡ bytes = part_put held 0 bytes (omega arith) in
    ap digest_of (few words fed held bytes l (omega arith)) ∙ rw (a, used, there)

-- some whole blocks, and the rest
pub digest_of_fed : (message : List ℕ) → digest_of (foldl feed_byte new message) ≡ sha256 message
unfolding new sha256
digest_of_fed message =
    let n : ℕ = length message / 64 in
    let rest : List ℕ = drop (64 * n) message in
    let fits : 64 * n ≤ length message = omega arith in
    let left : length rest ≡ length message - 64 * n = length-drop (64 * n) message in
    let all : 0 + 64 * n + length rest ≡ length message = omega arith in
    let words : Words = foldl hashed H0 (parts 64 n message) in
    let zeros : List ℕ = replicate 64 0 in
    ap digest_of (sym (in_two new (64 * n) message) ∙ ap (λ s. foldl feed_byte s rest) (whole n H0 0 zeros message refl refl fits))
    ∙ few_hashed words (0 + 64 * n) (get_or (parts 64 n message) (n - 1) zeros) rest (last-length n message zeros refl fits) (omega arith) (omega arith)
    ∙ ap (λ (k : ℕ). word_bytes (foldl hashed words (blocks (rest ++ padding k)))) all
    ∙ ap word_bytes
    (sym (foldl-append hashed H0 (parts 64 n message) (blocks (rest ++ padding (length message))))
    ∙ ap (foldl hashed H0) (sym (blocks_after n message (padding (length message)) fits)))

pub new_fed : (bytes : List ℕ) → new.fed + length bytes ≡ length bytes
unfolding new
new_fed bytes = zero-add (length bytes)

-- The digest in one call: the bytes are fed to a new state, which is then finished.

known : (bytes : List ℕ) (t : Bool) → too_many (length bytes) ≡ t → feed_answer new bytes ≡ cond t (Err TooLarge) (Ok (foldl feed_byte new bytes))
unfolding feed_answer new
known bytes t f = rw (zero-add (length bytes), f)

answered : (bytes : List ℕ) (t : Bool) → too_many (length bytes) ≡ t → whole_answer bytes ≡ cond t (Err TooLarge) (Ok (sha256 bytes))
unfolding whole_answer
answered bytes t f = rw f

pub whole_refused : (bytes : List ℕ) (fault : Fault) → Err fault ≡ feed_answer new bytes → Err fault ≡ whole_answer bytes
whole_refused bytes fault e =
    ⊎_elim
    (λ f. absurd (cc (known bytes false f)))
    (λ f. let same : fault ≡ TooLarge = cc (e ∙ known bytes true f) in ap (λ x. Err x) same ∙ sym (answered bytes true f))
    (dichotomy (too_many (length bytes)))

pub whole_finished : (bytes : List ℕ) (last : Digest) → Ok last ≡ feed_answer new bytes → finish_answer last ≡ whole_answer bytes
unfolding whole_answer finish_answer
whole_finished bytes last e =
    ⊎_elim
    (λ f.
    let there : last ≡ foldl feed_byte new bytes = cc (known bytes false f) in
    let count : too_many (foldl feed_byte new bytes).fed ≡ false = ap too_many (fed_sum new bytes ∙ new_fed bytes) ∙ f in
    rw (there, count, f, digest_of_fed bytes))
    (λ f. absurd (cc (known bytes true f)))
    (dichotomy (too_many (length bytes)))
