-- A list of appends from a start: by the list, each is judged by the rules and the header and blocks stand in the buffer. Assumes
-- nothing.
use Prim.Native.Nat.{ℕ, ◌+◌, ◌-◌, ◌≤◌}
use mathlib.Core.Path.{◌≡◌, refl, sym, ap, ◌∙◌, subst}
use mathlib.Core.List.{List, [], ◌∷◌, append_assoc, append-nil}
use native.Mathlib.Omega.{arith}
use lib.ListN.{length, drop}
use lib.Seq.{drop-drop}
use Rattle.number.specs.Number.{put}
use Rattle.number.proofs.Put.{length-put, drop-put}
use Rattle.format.specs.Layout.{All}
use Rattle.format.specs.Blocks.{Block, image}
use Rattle.format.specs.Readings.{Reading}
use Rattle.request.specs.Asking.{Sized}
use Rattle.volume.specs.declared.Bookmark.{Bookmark}
use Rattle.volume.specs.Answers.{WriteAnswer}
use Rattle.volume.proofs.OneCall.{after}
use Rattle.claims.specs.Library.{ours}
use Rattle.claims.specs.Demand3.{Outcome, onward, answered_first, appends, extended, Judged, none_left, accepted, refused}
use Rattle.claims.proofs.Appending.{Appended, appended}
use Rattle.claims.proofs.Appending as one
use Rattle.claims.proofs.Sofar.{Sofar, sofar_more, admitted_permits, permits_admitted}

-- no blocks more, and blocks in two steps
pub extended_none : (sofar : Reading) → sofar ≡ extended sofar []
extended_none sofar = λ i. record { header = sofar.header; blocks = sym (append-nil sofar.blocks) i }

pub extended_twice : (sofar : Reading) (block : Block) (blocks : List Block)
    → extended (extended sofar (block ∷ [])) blocks ≡ extended sofar (block ∷ blocks)
extended_twice sofar block blocks =
    λ i. record { header = sofar.header; blocks = append_assoc sofar.blocks (block ∷ []) blocks i }

-- bytes that are the same from one place on are the same from every later place on
pub drop-later : (m n : ℕ) (a b : List ℕ) → m ≤ n → drop m a ≡ drop m b → drop n a ≡ drop n b
drop-later m n a b h e =
    let k : m + (n - m) ≡ n = omega arith in
    ap (λ (i : ℕ). drop i a) (sym k) ∙ sym (drop-drop (n - m) m a) ∙ ap (drop (n - m)) e
    ∙ drop-drop (n - m) m b ∙ ap (λ (i : ℕ). drop i b) k

-- The list.

pub record Claimed (buffer : List ℕ) (mark : Bookmark) (sofar : Reading) (asked : List Block) (outcome : Outcome) : Type 0 where
  pub blocks : List Block
  pub judged : Judged (length buffer) sofar asked outcome.answers blocks
  pub stands : Sofar outcome.buffer outcome.mark (extended sofar blocks)
  pub grows : mark.offset ≤ outcome.mark.offset
  pub rest : drop outcome.mark.offset outcome.buffer ≡ drop outcome.mark.offset buffer

abbrev ClaimedOf : List Block → Type 0
ClaimedOf asked = (buffer : List ℕ) (mark : Bookmark) (sofar : Reading) → Sofar buffer mark sofar
    → Claimed buffer mark sofar asked (appends ours buffer mark asked)

-- one append, and then the others
step : (block : Block) (asked : List Block) → ClaimedOf asked
    → (buffer : List ℕ) (mark : Bookmark) (sofar : Reading) → Sofar buffer mark sofar
    → {answer : WriteAnswer} {next : List ℕ} → Appended buffer mark block answer next
    → Claimed buffer mark sofar (block ∷ asked) (answered_first answer (appends ours next (onward mark answer) asked))
step block asked others buffer mark sofar s (one.accepted a) =
    let next : List ℕ = put buffer mark.offset (image block) in
    let longer : Reading = extended sofar (block ∷ []) in
    let c = others next (after mark block) longer (sofar_more buffer mark sofar block s a) in
    let outcome : Outcome = appends ours next (after mark block) asked in
    let end : ℕ = mark.offset + length (image block) in
    let grows : end ≤ outcome.mark.offset = c.grows in
    record {
      blocks = block ∷ c.blocks;
      judged =
          accepted (admitted_permits buffer mark sofar block s a)
          (subst (λ (room : ℕ). Judged room longer asked outcome.answers c.blocks)
          (length-put buffer mark.offset (image block)) c.judged);
      stands = subst (Sofar outcome.buffer outcome.mark) (extended_twice sofar block c.blocks) c.stands;
      grows = omega arith;
      rest =
          c.rest
          ∙ drop-later end outcome.mark.offset next buffer grows (drop-put buffer mark.offset (image block) end (omega arith));
    }
step block asked others buffer mark sofar s (one.refused refusal n) =
    let c = others buffer mark sofar s in
    record {
      blocks = c.blocks;
      judged = refused (λ p. n (permits_admitted buffer mark sofar block s p)) c.judged;
      stands = c.stands;
      grows = c.grows;
      rest = c.rest;
    }

pub claimed : (asked : List Block) → All Sized asked → ClaimedOf asked
unfolding appends
claimed [] sized buffer mark sofar s =
    record {
      blocks = [];
      judged = none_left;
      stands = subst (Sofar buffer mark) (extended_none sofar) s;
      grows = omega arith;
      rest = refl;
    }
claimed (block ∷ asked) sized buffer mark sofar s =
    step block asked (claimed asked sized.1) buffer mark sofar s (appended buffer mark block sized.0)
