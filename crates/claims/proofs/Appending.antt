-- One append: it is accepted exactly if the rules allow the block at the bookmark, with room and within the size;
-- the image then stands at the bookmark. And a header written. Assumes nothing.
use Rattle.std.specs.Prelude.{Ok, Err}
use Prim.Native.Nat.{ℕ, ◌+◌, ◌≤◌}
use mathlib.Core.Path.{◌≡◌, refl, sym, ap}
use mathlib.Core.Bool.{Bool, true, false, not, cond}
use mathlib.Core.List.{List}
use native.Mathlib.Omega.{arith}
use lib.Dec.{eqb}
use lib.ListN.{length}
use borrow.Author.Tests.{eqb-true, eqb-false, le-ltb, lt-leb}
use Rattle.number.specs.Number.{put}
use Rattle.checks.specs.Checks.{clear, miss}
use Rattle.checks.proofs.Laws.{decided, none-append}
use Rattle.checks.proofs.Tests.{eq_neb}
use Rattle.refusal.specs.Refusal.{refusal_of, refusal_with}
use Rattle.texts.specs.Texts.{texts}
use Rattle.refusal.specs.Refusal.{Refusal}
use Rattle.format.specs.Blocks.{Block, image}
use Rattle.format.specs.Headers.{Header, header_image, HeaderRules}
use Rattle.format.specs.Readings.{time_of}
use Rattle.block.specs.Order.{volume_limit}
use Rattle.block.proofs.Ids.{is_table}
use Rattle.request.specs.Requests.{request_order}
use Rattle.request.specs.Asking.{Sized}
use Rattle.request.proofs.Rules.{request_numbered, request_sound, request_complete}
use Rattle.volume.specs.Heading.{first_mark}
use Rattle.volume.specs.Writing.{place_order, append_fault, append_answer, append_buffer}
use Rattle.volume.specs.Writing.{SizedHeader, write_fault, write_answer, write_buffer}
use Rattle.volume.specs.declared.Bookmark.{Bookmark}
use Rattle.volume.specs.Answers.{WriteAnswer}
use Rattle.volume.proofs.Passed.{append-passed, write_passed}
use Rattle.volume.proofs.HeaderImage.{hash_rule, hash_right}
use Rattle.volume.proofs.OneCall.{Allowed, after, follows, may_follow_lem, right_place, place_right}

-- The checks of an append.

-- the rules allow the block at the bookmark, with room and within the size
pub record Admitted (room : ℕ) (mark : Bookmark) (block : Block) : Type 0 where
  pub allowed : Allowed mark block
  pub base : 80 ≤ mark.offset
  pub small : mark.offset + length (image block) ≤ volume_limit
  pub fits : mark.offset + length (image block) ≤ room

module _ (room : ℕ) (mark : Bookmark) (block : Block) where
  pub append-sound : Sized block → append_fault room mark block ≡ 0 → Admitted room mark block
  append-sound s e =
      let p = append-passed room mark block e in
      record {
        allowed = record {
          place = right_place mark.due _ p.place;
          keeps = request_sound block s p.own;
          time = follows mark.last _ p.time;
          counted = p.counted;
        };
        base = p.base;
        small = p.small;
        fits = p.fits;
      }

  pub append-complete : Admitted room mark block → append_fault room mark block ≡ 0
  unfolding append_fault
  append-complete a =
      let time = may_follow_lem mark.last (time_of block) a.allowed.time in
      none-append (place_order mark (is_table block)) _ tt
      (sym (decided (miss (le-ltb _ _ a.base) (miss (place_right mark.due (is_table block) a.allowed.place) (miss (lt-leb _ _ a.allowed.counted) clear)))))
      (none-append (request_order block) _ (request_numbered block) (request_complete block a.allowed.keeps).1
      (sym (decided (miss (ap not time) (miss (le-ltb _ _ a.small) (miss (le-ltb _ _ a.fits) clear))))))

-- the two answers, each with its reason and with what the buffer then holds
pub data Appended (buffer : List ℕ) (mark : Bookmark) (block : Block) : WriteAnswer → List ℕ → Type 0 where
  accepted :
      Admitted (length buffer) mark block
      → Appended buffer mark block (Ok (after mark block)) (put buffer mark.offset (image block))
  refused :
      (refusal : Refusal)
      → (Admitted (length buffer) mark block → ⊥)
      → Appended buffer mark block (Err refusal) buffer

pub appended : (buffer : List ℕ) (mark : Bookmark) (block : Block) → Sized block
    → Appended buffer mark block (append_answer (length buffer) mark block) (append_buffer buffer mark block)
unfolding append_answer append_buffer
appended buffer mark block s = go (eqb (append_fault (length buffer) mark block) 0) refl
  where
    go : (sound : Bool) → eqb (append_fault (length buffer) mark block) 0 ≡ sound
        → Appended buffer mark block
        (cond sound (Ok (after mark block)) (Err (refusal_with (append_fault (length buffer) mark block) (texts block))))
        (cond sound (put buffer mark.offset (image block)) buffer)
    go true e = accepted (append-sound (length buffer) mark block s (eqb-true _ _ e))
    go false e = refused _ (λ a. eqb-false _ _ e (append-complete (length buffer) mark block a))

-- an append that answers a bookmark has no fault, and the bookmark is the one after the block
pub append-accepted : (room : ℕ) (mark next : Bookmark) (block : Block) → append_answer room mark block ≡ Ok next
    → (append_fault room mark block ≡ 0) × (after mark block ≡ next)
unfolding append_answer
append-accepted room mark next block = go (eqb (append_fault room mark block) 0) refl
  where
    go : (sound : Bool) → eqb (append_fault room mark block) 0 ≡ sound
        → cond sound (Ok (after mark block)) (Err (refusal_with (append_fault room mark block) (texts block))) ≡ Ok next
        → (append_fault room mark block ≡ 0) × (after mark block ≡ next)
    go true e q = (eqb-true _ _ e, cc)
    go false e q = let z : ◌≡◌ {A = ℕ} 0 1 = cc in absurd (omega arith)

-- and the same of a block that is known to be admitted
pub admitted_appended : (buffer : List ℕ) (mark : Bookmark) (block : Block) → Admitted (length buffer) mark block
    → (append_answer (length buffer) mark block ≡ Ok (after mark block))
    × (append_buffer buffer mark block ≡ put buffer mark.offset (image block))
unfolding append_answer append_buffer
admitted_appended buffer mark block a =
    let e = append-complete (length buffer) mark block a in
    (rw e, rw e)

-- The header.

pub header_sized : (header : Header) → HeaderRules header → SizedHeader header
header_sized header rules = record { fit = rules.fit; id_bytes = rules.id_bytes; hash_bytes = rules.hash_bytes }

module _ (room : ℕ) (header : Header) where
  pub write_sound : SizedHeader header → write_fault room header ≡ 0 → HeaderRules header × (80 ≤ room)
  write_sound s e =
      let p = write_passed room header e in (
        record {
          fit = s.fit;
          id-length = p.id-length;
          id_bytes = s.id_bytes;
          hash-length = p.hash-length;
          hash_bytes = s.hash_bytes;
          first = hash_rule _ _ p.hash_right;
        },
        p.fits,
      )

  pub write_complete : HeaderRules header → 80 ≤ room → write_fault room header ≡ 0
  unfolding write_fault
  write_complete rules h =
      sym (
      decided (
      miss (eq_neb _ _ rules.id-length)
      (miss (eq_neb _ _ rules.hash-length)
      (miss (hash_right _ _ rules.first)
      (miss (le-ltb _ _ h) clear)))
      )
      )

-- a header that is accepted keeps the rules, and its image then stands first
pub record Written (buffer : List ℕ) (header : Header) : Type 0 where
  pub rules : HeaderRules header
  pub room : 80 ≤ length buffer
  pub answer : write_answer (length buffer) header ≡ Ok (first_mark header.sequence)
  pub holds : write_buffer buffer header ≡ put buffer 0 (header_image header)

pub header_written : (buffer : List ℕ) (header : Header) → HeaderRules header → 80 ≤ length buffer → Written buffer header
unfolding write_answer write_buffer
header_written buffer header rules h =
    let e = write_complete (length buffer) header rules h in
    record { rules = rules; room = h; answer = rw e; holds = rw e }

pub written_header : (buffer : List ℕ) (header : Header) (mark : Bookmark) → SizedHeader header
    → write_answer (length buffer) header ≡ Ok mark → Written buffer header
unfolding write_answer
written_header buffer header mark s = go (eqb (write_fault (length buffer) header) 0) refl
  where
    go : (sound : Bool) → eqb (write_fault (length buffer) header) 0 ≡ sound
        → cond sound (Ok (first_mark header.sequence)) (Err (refusal_of (write_fault (length buffer) header))) ≡ Ok mark
        → Written buffer header
    go true e q =
        let p = write_sound (length buffer) header s (eqb-true _ _ e) in
        header_written buffer header p.0 p.1
    go false e q = let z : ◌≡◌ {A = ℕ} 0 1 = cc in absurd (omega arith)
