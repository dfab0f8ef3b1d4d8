-- The first walk has no room, so it changes nothing and only measures. The second one has room enough.
use Rattle.std.specs.Prelude.{Ok, Err}
use Prim.Native.Nat.{ℕ, ◌≤◌, ◌<◌}
use mathlib.Core.Path.{◌≡◌, sym}
use mathlib.Core.List.{List, [], ◌∷◌, ◌++◌}
use native.Mathlib.Omega.{arith}
use lib.ListN.{length}
use borrow.Author.Tests.{le-leb, lt-leb}
use Rattle.number.specs.Number.{put}
use Rattle.number.proofs.Put.{put_past}
use Rattle.refusal.specs.Refusal.{refusal_of}
use Rattle.listing.specs.Listing.{list_answer}
use Rattle.listing.specs.inner.Text.{listing}
use Rattle.listing.specs.inner.Writing.{Wrote}
use Rattle.listing.proofs.list_by.Goals as goal

-- the two answers, after a first walk over no room
too_small : (volume out : List ℕ) {none : List ℕ} {len : ℕ} → Wrote [] 0 (listing volume) none len → length (none ++ out) < len
    → ((Err (refusal_of 17)) ≡ list_answer (length out) (listing volume)) × (none ++ out ≡ put out 0 (listing volume))
unfolding list_answer
too_small volume out {none = []} w h =
    let short : length out < length (listing volume) = omega (arith, w.after) in
    (rw (lt-leb (length (listing volume)) (length out) short), sym (put_past out 0 (listing volume) (omega arith)))
too_small volume out {none = byte ∷ rest} w h = absurd (omega (arith, w.room))

written : (volume out : List ℕ) {none new : List ℕ} {len answer : ℕ} → Wrote [] 0 (listing volume) none len → len ≤ length (none ++ out)
    → Wrote (none ++ out) 0 (listing volume) new answer
    → ((Ok len) ≡ list_answer (length out) (listing volume)) × (new ≡ put out 0 (listing volume))
unfolding list_answer
written volume out {none = []} {len = len} w h v =
    let room : length (listing volume) ≤ length out = omega (arith, w.after) in
    let same : len ≡ length (listing volume) = omega (arith, w.after) in
    (rw (same, le-leb (length (listing volume)) (length out) room), v.text (omega arith))
written volume out {none = byte ∷ rest} w h v = absurd (omega (arith, w.room))

pub returns-then-out-len : goal.returns-then-out-len
returns-then-out-len c =
    let r = too_small c.args.volume.now c.args.out.now c.put_listing-len.ensures c.if-out-len.true in
    record { answer = rw c.from.ensures r.0; room = r.1 }

pub returns : goal.returns
returns c =
    let r = written c.args.volume.now c.args.out.now c.put_listing-len.ensures c.if-out-len.false c.put_listing.ensures in
    record { answer = r.0; room = r.1 }
