-- Demand 3 holds: a volume's reading is proved in Demand3Reading, writing afresh in Afresh; a list of appends keeps a header and blocks
-- in the buffer, and these are the accepted volume. Assumes nothing.
use Prim.Native.Nat.{ℕ, ◌≤◌}
use mathlib.Core.Path.{◌≡◌, sym, ap, ◌∙◌, subst}
use mathlib.Core.Bool.{false}
use mathlib.Core.List.{List, ◌++◌}
use lib.ListN.{length, take}
use lib.Seq.{length-take-le}
use Rattle.number.specs.Number.{Bytes}
use Rattle.number.proofs.Digits.{bytes_take}
use Rattle.format.specs.Layout.{All}
use Rattle.format.specs.Blocks.{Block}
use Rattle.format.specs.Readings.{Reading, images, ReadingOf}
use Rattle.block.specs.Order.{volume_limit}
use Rattle.request.specs.Asking.{Sized}
use Rattle.volume.specs.declared.Bookmark.{Bookmark}
use Rattle.links.proofs.Tables.{links_unique}
use Rattle.request.proofs.Rules.{rules_sized}
use Rattle.claims.specs.Library.{ours}
use Rattle.claims.specs.Demand3Reading.{ReaderGives}
use Rattle.claims.specs.Demand3.{Outcome, appends, written, VolumeClaim, Start, extended, AcceptedVolume, AppendsClaim, Demand3}
use Rattle.claims.proofs.Appending.{header_sized}
use Rattle.claims.proofs.Demand3Reading.{reading_gives, check_answers, demand_3_reading_holds}
use Rattle.claims.proofs.Refused.{refused_volumes}
use Rattle.claims.proofs.Sofar.{volume_more, Sofar, sofar_counted, sofar_keeps, none_due}
use Rattle.claims.proofs.Alike.{still_read}
use Rattle.claims.proofs.Appends.{Claimed, claimed}
use Rattle.claims.proofs.Starts.{start_stands}
use Rattle.claims.proofs.Afresh.{fresh}

-- the bytes below a bookmark, where a header and blocks stand there and no table is due
stands_accepted : (buffer : List ℕ) (mark : Bookmark) (reading : Reading) → Sofar buffer mark reading → mark.due ≡ false
    → AcceptedVolume ours (take mark.offset buffer) reading mark
stands_accepted buffer mark reading s d =
    let volume : List ℕ = take mark.offset buffer in
    let r : ReadingOf volume reading = record { keeps = sofar_keeps buffer mark reading s d; bytes = sym s.same } in
    let small : length volume ≤ volume_limit = rw (length-take-le mark.offset buffer s.room) s.small in
    let gives : ReaderGives ours volume reading mark
    = subst (ReaderGives ours volume reading) (sym s.mark_after_lem) (reading_gives volume reading small r) in
    record { is_reading = r; reader = gives; check = check_answers volume reading mark gives }

volume_claim : (volume : List ℕ) → Bytes volume → length volume ≤ 16777216 → VolumeClaim ours volume
volume_claim volume b small =
    record {
      reading = demand_3_reading_holds volume b small;
      afresh = λ reading buffer r room. fresh volume reading buffer small r room;
    }

appends_claim : (buffer : List ℕ) (mark : Bookmark) (sofar : Reading) (asked : List Block) → Bytes buffer → All Sized asked
    → Start ours buffer mark sofar → AppendsClaim ours buffer mark sofar asked (appends ours buffer mark asked)
appends_claim buffer mark sofar asked b sized start =
    let s : Sofar buffer mark sofar = start_stands buffer mark sofar b start in
    let outcome : Outcome = appends ours buffer mark asked in
    let c : Claimed buffer mark sofar asked outcome = claimed asked sized buffer mark sofar s in
    let t : Sofar outcome.buffer outcome.mark (extended sofar c.blocks) = c.stands in
    let old : List ℕ = take mark.offset buffer in
    let bytes : written outcome ≡ old ++ images c.blocks
    = t.same ∙ volume_more sofar c.blocks ∙ ap (λ front. front ++ images c.blocks) (sym s.same) in
    let small : length (written outcome) ≤ volume_limit
    = rw (length-take-le outcome.mark.offset outcome.buffer t.room) t.small in
    record {
      blocks = c.blocks;
      each_accepted_exactly_if_allowed = c.judged;
      bytes_below = bytes;
      rest_as_it_was = c.rest;
      counted = sofar_counted outcome.buffer outcome.mark (extended sofar c.blocks) t;
      due_says = (
        λ none. (sofar_keeps outcome.buffer outcome.mark (extended sofar c.blocks) t none).table,
        none_due outcome.buffer outcome.mark (extended sofar c.blocks) t,
      );
      accepted_volume =
          λ rule.
          stands_accepted outcome.buffer outcome.mark (extended sofar c.blocks) t
          (none_due outcome.buffer outcome.mark (extended sofar c.blocks) t rule);
      earlier_blocks =
          λ at found e.
          rw bytes (still_read old (images c.blocks) at found (bytes_take mark.offset buffer b) (rw bytes at small) e);
    }

pub demand_3_holds : Demand3 ours
demand_3_holds =
    record {
      volumes = volume_claim;
      refused_volumes = refused_volumes;
      lists_of_appends = appends_claim;
      one_list_of_links = λ count bytes a b. links_unique a b;
      every_block_can_be_asked_for = rules_sized;
      every_header_can_be_asked_for = header_sized;
    }
