-- Every text fits the room, so the listing is never refused.
use Rattle.std.specs.Prelude.{ℕ, Result, length}
use Rattle.std.specs.Result.{result_unwrap_or}
use mathlib.Core.Path.{ap, ◌∙◌}
use Rattle.refusal.specs.Refusal.{Refusal}
use Rattle.listing.proofs.Room.{listing_fits}
use Rattle.hdrfs_list.proofs.Room.{written}
use Rattle.hdrfs_list.proofs.write_listing.Goals as goal

pub returns : goal.returns
returns c =
    let a = c.args in
    let fits = c.list.ensures.answer ∙ listing_fits (length a.room.now) a.volume.now c.requires in
    let w = written a.volume.now a.room.now _ _ c.requires c.list.ensures.room
    (c.unwrap_or.ensures ∙ ap (λ (r : Result ℕ Refusal). result_unwrap_or r 0) fits) in
    record { prefix_len = w.0; room_after = w.1 }
