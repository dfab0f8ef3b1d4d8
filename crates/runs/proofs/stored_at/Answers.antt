-- `runs::stored_at` meets its contract by the law of both multiplicities (`stored_place`); the rules of the extent keep every
-- sum within 64 bits. Assumes nothing.
use mathlib.Core.Path.{sym, ◌∙◌}
use native.Mathlib.Omega.{arith}
use Rattle.extent.proofs.Sound.{Bounded, sound_bounded}
use Rattle.runs.proofs.Stored.{StoredPlace, keeps_position, raw_below, stored_place}
use Rattle.runs.proofs.stored_at.Goals as goal

pub distance_to-requires : goal.distance_to-requires
distance_to-requires c = (keeps_position _ _ c.requires.1).0

pub overflow_add-raw : goal.overflow_add-raw
overflow_add-raw c =
    let bounds : Bounded c.args.e = sound_bounded c.args.e c.requires.0 in
    omega (arith, bounds.raw, raw_below _ _ c.requires.0 c.requires.1)

pub overflow_mul-e : goal.overflow_mul-e
overflow_mul-e c =
    let bounds : Bounded c.args.e = sound_bounded c.args.e c.requires.0 in
    omega (arith, bounds.raw)

pub nonzero_rem-raw : goal.nonzero_rem-raw
nonzero_rem-raw c =
    let place : StoredPlace c.args.e c.args.position.0 = stored_place c.args.e c.args.position.0 c.requires.0 c.requires.1 in
    rw c.footprint_len-footprint.ensures place.some

pub advance-requires : goal.advance-requires
advance-requires c =
    let place : StoredPlace c.args.e c.args.position.0 = stored_place c.args.e c.args.position.0 c.requires.0 c.requires.1 in
    let bounds : Bounded c.args.e = sound_bounded c.args.e c.requires.0 in
    let p = place in
    rw (c.footprint_len-footprint.ensures, c.distance_to.ensures)
    (omega (arith, p.place, p.within, bounds.physical))

pub returns : goal.returns
returns c =
    let place : StoredPlace c.args.e c.args.position.0 = stored_place c.args.e c.args.position.0 c.requires.0 c.requires.1 in
    c.advance.ensures
    ∙ rw (c.footprint_len-footprint.ensures, c.distance_to.ensures) (sym place.place)
