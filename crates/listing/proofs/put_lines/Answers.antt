use Rattle.std.specs.Prelude.{Some, None, Ok}
use Prim.Native.Nat.{◌<◌, ◌≤◌}
use mathlib.Core.Path.{◌≡◌, sym, ap, ◌∙◌}
use native.Mathlib.Omega.{arith}
use lib.ListN.{length}
use Rattle.volume.specs.Reading.{read_answer}
use Rattle.volume.specs.inner.Walk.{on_read}
use Rattle.volume.proofs.Steps.{read_further}
use Rattle.listing.proofs.Walk.{start, left_fits, left_written, line_fits, passed}
use Rattle.listing.proofs.put_lines.Goals as goal

pub loop-found-init : goal.loop-found-init
loop-found-init c =
    let a = c.args in
    start a.volume.now a.out.now a.at a.first c.requires.first_bound

pub overflow_sub-len : goal.overflow_sub-len
overflow_sub-len c =
    let found : read_answer c.args.volume.now c.loop-found.mark ≡ (Ok (Some c.in-Ok-Some.found)) = sym c.in-Ok-Some.ensures ∙ ap Ok c.in-Ok-Some.field-0-is in
    let further : (c.loop-found.mark.offset < c.in-Ok-Some.found.next.offset)
    × (c.in-Ok-Some.found.next.offset ≤ length c.args.volume.now) = read_further _ _ _ found in
    omega (arith, further)

pub block_line-place-requires : goal.block_line-place-requires
block_line-place-requires c =
    let found : read_answer c.args.volume.now c.loop-found.mark ≡ (Ok (Some c.in-Ok-Some.found)) = sym c.in-Ok-Some.ensures ∙ ap Ok c.in-Ok-Some.field-0-is in
    rw c.read_u8-id.ensures (line_fits c.loop-found.invariant _ found)

pub loop-found-smaller : goal.loop-found-smaller
loop-found-smaller c =
    let found : read_answer c.args.volume.now c.loop-found.mark ≡ (Ok (Some c.in-Ok-Some.found)) = sym c.in-Ok-Some.ensures ∙ ap Ok c.in-Ok-Some.field-0-is in
    let further : (c.loop-found.mark.offset < c.in-Ok-Some.found.next.offset)
    × (c.in-Ok-Some.found.next.offset ≤ length c.args.volume.now) = read_further _ _ _ found in
    omega (arith, further)

pub loop-found-preserved : goal.loop-found-preserved
loop-found-preserved c =
    let found : read_answer c.args.volume.now c.loop-found.mark ≡ (Ok (Some c.in-Ok-Some.found)) = sym c.in-Ok-Some.ensures ∙ ap Ok c.in-Ok-Some.field-0-is in
    passed c.loop-found.invariant _ found
    (rw c.read_u8-id.ensures at c.block_line-place.ensures)

pub end_line-requires : goal.end_line-requires
unfolding on_read
end_line-requires c =
    let ended : read_answer c.args.volume.now c.loop-found.mark ≡ Ok None = sym c.in-Ok-None.ensures ∙ ap Ok c.in-Ok-None.field-0-is in
    left_fits c.loop-found.invariant ended

pub returns-in-Ok-None : goal.returns-in-Ok-None
unfolding on_read
returns-in-Ok-None c =
    let ended : read_answer c.args.volume.now c.loop-found.mark ≡ Ok None = sym c.in-Ok-None.ensures ∙ ap Ok c.in-Ok-None.field-0-is in
    left_written c.loop-found.invariant ended _ _ c.end_line.ensures

pub shape_of-out-in-Ok-None : goal.shape_of-out-in-Ok-None
shape_of-out-in-Ok-None c = (returns-in-Ok-None c).room

pub refused_line-requires : goal.refused_line-requires
unfolding on_read
refused_line-requires c = rw (c.from.ensures, c.fault.ensures) (left_fits c.loop-found.invariant (sym c.in-Err.ensures))

pub returns-in-Err : goal.returns-in-Err
unfolding on_read
returns-in-Err c =
    left_written c.loop-found.invariant (sym c.in-Err.ensures) _ _
    (rw (c.from.ensures, c.fault.ensures) at c.refused_line.ensures)

pub shape_of-out-in-Err : goal.shape_of-out-in-Err
shape_of-out-in-Err c = (returns-in-Err c).room
