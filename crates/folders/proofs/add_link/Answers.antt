-- The head of the link's folder, where there is one, is the link behind it; else it begins a folder.
use Rattle.std.proofs.Common.{arith}
use Rattle.folders.proofs.Heads.{long, cut_stands, cut_missing, sorted_cut, found_head, no_head, replaced, put_in, chained_more}
use Rattle.folders.proofs.add_link.Goals as goal

pub find_head-requires : goal.find_head-requires
find_head-requires c = sorted_cut _ _ _ (omega arith) c.requires.i_in_bounds.1.0.sorted

pub bounds-heads-place : goal.bounds-heads-place
bounds-heads-place c =
    let f = cut_stands _ _ _ (long _ _ _ _ (omega arith) c.requires.i_in_bounds.1.0) _ _ c.in-Ok.ensures in
    omega (arith, f.1.0)

pub offset_bounds-heads-place : goal.offset_bounds-heads-place
offset_bounds-heads-place c =
    let f = cut_stands _ _ _ (long _ _ _ _ (omega arith) c.requires.i_in_bounds.1.0) _ _ c.in-Ok.ensures in
    omega (arith, f.1.0)

pub bounds-heads-place-in-Ok : goal.bounds-heads-place-in-Ok
bounds-heads-place-in-Ok c =
    let f = cut_stands _ _ _ (long _ _ _ _ (omega arith) c.requires.i_in_bounds.1.0) _ _ c.in-Ok.ensures in
    omega (arith, f.1.0)

pub offset_bounds-heads-place-in-Ok : goal.offset_bounds-heads-place-in-Ok
offset_bounds-heads-place-in-Ok c =
    let f = cut_stands _ _ _ (long _ _ _ _ (omega arith) c.requires.i_in_bounds.1.0) _ _ c.in-Ok.ensures in
    omega (arith, f.1.0)

pub returns-in-Ok : goal.returns-in-Ok
returns-in-Ok c =
    let f = cut_stands _ _ _ (long _ _ _ _ (omega arith) c.requires.i_in_bounds.1.0) _ _ c.in-Ok.ensures in
    let heads = c.requires.i_in_bounds.1.0 in
    let found = found_head _ _ _ _ heads _ _ f.0 f.1.0 f.1.1 in (
      replaced _ _ _ _ _ c.requires.i_in_bounds.0 heads f.0 (omega arith) f.1.0 f.1.1,
      chained_more _ c.args.nexts.now c.args.i _ (omega arith) c.requires.i_in_bounds.1.1 found,
    )

pub insert-requires : goal.insert-requires
insert-requires c =
    let heads = c.requires.i_in_bounds.1.0 in
    let few = heads.few in
    let f = cut_missing _ _ _ (long _ _ _ _ (omega arith) heads) _ _ c.in-Err.ensures in
    (f.0.within, omega arith)

pub returns-in-Err : goal.returns-in-Err
returns-in-Err c =
    let f = cut_missing _ _ _ (long _ _ _ _ (omega arith) c.requires.i_in_bounds.1.0) _ _ c.in-Err.ensures in
    let heads = c.requires.i_in_bounds.1.0 in
    let few = heads.few in (
      put_in _ _ _ _ _ c.requires.i_in_bounds.0 heads f.0 _ f.1 c.insert.ensures,
      chained_more _ c.args.nexts.now c.args.i _ (omega arith) c.requires.i_in_bounds.1.1 (no_head _ _ _ _ heads _ _ f.0 f.1),
    )
