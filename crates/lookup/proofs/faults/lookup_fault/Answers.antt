-- The opening decides before the extents, and these are scanned in a list that the block's own checks have found sound.
use mathlib.Core.Path.{◌≡◌, refl, sym, ap, ◌∙◌}
use Rattle.std.proofs.lemmas.Result.{err_from_is_err_and}
use Rattle.checks.specs.Checks.{clear, hit, miss}
use Rattle.checks.proofs.Laws.{decided}
use Rattle.checks.proofs.Tests.{told}
use Rattle.refusal.proofs.Numbers.{number_above_zero}
use Rattle.block.specs.Fields.{rest_at}
use Rattle.lookup.specs.Lookup.{some_absent, some_stray}
use Rattle.lookup.proofs.Clear.{opened}
use Rattle.lookup.proofs.Deciding.{opening_decides, extents_decide}
use Rattle.lookup.proofs.faults.lookup_fault.Goals as goal

pub returns-in_err-open_fault : goal.returns-in_err-open_fault
returns-in_err-open_fault c =
    let a = c.args in
    let p = err_from_is_err_and c.from_residual.result c.from_residual.ensures.1 in
    rw (p.1, p.2) (opening_decides a.volume.now a.offset a.lengths.now c.in_err-open_fault.ensures (number_above_zero _))

pub list_of-requires : goal.list_of-requires
list_of-requires c = (opened c.args.volume.now c.args.offset c.args.lengths.now (sym c.in_ok-open_fault.ensures)).file.whole

-- the scans are of the file's list
pub invariant_of-extents-clause-sound : goal.invariant_of-extents-clause-sound
invariant_of-extents-clause-sound c =
    rw c.list_of.ensures (opened c.args.volume.now c.args.offset c.args.lengths.now (sym c.in_ok-open_fault.ensures)).file.sound

pub invariant_of-extents-clause-few : goal.invariant_of-extents-clause-few
invariant_of-extents-clause-few c =
    rw c.list_of.ensures (opened c.args.volume.now c.args.offset c.args.lengths.now (sym c.in_ok-open_fault.ensures)).file.few

pub returns-then-some_absent : goal.returns-then-some_absent
returns-then-some_absent c =
    let a = c.args in
    let absent : c.some_absent.result ≡ some_absent a.lengths.now (rest_at a.volume.now a.offset)
    = c.some_absent.ensures ∙ ap (some_absent _) c.list_of.ensures in
    extents_decide a.volume.now a.offset a.lengths.now c.in_ok-open_fault.ensures refl
    (decided (hit (told absent c.if-some_absent.true)))

pub returns-then-some_stray : goal.returns-then-some_stray
returns-then-some_stray c =
    let a = c.args in
    let absent : c.some_absent.result ≡ some_absent a.lengths.now (rest_at a.volume.now a.offset)
    = c.some_absent.ensures ∙ ap (some_absent _) c.list_of.ensures in
    let stray : c.some_stray.result ≡ some_stray (rest_at a.volume.now a.offset) = c.some_stray.ensures ∙ ap some_stray c.list_of.ensures in
    extents_decide a.volume.now a.offset a.lengths.now c.in_ok-open_fault.ensures refl
    (decided (miss (told absent c.if-some_absent.false) (hit (told stray c.if-some_stray.true))))

pub returns : goal.returns
returns c =
    let a = c.args in
    let absent : c.some_absent.result ≡ some_absent a.lengths.now (rest_at a.volume.now a.offset)
    = c.some_absent.ensures ∙ ap (some_absent _) c.list_of.ensures in
    let stray : c.some_stray.result ≡ some_stray (rest_at a.volume.now a.offset) = c.some_stray.ensures ∙ ap some_stray c.list_of.ensures in
    extents_decide a.volume.now a.offset a.lengths.now c.in_ok-open_fault.ensures refl
    (decided (miss (told absent c.if-some_absent.false) (miss (told stray c.if-some_stray.false) clear)))
