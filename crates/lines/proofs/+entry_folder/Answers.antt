-- The lines of a link are its own and then those of the folder that it opens, with a level less; the lines of a folder are those of one
-- link after the other.
use Prim.Native.Nat.{◌+◌, ◌-◌}
use mathlib.Core.Path.{◌≡◌, refl, ◌∙◌}
use Rattle.std.proofs.Common.{rules, Ok, Err}
use native.Mathlib.Omega.{arith}
use lib.ListN.{get_or}
use Rattle.lines.specs.inner.Giving.{sound, given_of}
use Rattle.lines.proofs.Gives.{told, some_fault, link_too_deep, no_room_for_link, link_given, folder_over, folder_stops, folder_goes_on}
use Rattle.lines.proofs.+entry_folder.Goals as goal

pub entry-returns-then-left-eq0 : goal.entry-returns-then-left-eq0
entry-returns-then-left-eq0 t c =
    let a = c.args in
    let i = a.index.now in
    let told_now = told _ _ (link_too_deep a.room i.parents.now i.children.now a.left a.place a.lines a.out.now c.if-left-eq0.true) in
    record { answer = told_now.0; list = told_now.1 }

pub entry-returns-then-room-lines : goal.entry-returns-then-room-lines
entry-returns-then-room-lines t c =
    let a = c.args in
    let i = a.index.now in
    let opens = i.indexed.opened a.place c.requires.0 in
    let told_now = told _ _ (no_room_for_link a.room i.parents.now i.children.now a.left a.place a.lines a.out.now c.if-left-eq0.false _ opens c.if-room-lines.true) in
    record { answer = told_now.0; list = told_now.1 }

pub entry-returns-then-index-first : goal.entry-returns-then-index-first
entry-returns-then-index-first t c =
    let a = c.args in
    let i = a.index.now in
    let opens = i.indexed.opened a.place c.requires.0 in
    let e = link_given a.room i.parents.now i.children.now a.left a.place a.lines a.out.now c.if-left-eq0.false (get_or i.firsts.now a.place 0) opens (omega (arith, c.if-room-lines.false)) in
    let over = folder_over a.room i.parents.now i.children.now (a.left - 1) (sound c.put_line.new.out (a.lines + 1)) _ c.if-index-first.true in
    let told_now = told _ _ over in
    record {
      answer = rw (e, ← c.put_line.ensures) told_now.0;
      list = rw (e, ← c.put_line.ensures) told_now.1;
    }

pub entry-returns : goal.entry-returns
entry-returns t c =
    let a = c.args in
    let i = a.index.now in
    let opens = i.indexed.opened a.place c.requires.0 in
    let e = link_given a.room i.parents.now i.children.now a.left a.place a.lines a.out.now c.if-left-eq0.false (get_or i.firsts.now a.place 0) opens (omega (arith, c.if-room-lines.false)) in
    record {
      answer = rw (e, ← c.put_line.ensures) c.folder.ensures.answer;
      list = rw (e, ← c.put_line.ensures) c.folder.ensures.list;
    }

pub folder-returns-in_err-given : goal.folder-returns-in_err-given
folder-returns-in_err-given t c =
    let a = c.args in
    let i = a.index.now in
    let l = c.loop-place in
    let inv = l.invariant in
    let next = i.indexed.chained l.place (omega arith) (omega arith) in
    let step = c.in_err-given.ensures in
    let stops = folder_stops a.room i.parents.now i.children.now a.left (sound l.out l.given) l.place _ (omega arith) next (given_of (Err c.in_err-given.field-0.0)) _ step.answer step.list (some_fault _) in
    let passed : c.from_residual.result ≡ Err c.in_err-given.field-0.0 = search rules in
    record { answer = rw (passed, inv.same) stops.0; list = rw inv.same stops.1 }

pub folder-loop-place-preserved : goal.folder-loop-place-preserved
folder-loop-place-preserved t c =
    let a = c.args in
    let i = a.index.now in
    let l = c.loop-place in
    let inv = l.invariant in
    let next = i.indexed.chained l.place (omega arith) (omega arith) in
    let step = c.in_ok-given.ensures in
    let goes_on = folder_goes_on a.room i.parents.now i.children.now a.left (sound l.out l.given) l.place _ (omega arith) next (given_of (Ok c.in_ok-given.given)) _ step.answer step.list refl in
    record {
      within = next.within;
      same = inv.same ∙ goes_on;
    }

pub folder-returns : goal.folder-returns
folder-returns t c =
    let a = c.args in
    let i = a.index.now in
    let l = c.loop-place in
    let told_now = told _ _ (l.invariant.same ∙ folder_over a.room i.parents.now i.children.now a.left _ l.place (omega arith)) in
    record { answer = told_now.0; list = told_now.1 }
