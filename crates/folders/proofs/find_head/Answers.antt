-- Where the folder belongs stands its head, or none.
use Rattle.std.proofs.Common.{◌≡◌, sym, ap, ◌∙◌, rules, arith, ltb-true}
use Rattle.std.proofs.lemmas.Grind.{common_steps}
use Rattle.std.proofs.lemmas.List.{get_or_read}
use Rattle.folders.specs.inner.Folders.{parent_of, stands, missing}
use Rattle.folders.proofs.find_head.Goals as goal

pub returns-in-Some : goal.returns-in-Some
returns-in-Some c =
    let a = c.args in
    let p = c.place_of-place.ensures (parent_of a.parents.now) a.folder c.requires.rising (search rules) in
    let found = c.in-Some.ensures.lookup in
    let w = ltb-true _ _ (sym found.0) in
    let read = get_or_read a.heads.now _ _ w found.1 0 in
    let h : parent_of a.parents.now c.in-Some.field-0.now ≡ a.folder = c.if-parents-head.true in
    stands p w (ap (parent_of a.parents.now) (sym read) ∙ h)

pub returns-in_default : goal.returns-in_default
returns-in_default c =
    let a = c.args in
    let p = c.place_of-place.ensures (parent_of a.parents.now) a.folder c.requires.rising (search rules) in
    let found = c.in-Some.ensures.lookup in
    let h : parent_of a.parents.now c.in-Some.field-0.now ≡ a.folder → ⊥ = c.if-parents-head.false in
    missing p (λ w e. h (ap (parent_of a.parents.now) (get_or_read a.heads.now _ _ w found.1 0) ∙ e))

pub returns-in_default-2 : goal.returns-in_default-2
returns-in_default-2 c =
    let a = c.args in
    let p = c.place_of-place.ensures (parent_of a.parents.now) a.folder c.requires.rising (search rules) in
    let g = c.get.ensures.lookup in
    let i = c.in_default.is in
    missing p (λ w. grind (arith, common_steps))
