-- The checks decide; without a fault the image is written and the bookmark goes on by its length.
use Rattle.std.specs.Prelude.{Option, Ok}
use Prim.Native.Nat.{ℕ, ◌+◌}
use mathlib.Core.Path.{◌≡◌, sym, ap, ap₂, ◌∙◌}
use native.Mathlib.Omega.{arith}
use lib.ListN.{length}
use borrow.Author.Tests.{ne_eqb}
use Rattle.refusal.proofs.Numbers.{number_above_zero}
use Rattle.format.specs.Blocks.{image}
use Rattle.format.specs.Asked.{asked}
use Rattle.format.proofs.Images.{length-image}
use Rattle.encode.proofs.Lengths.{lengths_fit}
use Rattle.request.proofs.Rules.{request_sound}
use Rattle.volume.specs.Reading.{mark_after}
use Rattle.volume.specs.Writing.{append_answer, append_buffer}
use Rattle.volume.proofs.Passed.{append-passed}
use Rattle.volume.proofs.Writers.{image_len}
use Rattle.volume.proofs.Bookmark.append.Goals as goal

pub returns-in-Err-clause-answer : goal.returns-in-Err-clause-answer
unfolding append_answer
returns-in-Err-clause-answer c =
    rw (← c.in-Err.ensures.fault, ne_eqb _ _ (number_above_zero c.in-Err.fault), c.refusal_of.ensures)

pub returns-in-Err-clause-buffer : goal.returns-in-Err-clause-buffer
unfolding append_buffer
returns-in-Err-clause-buffer c = rw (← c.in-Err.ensures.fault, ne_eqb _ _ (number_above_zero c.in-Err.fault))

pub write_block-requires : goal.write_block-requires
write_block-requires c =
    let passed = append-passed _ _ _ (sym c.in_default.ensures.fault) in
    record { in_bounds = passed.fits; lengths_fit = lengths_fit _ (request_sound _ c.in_default.ensures.sized passed.own).fit }

pub overflow_add-end : goal.overflow_add-end
overflow_add-end c =
    let passed = append-passed _ _ _ (sym c.in_default.ensures.fault) in
    omega (arith, passed.fits, length-image (asked c.args.block), c.fixed_len.ensures)

pub overflow_add-end-2 : goal.overflow_add-end-2
overflow_add-end-2 c =
    let passed = append-passed _ _ _ (sym c.in_default.ensures.fault) in
    omega (arith, passed.fits, image_len (asked c.args.block) c.fixed_len.ensures c.body_len.ensures)

pub mark_after-requires : goal.mark_after-requires
mark_after-requires c = (append-passed _ _ _ (sym c.in_default.ensures.fault)).counted

pub returns-clause-answer : goal.returns-clause-answer
unfolding append_answer
returns-clause-answer c =
    let a = c.args in
    let n : a.self.offset + c.fixed_len.result + c.body_len.result ≡ a.self.offset + length (image (asked a.block))
    = omega (arith, image_len (asked a.block) c.fixed_len.ensures c.body_len.ensures) in
    rw (← c.in_default.ensures.fault)
    (ap Ok (c.mark_after.ensures ∙ ap₂ (λ (end : ℕ) (time : Option ℕ). mark_after a.self end time) n c.time.ensures))

pub returns-clause-buffer : goal.returns-clause-buffer
unfolding append_buffer
returns-clause-buffer c = rw (← c.in_default.ensures.fault) c.write_block.ensures
