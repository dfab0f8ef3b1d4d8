-- A fetch that is not refused has its range in the volume with the number.
use Prim.Native.Nat.{ℕ}
use mathlib.Core.Path.{sym, ap, ◌∙◌}
use native.Mathlib.Nat.{add_comm}
use borrow.Author.Tests.{ne_eqb}
use Rattle.checks.proofs.Tests.{told}
use Rattle.lookup.specs.inner.Part.{fetch_part, fetch_address}
use Rattle.lookup.proofs.Fetch.{at_fault, without_fault, held_in_first, held_in_second}
use Rattle.lookup.proofs.bytes.fetch.Goals as goal

pub returns-then-is_err-clause-bytes : goal.returns-then-is_err-clause-bytes
unfolding fetch_part
returns-then-is_err-clause-bytes c =
    rw (ne_eqb _ 0 (at_fault _ c.fetch_refusal.ensures (told c.is_err.ensures.value c.if-is_err.true)))

pub returns-then-is_err-clause-address : goal.returns-then-is_err-clause-address
unfolding fetch_address
returns-then-is_err-clause-address c =
    rw (ne_eqb _ 0 (at_fault _ c.fetch_refusal.ensures (told c.is_err.ensures.value c.if-is_err.true)))
    (ap (λ (n : ℕ). (c.args.first.ref_ptr.0, n)) (add_comm 0 c.args.first.ref_ptr.1))

pub part_at-requires : goal.part_at-requires
part_at-requires c =
    let sound = without_fault _ c.fetch_refusal.ensures (told c.is_err.ensures.value c.if-is_err.false) in
    (held_in_first _ _ c.args.first.ref_ptr c.args.second.ref_ptr _ _ _ sound (sym c.read_u64.ensures ∙ c.if-read_u64-number.true)).fits

pub returns-then-read_u64-number : goal.returns-then-read_u64-number
returns-then-read_u64-number c =
    let sound = without_fault _ c.fetch_refusal.ensures (told c.is_err.ensures.value c.if-is_err.false) in
    let h = held_in_first _ _ c.args.first.ref_ptr c.args.second.ref_ptr _ _ _ sound (sym c.read_u64.ensures ∙ c.if-read_u64-number.true) in
    record { bytes = c.part_at.ensures.bytes ∙ sym h.bytes; address = c.part_at.ensures.address ∙ sym h.address }

pub part_at-requires-2 : goal.part_at-requires-2
part_at-requires-2 c =
    let sound = without_fault _ c.fetch_refusal.ensures (told c.is_err.ensures.value c.if-is_err.false) in
    (held_in_second _ _ c.args.first.ref_ptr c.args.second.ref_ptr _ _ _ sound (λ e. c.if-read_u64-number.false (c.read_u64.ensures ∙ e))).fits

pub returns : goal.returns
returns c =
    let sound = without_fault _ c.fetch_refusal.ensures (told c.is_err.ensures.value c.if-is_err.false) in
    let h = held_in_second _ _ c.args.first.ref_ptr c.args.second.ref_ptr _ _ _ sound (λ e. c.if-read_u64-number.false (c.read_u64.ensures ∙ e)) in
    record { bytes = c.part_at-2.ensures.bytes ∙ sym h.bytes; address = c.part_at-2.ensures.address ∙ sym h.address }
