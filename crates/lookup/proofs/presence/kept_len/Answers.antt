-- The rules of a sound extent keep the sum within 64 bits.
use native.Mathlib.Omega.{arith}
use Rattle.extent.proofs.Sound.{Bounded, sound_bounded}
use Rattle.lookup.proofs.presence.kept_len.Goals as goal

pub overflow_add-result : goal.overflow_add-result
overflow_add-result c =
    let bounds : Bounded c.args.e = sound_bounded c.args.e c.requires in
    omega (arith, bounds.cuts)
