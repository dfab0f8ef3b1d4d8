-- A digit's code is below 256, so it is one byte.
use Prim.Native.Nat.{◌+◌, ◌%◌}
use mathlib.Core.Path.{◌≡◌, ◌∙◌}
use native.Mathlib.Omega.{arith}
use Rattle.number.specs.Number.{le_bytes}
use borrow.Author.Rules.{rules}
use Rattle.listing.proofs.text.put_digit.Goals as goal

pub returns : goal.returns
unfolding le_bytes
returns c =
    let byte : (48 + c.args.value) % 256 ≡ 48 + c.args.value
    = omega arith in
    record { after = search rules; room = search rules; text = λ h. c.write_u8.ensures ∙ rw byte }
