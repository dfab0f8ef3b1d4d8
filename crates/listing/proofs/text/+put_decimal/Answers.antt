-- The last digit follows the digits of a tenth, a number below the first.
use Prim.Native.Nat.{◌<◌, ◌/◌}
use native.Mathlib.Omega.{arith}
use Rattle.listing.proofs.Digits.{decimal_one, decimal_more, length-one, length_more}
use Rattle.listing.proofs.Pieces.{then}
use Rattle.listing.proofs.text.+put_decimal.Goals as goal

pub put_digit-requires : goal.put_digit-requires
put_digit-requires t c = (c.if-value-lt10.true, omega (arith, length-one c.args.value c.if-value-lt10.true, c.requires))

pub returns-then-value-lt10 : goal.returns-then-value-lt10
returns-then-value-lt10 t c = rw (decimal_one _ c.if-value-lt10.true) c.put_digit.ensures

pub put_decimal-last-requires : goal.put_decimal-last-requires
put_decimal-last-requires t c =
    let falls : c.args.value / 10 < t = omega (arith, c.decreases) in
    (falls, omega (arith, length_more c.args.value c.if-value-lt10.false, c.requires))

pub put_digit-requires-2 : goal.put_digit-requires-2
put_digit-requires-2 t c =
    (omega arith, omega (arith, length_more c.args.value c.if-value-lt10.false, c.put_decimal-last.ensures.after, c.requires))

pub returns : goal.returns
returns t c = rw (decimal_more _ c.if-value-lt10.false) (then c.put_decimal-last.ensures c.put_digit-2.ensures)
