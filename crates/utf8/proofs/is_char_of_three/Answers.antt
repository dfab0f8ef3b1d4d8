-- Each first octet is in the first range of one line of UTF8-3, and the rest of that line is looked at.
use mathlib.Core.Logic.{⊎_elim}
use native.Mathlib.Omega.{arith}
use lib.ListN.{get_or}
use Rattle.utf8.proofs.Forms.{utf8_3-E0, utf8_3-E1, utf8_3-ED, utf8_3-EE}
use Rattle.utf8.proofs.Order.{below_or_not}
use Rattle.utf8.proofs.Reading.{char_of_form}
use Rattle.utf8.proofs.is_char_of_three.Goals as goal

pub returns-in-224 : goal.returns-in-224
returns-in-224 c =
    char_of_form c.args.text.now c.args.at c.requires.0 utf8_3-E0 (omega arith) (omega arith) _ c.two_follow.ensures

pub returns-in-237 : goal.returns-in-237
returns-in-237 c =
    char_of_form c.args.text.now c.args.at c.requires.0 utf8_3-ED (omega arith) (omega arith) _ c.two_follow-in-237.ensures

pub returns-in_default : goal.returns-in_default
returns-in_default c =
    ⊎_elim
    (λ l. char_of_form c.args.text.now c.args.at c.requires.0 utf8_3-E1 (omega arith) (omega arith) _ c.two_follow-in_default.ensures)
    (λ l. char_of_form c.args.text.now c.args.at c.requires.0 utf8_3-EE (omega arith) (omega arith) _ c.two_follow-in_default.ensures)
    (below_or_not (get_or c.args.text.now c.args.at 0) 0xED)
