-- Each first octet is in the first range of one line of UTF8-4, and the rest of that line is looked at; else it is in none.
use native.Mathlib.Omega.{arith}
use Rattle.utf8.proofs.Forms.{utf8_4-F0, utf8_4-F1, utf8_4-F4}
use Rattle.utf8.proofs.Reading.{char_of_form, no_char_beyond}
use Rattle.utf8.proofs.is_char_of_four.Goals as goal

pub returns-in-240 : goal.returns-in-240
returns-in-240 c =
    char_of_form c.args.text.now c.args.at c.requires.0 utf8_4-F0 (omega arith) (omega arith) _ c.three_follow.ensures

pub returns-in-241-to-243 : goal.returns-in-241-to-243
returns-in-241-to-243 c =
    char_of_form c.args.text.now c.args.at c.requires.0 utf8_4-F1 (omega arith) (omega arith) _ c.three_follow-in-241-to-243.ensures

pub returns-in-244 : goal.returns-in-244
returns-in-244 c =
    char_of_form c.args.text.now c.args.at c.requires.0 utf8_4-F4 (omega arith) (omega arith) _ c.three_follow-in-244.ensures

pub returns-in_default : goal.returns-in_default
returns-in_default c = no_char_beyond c.args.text.now c.args.at c.requires.0 (omega arith)

pub returns-in_default-2 : goal.returns-in_default-2
returns-in_default-2 c = no_char_beyond c.args.text.now c.args.at c.requires.0 (omega arith)
