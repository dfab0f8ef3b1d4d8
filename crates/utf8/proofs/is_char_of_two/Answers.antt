-- From 0xC2 on the first octet is in the first range of UTF8-2; below, it is in that of no form.
use native.Mathlib.Omega.{arith}
use Rattle.utf8.proofs.Forms.{utf8_2}
use Rattle.utf8.proofs.Reading.{char_of_form, no_char_between}
use Rattle.utf8.proofs.is_char_of_two.Goals as goal

pub returns-in_default : goal.returns-in_default
returns-in_default c =
    no_char_between c.args.text.now c.args.at c.requires.0 c.requires.1 (omega arith)

pub returns-in-194-to-223 : goal.returns-in-194-to-223
returns-in-194-to-223 c =
    char_of_form c.args.text.now c.args.at c.requires.0 utf8_2 (omega arith) (omega arith) _ c.one_follows.ensures
