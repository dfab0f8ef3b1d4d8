use Rattle.utf8.proofs.Reading.{reached_run, reached_char, reached_stop, reached_end}
use Rattle.utf8.proofs.well_formed_len.Goals as goal

pub loop-i-preserved-then-lead-lt128 : goal.loop-i-preserved-then-lead-lt128
loop-i-preserved-then-lead-lt128 c = reached_run _ _ _ c.loop-i.invariant c.skip_ascii-i.ensures.1

-- A test for a character of 2 octets passes them, or the loop's place is the answer.
pub returns-then-not-is_char_of_two : goal.returns-then-not-is_char_of_two
returns-then-not-is_char_of_two c =
    reached_stop c.args.text.now c.loop-i.i 1 _ c.loop-i.invariant c.is_char_of_two.ensures c.if-not-is_char_of_two.true

pub loop-i-preserved-then-lead-lt224 : goal.loop-i-preserved-then-lead-lt224
loop-i-preserved-then-lead-lt224 c =
    reached_char c.args.text.now c.loop-i.i 1 _ c.loop-i.invariant c.is_char_of_two.ensures c.if-not-is_char_of_two.false

-- A test for a character of 3 octets passes them, or the loop's place is the answer.
pub returns-then-not-is_char_of_three : goal.returns-then-not-is_char_of_three
returns-then-not-is_char_of_three c =
    reached_stop c.args.text.now c.loop-i.i 2 _ c.loop-i.invariant c.is_char_of_three.ensures c.if-not-is_char_of_three.true

pub loop-i-preserved-then-lead-lt240 : goal.loop-i-preserved-then-lead-lt240
loop-i-preserved-then-lead-lt240 c =
    reached_char c.args.text.now c.loop-i.i 2 _ c.loop-i.invariant c.is_char_of_three.ensures c.if-not-is_char_of_three.false

-- A test for a character of 4 octets passes them, or the loop's place is the answer.
pub returns-then-not-is_char_of_four : goal.returns-then-not-is_char_of_four
returns-then-not-is_char_of_four c =
    reached_stop c.args.text.now c.loop-i.i 3 _ c.loop-i.invariant c.is_char_of_four.ensures c.if-not-is_char_of_four.true

pub loop-i-preserved : goal.loop-i-preserved
loop-i-preserved c =
    reached_char c.args.text.now c.loop-i.i 3 _ c.loop-i.invariant c.is_char_of_four.ensures c.if-not-is_char_of_four.false

pub returns : goal.returns
returns c = reached_end _ c.loop-i.i c.loop-i.invariant c.loop-i-test.false
