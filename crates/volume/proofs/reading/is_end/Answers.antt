-- The four conditions of the end, in turn.
use borrow.Author.Tests.{le-leb, lt-leb, eq-eqb, ne_eqb}
use Rattle.volume.specs.Reading.{is_end}
use Rattle.volume.proofs.reading.is_end.Goals as goal

pub returns-then-volume-gt-VOLUME_LIMIT : goal.returns-then-volume-gt-VOLUME_LIMIT
unfolding is_end
returns-then-volume-gt-VOLUME_LIMIT c = rw (lt-leb _ _ c.if-volume-gt-VOLUME_LIMIT.true)

pub returns-then-mark-lt-HEADER_LEN : goal.returns-then-mark-lt-HEADER_LEN
unfolding is_end
returns-then-mark-lt-HEADER_LEN c = rw (le-leb _ _ c.if-volume-gt-VOLUME_LIMIT.false, lt-leb _ _ c.if-mark-lt-HEADER_LEN.true)

pub returns-then-mark-volume : goal.returns-then-mark-volume
unfolding is_end
returns-then-mark-volume c = rw (le-leb _ _ c.if-volume-gt-VOLUME_LIMIT.false, le-leb _ _ c.if-mark-lt-HEADER_LEN.false, ne_eqb _ _ c.if-mark-volume.true)

pub returns : goal.returns
unfolding is_end
returns c = rw (le-leb _ _ c.if-volume-gt-VOLUME_LIMIT.false, le-leb _ _ c.if-mark-lt-HEADER_LEN.false, eq-eqb _ _ c.if-mark-volume.false)
