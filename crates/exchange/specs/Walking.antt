-- What reading a header, a block, a link of a table and an extent of a file answer, as numbers.
use Rattle.std.specs.Prelude.{Some, None, Ok, Err, ◌+◌, Option}
use Rattle.refusal.specs.Refusal.{refusal_of}
use Rattle.format.specs.Layout.{start_of}
use Rattle.format.specs.Headers.{header_layout}
use Rattle.format.specs.declared.Extent.{Extent}
use Rattle.links.specs.declared.Link.{Link as LinkPlace}
use Rattle.volume.specs.Answers.{HeaderAnswer, ReadAnswer}
use Rattle.exchange.specs.Marks.{flag_number}
use Rattle.exchange.specs.Blocks.{found_numbers, no_block}
use Rattle.exchange.specs.declared.HeadingNumbers.{HeadingNumbers}
use Rattle.exchange.specs.declared.BlockNumbers.{BlockNumbers}
use Rattle.exchange.specs.declared.LinkNumbers.{LinkNumbers}
use Rattle.exchange.specs.declared.ExtentNumbers.{ExtentNumbers}

unfoldable pub heading_numbers : HeaderAnswer → HeadingNumbers
heading_numbers (Ok h) = record {
  refusal = 0;
  text = 0;
  start = 0;
  sequence = h.sequence;
  next = h.next.offset;
  due = flag_number h.next.due;
  id = start_of "file system ID" header_layout;
  previous = start_of "previous hash" header_layout;
}
heading_numbers (Err r) =
    record { refusal = r.number; text = r.text; start = r.start; sequence = 0; next = 0; due = 0; id = 0; previous = 0 }

unfoldable pub block_numbers : ReadAnswer → BlockNumbers
block_numbers (Ok (Some f)) = found_numbers f.block f.number f.next
block_numbers (Ok None) = no_block (refusal_of 0) 1
block_numbers (Err r) = no_block r 0

-- a link, and where the next one begins
unfoldable pub link_numbers : Option LinkPlace → LinkNumbers
link_numbers (Some l) =
    record { missing = 0; child = l.child; parent = l.parent; name = l.name; namelen = l.len; next = l.name + l.len }
link_numbers None = record { missing = 1; child = 0; parent = 0; name = 0; namelen = 0; next = 0 }

unfoldable pub extent_numbers : Extent → ExtentNumbers
extent_numbers e = record {
  volume = e.volume;
  start = e.start.0;
  size = e.size;
  multiplicity = e.multiplicity;
  count = e.count;
  pre = e.pre;
  post = e.post;
  logical = e.logical.0;
}
