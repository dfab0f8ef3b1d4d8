-- The fields are written, and the CRC of their 76 bytes after them.
use Rattle.format.specs.Headers.{Header, header_fields, header_image}
use Rattle.encode.proofs.Writes.{put_sealed}
use Rattle.encode.proofs.Lengths.{length-header_fields}
use Rattle.encode.proofs.write_header.Goals as goal

pub returns : goal.returns
unfolding header_image
returns c =
    let header : Header = record { id = c.args.id.now; sequence = c.args.sequence; previous = c.args.previous.now } in
    put_sealed c.args.buf.now (header_fields header) 0 76 (length-header_fields header c.requires.id_len c.requires.previous_len)
    c.requires.in_bounds c.write_header_fields.ensures c.seal.ensures
