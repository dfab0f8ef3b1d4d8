-- Magic and two runs of fields, each with bytes after it, stand one after the other.
use Prim.Native.Nat.{ℕ, ◌≤◌}
use mathlib.Core.Path.{◌≡◌, refl, ap, ◌∙◌}
use mathlib.Core.List.{List, [], ◌∷◌, ◌++◌}
use native.Mathlib.Omega.{arith}
use lib.ListN.{length}
use Rattle.number.specs.Number.{le_bytes, put}
use Rattle.number.proofs.Put.{length-put, put_next}
use Rattle.format.specs.Layout.{laid}
use Rattle.format.specs.Headers.{Header, magic, header_fields}
use Rattle.encode.proofs.Writes.{Written, last, ◌then◌, written}
use Rattle.encode.proofs.write_header_fields.Goals as goal

fields-written : (header : Header) (old : List ℕ) {first second new : List ℕ} → length header.id ≡ 16 → length header.previous ≡ 32
    → 76 ≤ length old → first ≡ put old 0 magic → Written 0 17 (1 ∷ []) (0 ∷ []) header.id first second
    → Written 0 34 (1 ∷ 1 ∷ 8 ∷ []) (0 ∷ 0 ∷ header.sequence ∷ []) header.previous second new → new ≡ put old 0 (header_fields header)
unfolding laid le_bytes header_fields
fields-written header old l k h e f g =
    let n = ap length e ∙ length-put old 0 magic in
    let begun : List ℕ = magic ++ (0 ∷ header.id) in
    let two = put_next old magic (0 ∷ header.id) 0 17 refl (omega arith) e (written f (omega arith)) in
    let m = ap length two ∙ length-put old 0 begun in
    put_next old begun (0 ∷ 0 ∷ le_bytes 8 header.sequence ++ header.previous) 0 34 (omega arith) (omega arith) two
    (written g (omega arith))

pub returns : goal.returns
returns c =
    fields-written (record { id = c.args.id.now; sequence = c.args.sequence; previous = c.args.previous.now })
    c.args.buf.now c.requires.id_len c.requires.previous_len c.requires.in_bounds c.write_bytes.ensures
    (c.write_u8.ensures then last c.write_bytes-2.ensures)
    (c.write_u8-2.ensures then c.write_u8-3.ensures then c.write_u64.ensures then last c.write_bytes-3.ensures)
