-- The tests are the common checks, in their order; the rest of the table is that of the kind.
use mathlib.Core.Path.{◌≡◌}
use mathlib.Core.Bool.{true, false}
use Rattle.checks.proofs.Laws.{decided}
use Rattle.checks.proofs.Tests.{told, walks}
use Rattle.format.specs.Kinds.{kind_named}
use Rattle.block.specs.Order.{unknown_id, wrong_place}
use Rattle.block.proofs.Ids.{no_kind_known, kind_found}
use Rattle.block.proofs.block_fault.Goals as goal

pub returns-then-volume-gt-VOLUME_LIMIT : goal.returns-then-volume-gt-VOLUME_LIMIT
returns-then-volume-gt-VOLUME_LIMIT c = decided (search walks)

pub returns-then-offset-lt-HEADER_LEN : goal.returns-then-offset-lt-HEADER_LEN
returns-then-offset-lt-HEADER_LEN c = decided (search walks)

pub returns-then-volume-offset : goal.returns-then-volume-offset
returns-then-volume-offset c = decided (search walks)

pub returns-in_default : goal.returns-in_default
returns-in_default c =
    let unknown : unknown_id c.read_u8.result ≡ true = no_kind_known c.read_u8.result c.in_default.ensures in
    rw (← c.read_u8.ensures) (decided (search walks))

pub returns-then-is_out_of_place : goal.returns-then-is_out_of_place
returns-then-is_out_of_place c =
    let found = kind_found c.read_u8.result (kind_named c.in-Some.kind) c.in-Some.ensures in
    let known : unknown_id c.read_u8.result ≡ false = found.1 in
    let wrong : wrong_place c.args.due c.read_u8.result ≡ true =
    rw c.in-Some.ensures at (told c.is_out_of_place.ensures c.if-is_out_of_place.true) in
    rw (← c.read_u8.ensures) (decided (search walks depth 8))

pub returns : goal.returns
returns c =
    let found = kind_found c.read_u8.result (kind_named c.in-Some.kind) c.in-Some.ensures in
    let known : unknown_id c.read_u8.result ≡ false = found.1 in
    let right : wrong_place c.args.due c.read_u8.result ≡ false =
    rw c.in-Some.ensures at (told c.is_out_of_place.ensures c.if-is_out_of_place.false) in
    rw (← c.read_u8.ensures, found.0) (decided (search walks depth 8))
