-- Wrong writers leave what the claim does not allow, or say so. Assumes nothing.
use Prim.Native.Nat.{ℕ}
use mathlib.Core.Path.{◌≡◌, refl, ap}
use mathlib.Core.Bool.{true≢false}
use mathlib.Core.List.{List, [], ◌∷◌}
use native.Mathlib.Omega.{arith}
use lib.ListN.{replicate, get_or}
use Rattle.format.specs.Layout.{sealed}
use Rattle.format.specs.Blocks.{Block}
use Rattle.format.specs.Headers.{header_fields, header_image}
use Rattle.format.specs.Readings.{volume_of}
use Rattle.request.proofs.Rules.{rules_sized}
use Rattle.volume.specs.Heading.{first_mark}
use Rattle.volume.specs.Answers.{WriteAnswer}
use Rattle.claims.specs.Demand3.{extended, Judged, none_left, accepted, refused, NoTableDue, appends, Demand3}
use Rattle.claims.specs.Wrong.{stores_nothing, always_due}
use Rattle.claims.proofs.Tried.{bare, bare_keeps, bare_long, whole, of_bare, bare_data, data_rules, data_appended, roomy, roomy_long, roomy_bytes, started}

-- Written afresh in a buffer of zeros it begins with the magic bytes, and not with zeros.
pub stores_nothing_lem : Demand3 stores_nothing → ⊥
unfolding volume_of header_image header_fields sealed appends
stores_nothing_lem claim =
    let fresh = (of_bare stores_nothing claim).afresh bare (replicate 80 0) (whole bare bare_keeps) (omega (arith, bare_long)) in
    let e : ◌≡◌ {A = ℕ} 0 211 = ap (λ (bytes : List ℕ). get_or bytes 0 0) fresh.same_bytes in
    omega arith

-- After an append to a volume 0 no table is due.
none_due : {room : ℕ} {answers : List WriteAnswer} {blocks : List Block} {block : Block}
    → Judged room bare (block ∷ []) answers blocks → NoTableDue (extended bare blocks)
none_due (accepted permits none_left) = permits.keeps.table
none_due (refused forbids none_left) = tt

pub always_due_lem : Demand3 always_due → ⊥
unfolding appends
always_due_lem claim =
    let list = claim.lists_of_appends roomy (first_mark 0) bare (bare_data 1 ∷ []) roomy_bytes
    (rules_sized (bare_data 1) (data_rules 1 (omega arith)), tt) (started always_due claim refl) in
    let there = data_appended roomy 80 0 1 (omega arith) (omega arith) (omega (arith, roomy_long)) (omega arith) (omega arith) in
    let says = rw there.0 at (list.due_says.1 (none_due list.each_accepted_exactly_if_allowed)) in
    true≢false says
