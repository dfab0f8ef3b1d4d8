-- The end comes first, then the checks; without a fault, the block and the next bookmark.
use Rattle.std.specs.Prelude.{Some, Ok}
use mathlib.Core.Path.{sym, ap₂, ◌∙◌}
use Rattle.refusal.proofs.Numbers.{number_above_zero}
use Rattle.block.specs.declared.Block.{Block}
use Rattle.volume.specs.declared.Bookmark.{Bookmark}
use Rattle.volume.proofs.Passed.{read_passed}
use Rattle.volume.proofs.Steps.{end_read, refusal_read, found_read}
use Rattle.volume.proofs.Bookmark.read_by.Goals as goal

pub returns-then-is_end : goal.returns-then-is_end
returns-then-is_end c = end_read _ _ (sym c.is_end.ensures ∙ c.if-is_end.true)

pub returns-in-Err : goal.returns-in-Err
returns-in-Err c =
    refusal_read _ _ _ (sym c.is_end.ensures ∙ c.if-is_end.false) (sym c.in-Err.ensures) (number_above_zero _) c.refusal_at.ensures

pub decode-requires : goal.decode-requires
decode-requires c = (read_passed _ _ (sym c.in_default.ensures)).block.own

pub returns : goal.returns
returns c =
    let a = c.args in
    ap₂ (λ (b : Block) (n : Bookmark). (Ok (Some (record { block = b; number = a.self.number; next = n })))) c.decode.ensures c.next_mark.ensures
    ∙ found_read a.volume.now a.self (sym c.is_end.ensures ∙ c.if-is_end.false) (sym c.in_default.ensures)
