-- Inner page: what listing lines leaves of a list, and what is answered of it. No public contract rests on it.
use Rattle.std.specs.Prelude.{ℕ, ◌≡◌, cond, List, eqb, length}
use Rattle.number.specs.Number.{put}
use Rattle.checks.specs.Checks.{first_fault}
use Rattle.folders.specs.Lines.{Line, line_numbers}
use Rattle.lines.specs.inner.Giving.{Given}
use Rattle.tree.specs.Listing.{lines_order}

pub record Listed (lines : List Line) (old : List ℕ) (given : Given) (new : List ℕ) : Type 0 where
  pub fault_is : given.fault ≡ first_fault (lines_order (length old) 0 lines)
  pub lines_are : given.fault ≡ 0 → given.lines ≡ length lines
  pub list_is : new ≡ cond (eqb given.fault 0) (put old 0 (line_numbers lines)) old
