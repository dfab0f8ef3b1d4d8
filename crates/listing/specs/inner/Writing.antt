-- Inner page: what the writers of pieces of the text do.
use Rattle.std.specs.Prelude.{ℕ, ◌+◌, ◌≤◌, ◌≡◌, List, ◌++◌, length}
use Rattle.number.specs.Number.{put}
use Rattle.number.specs.Ascii.{ascii}
use Rattle.listing.specs.Decimal.{decimal}

-- from an offset on, a room that was `old` has become `new`. The answer is the offset after the piece, whether or not the piece
-- fits. Where it does, it stands there; where it does not, the room keeps its length, and no more is said of it
pub record Wrote (old : List ℕ) (at : ℕ) (piece new : List ℕ) (answer : ℕ) : Type 0 where
  pub after : answer ≡ at + length piece
  pub room : length new ≡ length old
  pub text : at + length piece ≤ length old → new ≡ put old at piece

-- the form that both kinds of last line have
abbrev pub last_line : (first : List ℕ) (a : ℕ) (second : List ℕ) (b : ℕ) → List ℕ
last_line first a second b = first ++ (decimal a ++ (second ++ (decimal b ++ ascii "\n")))
