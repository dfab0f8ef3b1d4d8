-- Octets below 0x80, each a character by itself (UTF8-1). Only contracts of private functions cite this.
use Rattle.std.specs.Prelude.{ℕ, ◌≤◌, ◌<◌, List, length, get_or}

-- The octets of the text from `start` on and before `end` are all below 0x80.
pub record AsciiRun (text : List ℕ) (start end : ℕ) : Type 0 where
  pub rising : start ≤ end
  pub within : end ≤ length text
  pub below : (k : ℕ) → start ≤ k → k < end → get_or text k 0 < 0x80
