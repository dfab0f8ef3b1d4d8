-- The window in the buffer. Only contracts of private functions cite this.
use Rattle.std.specs.Prelude.{ℕ, ◌≡◌, List, length, take, drop}

-- A buffer of a window and room for 2,048 bytes more, with the window at a place of it.
pub record Holds (buffer : List ℕ) (place : ℕ) (window : List ℕ) : Type 0 where
  pub long : length buffer ≡ 2348
  pub there : take 300 (drop place buffer) ≡ window
