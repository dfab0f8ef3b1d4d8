-- What is written, and the bytes of the words that are left, are those of all words.
use Rattle.std.proofs.Common.{◌≡◌, ◌*◌, ◌++◌, length, take, drop}
use Rattle.sha256.proofs.Endian.{bytes_of}
use Rattle.sha256.proofs.finishing.bytes_of.Given as goal

abbrev pub invariant-loop-i : goal.invariant-loop-i
invariant-loop-i l = record {
  long : length l.digest ≡ 32;
  written : take (4 * l.i) l.digest ++ bytes_of (drop l.i l.word-items) ≡ bytes_of l.word-items;
}
