-- Inner page: what the contracts inside the crate cite, ends of the tables of Order, which several kinds share or one function
-- answers.
use Rattle.std.specs.Prelude.{ℕ, ◌+◌, not, List, [], ◌∷◌, ◌++◌, ltb, length}
use Rattle.number.specs.Number.{part}
use Rattle.checks.specs.Checks.{Check, check}
use Rattle.links.specs.inner.Tests.{some_name_not_text, some_link_twice}
use Rattle.utf8.specs.inner.Length.{is_text}
use Rattle.block.specs.Order.{rest_cut, checksum_wrong}

-- the end of a block whose CRC begins at `end`: 2 (rest), 5
abbrev pub sealed_order : (volume : List ℕ) (offset end : ℕ) → List Check
sealed_order volume offset end =
    check (rest_cut volume end) 2
    ∷ check (checksum_wrong volume offset end) 5
    ∷ []

-- a block whose fixed fields end at `from`, and whose variable parts are the `len` bytes after them, of which the first `text` are a
-- text: 2 (fixed fields), 2 (rest), 5, 10
abbrev pub text_order : (volume : List ℕ) (offset from text len : ℕ) → List Check
text_order volume offset from text len =
    check (ltb (length volume) from) 2 ∷ sealed_order volume offset (from + len) ++ (check (not (is_text (part volume from text))) 10 ∷ [])

-- the same of two paths of n and m bytes: 2 (fixed fields), 2 (rest), 5, 10 (either path)
abbrev pub paths_order : (volume : List ℕ) (offset from n m : ℕ) → List Check
paths_order volume offset from n m =
    text_order volume offset from n (n + m) ++ (check (not (is_text (part volume (from + n) m))) 10 ∷ [])

-- the links of a table: 10, 13
abbrev pub links_order : (links : List ℕ) (count : ℕ) → List Check
links_order links count =
    check (some_name_not_text links count) 10
    ∷ check (some_link_twice links count) 13
    ∷ []
