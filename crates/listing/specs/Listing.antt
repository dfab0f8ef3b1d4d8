-- The listing of a volume: the forms of its lines, and what `list` answers. Which lines a volume has, claims/specs/Listed.antt says.
use Rattle.std.specs.Prelude.{ℕ, cond, List, ◌++◌, leb, length, Ok, Err}
use Rattle.number.specs.Ascii.{ascii}
use Rattle.refusal.specs.Refusal.{refusal_of}
use Rattle.listing.specs.Answers.{ListAnswer}
use Rattle.listing.specs.Decimal.{decimal}

abbrev pub heading_line : List ℕ
heading_line = ascii "offset id length\n"

-- the length is that of the block's image
unfoldable pub block_line : (offset id len : ℕ) → List ℕ
block_line offset id len = decimal offset ++ (ascii " " ++ (decimal id ++ (ascii " " ++ (decimal len ++ ascii "\n"))))

unfoldable pub end_line : (offset blocks : ℕ) → List ℕ
end_line offset blocks = ascii "end " ++ (decimal offset ++ (ascii " blocks " ++ (decimal blocks ++ ascii "\n")))

unfoldable pub refused_line : (number offset : ℕ) → List ℕ
refused_line number offset = ascii "refused " ++ (decimal number ++ (ascii " at " ++ (decimal offset ++ ascii "\n")))

-- the most bytes that a volume to list may have
abbrev pub list_limit : ℕ
list_limit = 65536

-- how long the text is, or 17 where the room is too small
unfoldable pub list_answer : (room : ℕ) (text : List ℕ) → ListAnswer
list_answer room text = cond (leb (length text) room) (Ok (length text)) (Err (refusal_of 17))
