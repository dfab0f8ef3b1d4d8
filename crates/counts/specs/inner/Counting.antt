-- Inner page: lines counted level by level, without going through them. No public contract rests on it.
use Rattle.std.specs.Prelude.{ℕ, ◌+◌, ◌/◌, ◌%◌, ◌≤◌, ◌<◌, min, ◌≡◌, Bool, cond, List, [], ◌∷◌, leb, ltb, eqb, length, get_or}
use Rattle.folders.specs.Lines.{Line, levels, each, entry_lines}
use Rattle.folders.specs.inner.Folders.{siblings}
use Rattle.lines.specs.inner.Giving.{Given}

-- A tally is twice the number of the lines before the first one that is too deep, and one more where there is such a line. So it is
-- odd where a line is too deep, and two tallies are joined by adding them, as long as the first one is even.
unfoldable pub tally : List Line → ℕ
tally [] = 0
tally (line ∷ lines) = cond (leb levels line.depth) 1 (2 + tally lines)

abbrev pub is_odd : (number : ℕ) → Bool
is_odd number = eqb (number % 2) 1

-- the tally of the links of a folder from a place on, with so many levels left
abbrev pub tally_from : (parents children : List ℕ) (left place : ℕ) → ℕ
tally_from parents children left place = tally (each (entry_lines parents children left) (siblings parents place))

-- what a count is capped at, so that sums fit: an even number above every room, which is the length of a list of numbers
abbrev pub most : ℕ
most = 4611686018427387904

abbrev pub capped : (count : ℕ) → ℕ
capped count = min count most

-- the count of a link's line, of what it holds and of what stands behind it
unfoldable pub joined : (inside behind : ℕ) → ℕ
joined inside behind = cond (is_odd inside) (capped (inside + 2)) (capped (inside + 2 + behind))

-- `counts` has the capped tallies with so many levels left
abbrev pub Counted : (parents children counts : List ℕ) (left : ℕ) → Type 0
Counted parents children counts left =
    (i : ℕ) → i ≤ length parents → get_or counts i 0 ≡ capped (tally_from parents children left i)

-- the index stays within the table, and the next link of a folder stands behind
pub record Within (nexts firsts : List ℕ) (links : ℕ) : Type 0 where
  pub next_each : links ≤ length nexts
  pub first_each : links ≤ length firsts
  pub behind : (i : ℕ) → i < links → i < get_or nexts i 0
  pub next_place : (i : ℕ) → i < links → get_or nexts i 0 ≤ links
  pub first_place : (i : ℕ) → i < links → get_or firsts i 0 ≤ links

-- `counts` has, from a place on, what follows from the counts with one level less
pub record Follows (nexts firsts below counts : List ℕ) (links from : ℕ) : Type 0 where
  pub last : get_or counts links 0 ≡ 0
  pub step : (i : ℕ) → from ≤ i → i < links
      → get_or counts i 0 ≡ joined (get_or below (get_or firsts i 0) 0) (get_or counts (get_or nexts i 0) 0)

-- no count of so many links, nor the last one, is above the cap
abbrev pub Small : (counts : List ℕ) (links from : ℕ) → Type 0
Small counts links from = (i : ℕ) → from ≤ i → i ≤ links → get_or counts i 0 ≤ most

-- the counts below a place are the same
abbrev pub Same : (counts others : List ℕ) (to : ℕ) → Type 0
Same counts others to = (i : ℕ) → i < to → get_or counts i 0 ≡ get_or others i 0

-- where no level is left, the line of every link is too deep
pub record Bottom (counts : List ℕ) (links to : ℕ) : Type 0 where
  pub last : get_or counts links 0 ≡ 0
  pub deep : (i : ℕ) → i < to → get_or counts i 0 ≡ 1

-- what giving the lines of a tally answers: the room has two numbers a line, and a line for which there is none stands before a
-- later one that is too deep
unfoldable pub given_at : (room count : ℕ) → Given
given_at room count =
    cond (ltb (room / 2) (count / 2))
    (record { lines = room / 2; fault = 17 })
    (record { lines = count / 2; fault = cond (is_odd count) 24 0 })
