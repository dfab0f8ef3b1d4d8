-- Inner page: lines given one after the other, as long as they can be. No public contract rests on it.
use Rattle.std.specs.Prelude.{ℕ, suc, ◌+◌, ◌*◌, cond, List, [], ◌∷◌, leb, ltb, eqb, length, set, Result, Ok, Err}
use Rattle.refusal.specs.Faults.{number_of}
use Rattle.folders.specs.Lines.{Line, levels}
use Rattle.lines.specs.declared.Stopped.{Stopped}

-- what has been given: the list as it is then, how many lines, and why the next one cannot be given, or 0
abbrev pub State : Type 0
State = record { list : List ℕ; lines : ℕ; fault : ℕ }

-- nothing is at fault so far
abbrev pub sound : (list : List ℕ) (lines : ℕ) → State
sound list lines = record { list = list; lines = lines; fault = 0 }

abbrev pub stopped : State → (fault : ℕ) → State
stopped state fault = record { list = state.list; lines = state.lines; fault = fault }

-- a list with the line behind so many others; as it was where it is too short for it
unfoldable pub with_line : (list : List ℕ) (lines : ℕ) → Line → List ℕ
with_line list lines line =
    cond (leb (2 * suc lines) (length list)) (set (set list (2 * lines) line.depth) (2 * lines + 1) line.place) list

-- a line more
unfoldable pub give : (room : ℕ) → State → Line → State
give room state line =
    cond (eqb state.fault 0)
    (cond (leb levels line.depth) (stopped state 24)
    (cond (ltb room (2 * suc state.lines)) (stopped state 17)
    (sound (with_line state.list state.lines line) (suc state.lines))))
    state

unfoldable pub give_all : (room : ℕ) → State → List Line → State
give_all room state [] = state
give_all room state (line ∷ lines) = give_all room (give room state line) lines

-- how it came out: how many lines are given, and why the next one cannot be, or 0
abbrev pub Given : Type 0
Given = record { lines : ℕ; fault : ℕ }

abbrev pub given_in : State → Given
given_in state = record { lines = state.lines; fault = state.fault }

-- what is answered of it
abbrev pub given_of : Result ℕ Stopped → Given
given_of (Ok lines) = record { lines = lines; fault = 0 }
given_of (Err stopped) = record { lines = stopped.lines; fault = number_of stopped.fault }
