-- A bookmark as numbers, and numbers as a bookmark.
use Rattle.std.specs.Prelude.{ℕ, Bool, not, cond, eqb, Option, Some, None}
use Rattle.volume.specs.declared.Bookmark.{Bookmark}

-- 1 for yes, 0 for no
abbrev pub flag_number : (flag : Bool) → ℕ
flag_number flag = cond flag 1 0

-- whether there is a last time, and it; 0 where there is none
abbrev pub timed_number : Option ℕ → ℕ
timed_number None = 0
timed_number (Some time) = 1

abbrev pub time_number : Option ℕ → ℕ
time_number None = 0
time_number (Some time) = time

-- the bookmark that five numbers give; in two of them any number but 0 is a yes
abbrev pub bookmark_of : (offset due timed time number : ℕ) → Bookmark
bookmark_of offset due timed time number =
    record { offset = offset; due = not (eqb due 0); last = cond (eqb timed 0) None (Some time); number = number }
