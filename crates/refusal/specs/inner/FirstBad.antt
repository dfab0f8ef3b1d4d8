-- Inner page: the first bad text, computed. Where all texts are well-formed, the place is past the last.
-- Joined to FirstBad of refusal/Texts by some_bad_first.
use Rattle.std.specs.Prelude.{ℕ, suc, Bool, false, not, cond, ◌||◌, List, [], ◌∷◌}
use Rattle.utf8.specs.inner.Length.{well_formed_length, is_text}
use Rattle.refusal.specs.declared.BadText.{BadText}

-- whether one of the texts is bad
unfoldable pub some_bad : (texts : List (List ℕ)) → Bool
some_bad [] = false
some_bad (text ∷ texts) = not (is_text text) || some_bad texts

-- the same text, with one more before it
abbrev pub one_later : BadText → BadText
one_later bad = record { text = suc bad.text; start = bad.start }

unfoldable pub first_bad : (texts : List (List ℕ)) → BadText
first_bad [] = record { text = 0; start = 0 }
first_bad (text ∷ texts) = cond (is_text text) (one_later (first_bad texts)) (record { text = 0; start = well_formed_length text })
