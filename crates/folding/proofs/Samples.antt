-- Worked samples of the definitions.
use mathlib.Core.Path.{◌≡◌, refl}
use mathlib.Core.List.{[], ◌∷◌, ◌++◌, foldl}
use lib.ListN.{replicate}
use Rattle.folding.specs.inner.Folding.{taken, start, added, delayed, spread, folded}

-- Of no bytes the window is left as it began.
none : folded [] ≡ start
unfolding folded spread start added delayed
none = refl

-- Of a one at x^300 the rest of the divisor is left: a one at each of x^155, x^117, x^89 and 1.
of_the_divisor : spread (foldl taken (replicate 300 0) (1 ∷ replicate 300 0))
    ≡ replicate 144 0 ++ (1 ∷ replicate 37 0) ++ (1 ∷ replicate 27 0) ++ (1 ∷ replicate 88 0) ++ (1 ∷ [])
unfolding spread taken added delayed
of_the_divisor = refl
