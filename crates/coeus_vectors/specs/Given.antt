-- The words that a case gives a generator.
use Rattle.std.specs.Prelude.{ℕ, List, [], ◌∷◌}

-- the next of some words, and those behind it: without end zeros follow the words
abbrev pub next_of : List ℕ → ℕ × List ℕ
next_of [] = (0, [])
next_of (w ∷ ws) = (w, ws)
