-- Numbers of terms in a vocabulary, which ascends in bytes.
use Rattle.std.specs.Prelude.{ℕ, not, List, [], ◌∷◌, filter, Option}
use Rattle.std.specs.List.{list_any, position, cons_option}
use Rattle.std.specs.Str.{bytes_eq}

-- the number of a term: its place in the vocabulary, from 0
abbrev pub number_of : List (List ℕ) → List ℕ → Option ℕ
number_of vocabulary term = position (bytes_eq term) vocabulary

-- the numbers of those terms that are in the vocabulary, in the order of the terms
abbrev pub numbers_of : List (List ℕ) → List (List ℕ) → List ℕ
numbers_of vocabulary [] = []
numbers_of vocabulary (w ∷ ws) = cons_option (number_of vocabulary w) (numbers_of vocabulary ws)

-- the terms that are not in the vocabulary
abbrev pub unknown_in : List (List ℕ) → List (List ℕ) → List (List ℕ)
unknown_in vocabulary terms = filter (λ w. not (list_any (bytes_eq w) vocabulary)) terms
