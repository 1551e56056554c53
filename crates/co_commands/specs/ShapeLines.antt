-- The command `shape`: what it prints.
use Rattle.std.specs.Prelude.{◌++◌, [], ◌∷◌, ℕ, List, codes, decimal, Result, Ok, Err}
use Rattle.co_math.specs.Parameters.{q}
use Rattle.co_math.specs.Bounds.{fresh_bound, switch_bound}
use Rattle.co_noise.specs.Shapes.{Numbers}
use Rattle.co_noise.specs.Bounds.{score_bound, retrieve_bound, test_of}
use Rattle.co_noise.specs.declared.testing.TestFault.{TestFault}
use Rattle.co_noise.specs.declared.testing.TestFault.TheVariants.{RowsOverDegree, Score, Records, Bins}

abbrev pub number_line : List ℕ → ℕ → List ℕ
number_line name number = name ++ (codes " " ++ (decimal number ++ (10 ∷ [])))

abbrev pub test_word : Result Numbers TestFault → List ℕ
test_word (Ok s) = codes "yes"
test_word (Err (RowsOverDegree rows degree)) = codes "rows"
test_word (Err (Score bound)) = codes "score"
test_word (Err (Records bound)) = codes "records"
test_word (Err (Bins bound)) = codes "bins"

-- the seven lines of a shape
unfoldable pub shape_text : Numbers → List ℕ
shape_text s = number_line (codes "fresh") fresh_bound
    ++ number_line (codes "switch") (switch_bound s.degree)
    ++ number_line (codes "score") (score_bound s)
    ++ number_line (codes "records") (retrieve_bound s.degree s.rows)
    ++ number_line (codes "bins") (retrieve_bound s.degree s.bins)
    ++ number_line (codes "modulus") q
    ++ (codes "test " ++ (test_word (test_of s) ++ (10 ∷ [])))

-- the status that the test comes to
abbrev pub status_of_test : Result Numbers TestFault → ℕ
status_of_test (Ok s) = 0
status_of_test (Err fault) = 4
