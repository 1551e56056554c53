-- What a secret is, as a polynomial.
use Rattle.std.proofs.Common.{ℤ, List, length}
use Rattle.co_math.specs.Coefficients.{signed_coefficients}
use Rattle.co_math.proofs.Degrees.{degree_positive}
use Rattle.co_math.proofs.Residue_lists.{signed-IsWrapped, signed-small}
use Rattle.co_bfv.specs.Secrets.{IsSecret, IsTernary}

-- a secret's polynomial has coefficients -1, 0 and 1
pub secret-IsTernary : (xs : List ℤ) → IsSecret xs → IsTernary (length xs) (signed_coefficients xs)
secret-IsTernary xs h =
    let z = degree_positive (length xs) h.degree in
    record { wrapped = signed-IsWrapped xs z; small = signed-small xs 1 z h.small }
