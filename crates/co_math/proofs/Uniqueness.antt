-- Contracts on lists of coefficients that only one list meets.
use Rattle.std.proofs.Common.{◌≡◌, ℕ, ◌<◌, sym, ◌∙◌, arith, pos, List, length, get_or}
use Rattle.std.proofs.lemmas.List.{ext_get_or}
use Rattle.co_math.specs.Residues.{Congruent}
use Rattle.co_math.specs.Coefficients.{AreBelow}
use Rattle.co_math.proofs.Residues.{residue-same, residue_small}

-- lists of numbers below m that agree modulo m are one list
pub below_same : (m : ℕ) (xs ys : List ℕ) → length ys ≡ length xs → AreBelow m xs → AreBelow m ys → ((k : ℕ) → k < length xs → Congruent m (pos (get_or xs k 0)) (pos (get_or ys k 0))) → xs ≡ ys
below_same m xs ys e b c h =
    ext_get_or 0 xs ys (sym e) (λ k u.
    sym (residue_small m (get_or xs k 0) (b k u)) ∙ residue-same m (pos (get_or xs k 0)) (pos (get_or ys k 0)) (omega (arith, b k u)) (h k u)
    ∙ residue_small m (get_or ys k 0) (c k (omega arith)))
