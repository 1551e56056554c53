-- The coefficients of 1.
use Rattle.std.proofs.Common.{◌≡◌, ℕ, zero, suc, ◌<◌, ◌≢◌, sym, ap, ◌∙◌, arith, pos, List, length, get_or, set, replicate}
use Rattle.std.proofs.lemmas.Bool.Decides.{nat_tests}
use Rattle.std.proofs.lemmas.List.{length-set, length-replicate, get_or-replicate, get_or-set_other, get_or-set_same}
use Rattle.co_math.specs.Parameters.{q}
use Rattle.co_math.specs.Coefficients.{coefficients}
use Rattle.co_math.specs.Polynomials.{one_at, unit}
use Rattle.co_math.proofs.Residues.{cong_from}
use Rattle.co_math.proofs.Spreads.{spread-low}
use Rattle.co_math.proofs.Terms.{coefficient-low}
use Rattle.co_spectra.proofs.Agreeing.{AgreeLow}

at : (n k : ℕ) → k < n → pos (get_or (set (replicate n 0) 0 1) k 0) ≡ one_at k
at n zero l = ap pos (get_or-set_same (replicate n 0) 0 1 0 (omega (arith, length-replicate {A = ℕ} n 0)))
at n (suc k) l = ap pos (get_or-set_other (replicate n 0) 0 (suc k) 1 0 (omega arith) ∙ get_or-replicate n (suc k) 0 0 l) ∙ sym (other (suc k) (omega arith))
  where
    other : (i : ℕ) → i ≢ 0 → one_at i ≡ pos 0
    other i ne = grind (arith, nat_tests)

pub one_low : (n : ℕ) (xs : List ℕ) → xs ≡ set (replicate n 0) 0 1 → AgreeLow q n (coefficients xs) (unit n)
unfolding unit
one_low n xs e k l =
    let len : length xs ≡ n = ap length e ∙ length-set (replicate n 0) 0 1 ∙ length-replicate n 0 in
    cong_from q (coefficient-low xs k (omega (arith, len)) ∙ ap (λ ys. pos (get_or ys k 0)) e ∙ at n k l ∙ sym (spread-low n one_at k l))
