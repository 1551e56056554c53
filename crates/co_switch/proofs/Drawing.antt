-- Lengths and sizes of what is drawn.
use Rattle.std.proofs.Common.{◌≡◌, ℕ, ◌<◌, ◌≤◌, ◌∙◌, pos, List, [], ◌∷◌, ◌++◌, length, get_or}
use Rattle.std.proofs.Math.Seq.{get_or-append_seam}
use Rattle.std.specs.Int.RustNames.{unsigned_abs}
use Rattle.rand_core.specs.Stream.{Stream}
use Rattle.co_math.specs.Parameters.{error_bound}
use Rattle.co_bfv.specs.Draws.{uniform_draw, error_draw, coefficient_draw, binomial_draw}
use Rattle.co_bfv.proofs.Drawn.{length-drawn, errors_small}

pub length-uniform : (n : ℕ) (s : Stream) → length (uniform_draw n s).0 ≡ n
unfolding uniform_draw
length-uniform n s = length-drawn coefficient_draw n s

pub length-error : (n : ℕ) (s : Stream) → length (error_draw n s).0 ≡ n
unfolding error_draw
length-error n s = length-drawn binomial_draw n s

pub error-small : (n : ℕ) (s : Stream) (i : ℕ) → i < n → unsigned_abs (get_or (error_draw n s).0 i (pos 0)) ≤ error_bound
unfolding error_draw
error-small n s i l = let h = errors_small n s in h.each i l

-- what was pushed last
pub last_read : (xs ys : List (List ℕ)) (x y : List ℕ) (at : ℕ) → ys ≡ xs ++ x ∷ [] → at ≡ length xs → y ≡ get_or ys at y → y ≡ x
last_read xs ys x y at e i r = r ∙ (λ t. get_or (e t) (i t) y) ∙ get_or-append_seam xs x [] y
