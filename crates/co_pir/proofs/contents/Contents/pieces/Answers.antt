-- The rows by 64, rounded up.
use Rattle.std.proofs.Common.{ℕ, ◌+◌, ◌*◌, ◌<◌, ◌≤◌, ap, sym, subst, ◌∙◌, arith}
use Rattle.std.specs.Int.{div_ceil}
use Rattle.std.proofs.lemmas.Grind.{div_ceil_times}
use Rattle.std.proofs.Math.Nat.{pow-le-pow_right}
use Rattle.co_math.specs.Coefficients.{IsDegree}
use Rattle.co_pir.specs.Tables.{Table}
use Rattle.co_pir.proofs.contents.Contents.pieces.Goals as goal

some_pieces : (rows p : ℕ) → 1 ≤ rows → rows ≤ p * 64 → 0 < p
some_pieces rows p l u = omega arith

few_pieces : (n rows p : ℕ) → IsDegree n → rows ≤ n → p * 64 < rows + 64 → p ≤ 64
few_pieces n rows p d l u = let most = pow-le-pow_right {n = 2} (omega arith) d.most in omega (arith, d.is, most)

pub returns-clause-value : goal.returns-clause-value
returns-clause-value c = c.div_ceil.ensures ∙ ap (λ (t : Table). div_ceil t.rows 64) c.self.view_is

pub returns-clause-some : goal.returns-clause-some
returns-clause-some c =
    let table = c.self.invariant.0 in
    some_pieces c.self.inside.rows c.div_ceil.result table.some (subst (λ (p : ℕ). c.self.inside.rows ≤ p * 64) (sym c.div_ceil.ensures) (div_ceil_times c.self.inside.rows 64 (omega arith)).0)

pub returns-clause-few : goal.returns-clause-few
returns-clause-few c =
    let table = c.self.invariant.0 in
    few_pieces c.self.inside.degree c.self.inside.rows c.div_ceil.result table.degree table.few (subst (λ (p : ℕ). p * 64 < c.self.inside.rows + 64) (sym c.div_ceil.ensures) (div_ceil_times c.self.inside.rows 64 (omega arith)).1)
