use Rattle.std.proofs.Common.{ℕ, List, ◌∙◌, ap}
use Rattle.std.proofs.lemmas.Result.{IfOk-weaker}
use Rattle.co_math.specs.Parameters.{q}
use Rattle.co_math.specs.Coefficients.{residues_of}
use Rattle.co_switch.specs.Switches.{digit_sum}
use Rattle.co_switch.proofs.products.digit_sums.Goals as goal

pub returns-clause-first : goal.returns-clause-first
returns-clause-first c = IfOk-weaker c.sums_of_room.result _ _ (λ sums h ks v. h ks v
    ∙ ap (λ (xs : List ℕ). residues_of q c.args.tables.now (digit_sum xs ks)) c.set.ensures) c.sums_of_room.ensures.first

pub returns-clause-second : goal.returns-clause-second
returns-clause-second c = IfOk-weaker c.sums_of_room.result _ _ (λ sums h ks v. h ks v
    ∙ ap (λ (xs : List ℕ). residues_of q c.args.tables.now (digit_sum xs ks)) c.set.ensures) c.sums_of_room.ensures.second
