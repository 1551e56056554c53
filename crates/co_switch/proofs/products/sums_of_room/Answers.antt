use Rattle.std.proofs.Common.{ℕ, subst}
use Rattle.std.proofs.lemmas.Result.{IfOk-weaker}
use Rattle.co_rns.specs.Spectra.{IsNoPairSum}
use Rattle.co_switch.specs.Switches.{digit_sum}
use Rattle.co_switch.proofs.products.sums_of_room.Goals as goal

pub gather_digits-requires-clause-none0 : goal.gather_digits-requires-clause-none0
gather_digits-requires-clause-none0 c = subst (λ (n : ℕ). IsNoPairSum n c.in_ok-sum0.sum0) c.degree.ensures c.in_ok-sum0.ensures.first

pub gather_digits-requires-clause-none1 : goal.gather_digits-requires-clause-none1
gather_digits-requires-clause-none1 c = subst (λ (n : ℕ). IsNoPairSum n c.in_ok-sum0.sum1) c.degree.ensures c.in_ok-sum0.ensures.second

pub returns-clause-first : goal.returns-clause-first
returns-clause-first c = IfOk-weaker c.polynomials.result _ _ (λ sums h ks v. h (digit_sum c.args.room.now.digits ks) (c.gather_digits.ensures.first ks v)) c.polynomials.ensures.first

pub returns-clause-second : goal.returns-clause-second
returns-clause-second c = IfOk-weaker c.polynomials.result _ _ (λ sums h ks v. h (digit_sum c.args.room.now.digits ks) (c.gather_digits.ensures.second ks v)) c.polynomials.ensures.second
