-- One sum of no products more.
use Rattle.std.proofs.Common.{◌+◌, sym, ap, subst, ◌∙◌, length, All}
use Rattle.std.proofs.lemmas.List.{length-append}
use Rattle.std.proofs.lemmas.List.Elements.{All-push}
use Rattle.co_matvec.specs.Sums.{IsEmpty}
use Rattle.co_matvec.proofs.units.empty_sums.Goals as goal

pub loop-a-preserved : goal.loop-a-preserved
loop-a-preserved c = (
  ap length c.in_ok-push.ensures.items ∙ length-append c.loop-a.sums.items _ ∙ ap (λ k. k + 1) c.loop-a.invariant.0,
  subst (All (IsEmpty c.args.weights.now.degree)) (sym c.in_ok-push.ensures.items)
      (All-push (IsEmpty c.args.weights.now.degree) c.loop-a.sums.items c.in_ok-zero.field-0 c.loop-a.invariant.1
      (subst (λ m. IsEmpty m c.in_ok-zero.field-0) c.degree.ensures.value (record { degree = c.in_ok-zero.ensures.degree; none = c.in_ok-zero.ensures.none }))),
)
