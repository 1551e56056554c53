use Rattle.std.proofs.Common.{ℕ, ◌*◌, ◌<◌, ◌∙◌, sym, ap, subst}
use Rattle.std.proofs.lemmas.Result.{IfOk-weaker}
use Rattle.co_switch.specs.Switches.{automorphism}
use Rattle.co_switch.proofs.Adding.{image-degree}
use Rattle.co_switch.proofs.making.make_pairs.Goals as goal

pub substitute-requires-clause-within : goal.substitute-requires-clause-within
substitute-requires-clause-within g c = subst (λ (m : ℕ). c.args.element < 2 * m) (sym c.in_ok-whole.ensures.degree) c.requires.within

pub hide_all-requires-clause-degree : goal.hide_all-requires-clause-degree
hide_all-requires-clause-degree g c = image-degree c.args.element c.in_ok-whole.whole c.in_ok-hidden.hidden c.in_ok-hidden.ensures ∙ c.in_ok-whole.ensures.degree

pub returns : goal.returns
returns g c =
    IfOk-weaker c.hide_all.result _ _ (λ none made. made c.args.element c.requires.odd (c.in_ok-hidden.ensures ∙ ap (automorphism c.args.element) c.in_ok-whole.ensures.value)) c.hide_all.ensures
