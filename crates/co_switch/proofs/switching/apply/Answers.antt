use Rattle.std.proofs.Common.{◌+◌, ◌∙◌, sym, ap, subst}
use Rattle.co_math.specs.Polynomials.{substitution}
use Rattle.co_math.specs.Bounds.{switch_bound}
use Rattle.co_bfv.specs.Ciphertexts.{Ciphertext, MeansWithin, ciphertext_degree}
use Rattle.co_switch.specs.Keys.{key_degree}
use Rattle.co_switch.proofs.Switched.{switched_means, degree-switched}
use Rattle.co_switch.proofs.switching.apply.Goals as goal

pub returns-clause-meaning : goal.returns-clause-meaning
returns-clause-meaning g c s m b ws wm good means =
    subst (λ (v : Ciphertext). MeansWithin s v (substitution (key_degree c.args.key.now) c.args.key.now.element m) (b + switch_bound (key_degree c.args.key.now))) (sym c.in_ok-switched.ensures)
    (switched_means c.args.key.now c.args.cipher.now c.element.ensures.key c.degree.ensures.ciphertext c.requires s m b ws wm good means)

pub returns-clause-degree : goal.returns-clause-degree
returns-clause-degree g c = ap ciphertext_degree c.in_ok-switched.ensures ∙ degree-switched c.args.key.now c.args.cipher.now
