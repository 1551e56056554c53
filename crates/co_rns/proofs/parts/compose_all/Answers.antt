use Rattle.std.proofs.Common.{sym, ◌∙◌, arith}
use Rattle.std.proofs.lemmas.List.{ext_get_or}
use Rattle.co_rns.specs.Residue_pairs.{all_composed}
use Rattle.co_rns.proofs.Composing.{length-all_composed}
use Rattle.co_rns.proofs.parts.compose_all.Goals as goal

pub returns : goal.returns
returns c =
    let all = all_composed c.args.first.now.coeffs c.args.second.now.coeffs in
    let len = length-all_composed c.args.first.now.coeffs c.args.second.now.coeffs c.requires.one_degree in
    ext_get_or 0 c.loop-k.into all (c.loop-k.invariant.len ∙ c.requires.into_degree ∙ sym len)
    (λ j u. c.loop-k.invariant.done j (omega (arith, u, c.loop-k.invariant.len)))
