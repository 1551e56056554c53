use Rattle.co_rns.proofs.Wholes.{split_back}
use Rattle.co_rns.proofs.pairs.Pair.split.Goals as goal

pub returns : goal.returns
returns c = split_back c.args.coeffs.now c.in_ok-reduce.field-0.coeffs c.in_ok-reduce-2.field-0.coeffs c.requires.reduced c.in_ok-reduce.ensures.coeffs c.in_ok-reduce-2.ensures.coeffs
