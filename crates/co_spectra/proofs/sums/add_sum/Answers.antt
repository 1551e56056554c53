use Rattle.co_spectra.proofs.Adding.{reduced_added}
use Rattle.co_spectra.proofs.sums.add_sum.Goals as goal

pub returns-clause-sum : goal.returns-clause-sum
returns-clause-sum c f g w h k =
    reduced_added _ f g c.args.other.now c.args.sum.now c.add_product.new.self c.reduce.new.into c.args.one.now c.requires.degree w h k c.reduce.ensures c.requires.one_is c.add_product.ensures
