use Rattle.co_spectra.proofs.Adding.{reduced_alone}
use Rattle.co_spectra.proofs.sums.reduce.Goals as goal

pub returns-clause-same : goal.returns-clause-same
returns-clause-same c f w h =
    reduced_alone _ f c.args.sum.now c.clear.new.self c.add_product.new.self c.reduce.new.into c.args.one.now c.requires.degree w c.clear.ensures h c.reduce.ensures c.requires.one_is c.add_product.ensures
