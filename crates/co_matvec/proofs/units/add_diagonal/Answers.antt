-- What was added is the product with the diagonal polynomial, or with zeros.
use Rattle.std.proofs.Common.{subst, replicate, MatchOption, Option}
use Rattle.co_rns.specs.Spectra.{PairValues}
use Rattle.co_matvec.specs.Diagonals.{AreDiagonalValues}
use Rattle.co_matvec.specs.Replies.{IsDiagonal}
use Rattle.co_matvec.proofs.Adding.{adds_none, adds_some}
use Rattle.co_matvec.proofs.units.add_diagonal.Goals as goal

pub returns-in-None-clause-adds : goal.returns-in-None-clause-adds
returns-in-None-clause-adds c turned v =
    let w = c.args.weights.now in
    adds_none w c.args.a c.args.k c.args.i turned c.args.sum.now c.degree.ensures.degree v.degree c.requires.sum_degree
    (subst (λ (o : Option PairValues). MatchOption o (IsDiagonal w c.args.a c.args.k c.args.i (replicate w.degree 0)) (AreDiagonalValues w c.args.a c.args.k c.args.i)) c.in-None.is c.in_ok-diagonal.ensures)

pub returns-in-Some-clause-adds : goal.returns-in-Some-clause-adds
returns-in-Some-clause-adds c turned v =
    let w = c.args.weights.now in
    adds_some w c.args.a c.args.k c.args.i turned c.args.turned.now c.in-Some.plain c.args.sum.now c.make_room.new.self c.add_product.new.self c.requires.sum_degree v
    (subst (λ (o : Option PairValues). MatchOption o (IsDiagonal w c.args.a c.args.k c.args.i (replicate w.degree 0)) (AreDiagonalValues w c.args.a c.args.k c.args.i)) c.in-Some.is c.in_ok-diagonal.ensures)
    c.make_room.ensures.degree c.make_room.ensures.same c.add_product.ensures.degree c.add_product.ensures.product
