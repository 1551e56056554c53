use Rattle.std.proofs.Common.{◌+◌, ◌∙◌, ap, [], ◌∷◌, List, arith, subst}
use Rattle.std.proofs.lemmas.List.{get_or_read}
use Rattle.co_rns.specs.Spectra.{PairValues, IsPairSumWithAll, spectrum_degree}
use Rattle.co_switch.proofs.products.add_three.Goals as goal

pub returns : goal.returns
returns c = λ d.
    let keys = c.args.keys.now in
    let at = c.args.at in
    let count = c.requires.keys.count in
    let one = get_or_read keys at c.index-keys-at.result (omega (arith, c.requires.place, count)) c.index-keys-at.is d in
    let two = get_or_read keys (at + 1) c.index-keys-at-2.result (omega (arith, c.requires.place, count)) c.index-keys-at-2.is d in
    let three = get_or_read keys (at + 2) c.index-keys-at-3.result (omega (arith, c.requires.place, count)) c.index-keys-at-3.is d in
    subst (λ (ps : List (PairValues × PairValues)). IsPairSumWithAll c.args.sum.now ps c.add_three.new.self)
    (λ i. (c.args.room.now.low, one i) ∷ (c.args.room.now.middle, two i) ∷ (c.args.room.now.high, three i) ∷ [])
    c.add_three.ensures

pub add_three-requires-clause-b_degree : goal.add_three-requires-clause-b_degree
add_three-requires-clause-b_degree c =
    ap spectrum_degree c.index-keys-at.is ∙ c.requires.keys.degree c.args.at c.index-keys-at.result (omega (arith, c.requires.place))

pub add_three-requires-clause-d_degree : goal.add_three-requires-clause-d_degree
add_three-requires-clause-d_degree c =
    ap spectrum_degree c.index-keys-at-2.is ∙ c.requires.keys.degree (c.args.at + 1) c.index-keys-at-2.result (omega (arith, c.requires.place))

pub add_three-requires-clause-f_degree : goal.add_three-requires-clause-f_degree
add_three-requires-clause-f_degree c =
    ap spectrum_degree c.index-keys-at-3.is ∙ c.requires.keys.degree (c.args.at + 2) c.index-keys-at-3.result (omega (arith, c.requires.place))
