use Rattle.std.proofs.Common.{◌+◌, ◌*◌, sym, ap, subst, ◌∙◌}
use Rattle.co_switch.specs.Keys.{Key, IsKey, key_degree}
use Rattle.co_wire.specs.Bodies.{key_bytes}
use Rattle.co_wire.specs.Parts.{AreInRangeTo, SpellsBetween}
use Rattle.co_wire.proofs.Keyed.{pairs-degree, pairs-key}
use Rattle.co_wire.proofs.key_bodies.read_key.Goals as goal

pub returns-clause-read : goal.returns-clause-read
returns-clause-read c =
    let n = c.args.degree in
    let body = c.args.body.now in
    let pairs = c.in_ok-read_pairs.ensures.pairs in
    subst (λ (key : Key). SpellsBetween c.args.from (c.args.from + 24 * n) (key_bytes key) body × AreInRangeTo body (c.args.from + 24 * n)) (sym c.in_ok-from_parts.ensures)
    (pairs.spelled, pairs.in_range)

pub from_parts-requires : goal.from_parts-requires
from_parts-requires c = pairs-key c.args.degree c.args.element c.args.from (c.args.from + 24 * c.args.degree) c.read_pairs.new.k0.items c.read_pairs.new.k1.items c.args.body.now c.in_ok-read_pairs.ensures.pairs c.requires.odd c.requires.within

pub returns-clause-degree : goal.returns-clause-degree
returns-clause-degree c = ap (λ (key : Key). key_degree key) c.in_ok-from_parts.ensures ∙ pairs-degree c.args.degree c.args.element c.args.from (c.args.from + 24 * c.args.degree) c.read_pairs.new.k0.items c.read_pairs.new.k1.items c.args.body.now c.in_ok-read_pairs.ensures.pairs

pub returns-clause-key : goal.returns-clause-key
returns-clause-key c = subst (λ (key : Key). IsKey key) (sym c.in_ok-from_parts.ensures) (pairs-key c.args.degree c.args.element c.args.from (c.args.from + 24 * c.args.degree) c.read_pairs.new.k0.items c.read_pairs.new.k1.items c.args.body.now c.in_ok-read_pairs.ensures.pairs c.requires.odd c.requires.within)
