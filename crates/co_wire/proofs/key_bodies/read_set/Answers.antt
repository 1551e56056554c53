use Rattle.std.proofs.Common.{◌≡◌, ◌+◌, ◌*◌, sym, ap, subst, ℕ}
use Rattle.co_switch.specs.Keys.{Keys, expansion_element}
use Rattle.co_wire.specs.Parts.{AreReadKeys, IsSetRead}
use Rattle.co_wire.proofs.Keyed.{set-read}
use Rattle.co_wire.proofs.key_bodies.read_set.Goals as goal

pub from_parts-requires : goal.from_parts-requires
from_parts-requires c =
    let n = c.args.degree in
    let turns = c.args.turns in
    let more = c.args.levels in
    let keys : Keys = record { rotations = c.read_rotations.new.keys.items; expansions = c.read_expansions.new.keys.items } in
    let mid : turns * (24 * c.get.result) ≡ turns * (24 * n) = ap (λ (m : ℕ). turns * (24 * m)) c.get.ensures.value in
    (set-read n turns more (turns * (24 * n)) (turns * (24 * n) + more * (24 * n)) keys c.args.body.now c.requires.known c.requires.turns c.requires.few c.requires.whole c.in_ok-read_rotations.ensures.read
    (subst (λ (m : ℕ). AreReadKeys n (expansion_element n) m more (m + more * (24 * n)) keys.expansions c.args.body.now) mid c.in_ok-read_expansions.ensures.read)).set

pub returns-clause-spelled : goal.returns-clause-spelled
returns-clause-spelled c =
    let n = c.args.degree in
    let turns = c.args.turns in
    let more = c.args.levels in
    let keys : Keys = record { rotations = c.read_rotations.new.keys.items; expansions = c.read_expansions.new.keys.items } in
    let mid : turns * (24 * c.get.result) ≡ turns * (24 * n) = ap (λ (m : ℕ). turns * (24 * m)) c.get.ensures.value in
    subst (λ (keys : Keys). IsSetRead n more keys c.args.body.now) (sym c.from_parts.ensures)
    (set-read n turns more (turns * (24 * n)) (turns * (24 * n) + more * (24 * n)) keys c.args.body.now c.requires.known c.requires.turns c.requires.few c.requires.whole c.in_ok-read_rotations.ensures.read
    (subst (λ (m : ℕ). AreReadKeys n (expansion_element n) m more (m + more * (24 * n)) keys.expansions c.args.body.now) mid c.in_ok-read_expansions.ensures.read))
