use Rattle.std.proofs.Common.{length, sym, subst, ◌∙◌}
use Rattle.co_math.specs.Coefficients.{IsDegree}
use Rattle.co_math.proofs.Degrees.{degree_positive}
use Rattle.co_slots.proofs.Placing.{plain_values, slots_of_values}
use Rattle.co_slots.proofs.slots.SlotTable.decode.Goals as goal

pub gather-requires-clause-degree : goal.gather-requires-clause-degree
gather-requires-clause-degree c = subst IsDegree (c.degree.ensures.value ∙ c.requires.scratch_degree ∙ sym c.requires.into_degree) c.degree.ensures.valid

pub returns-clause-slots : goal.returns-clause-slots
returns-clause-slots c =
    let n = length c.args.into.now in
    let degree : IsDegree n = subst IsDegree (c.degree.ensures.value ∙ c.requires.scratch_degree ∙ sym c.requires.into_degree) c.degree.ensures.valid in
    let is = plain_values c.self.inside.table.modulus c.self.inside.table.degree n c.args.poly.now.coeffs c.forward.new.into.values c.self.invariant.plain (c.self.view_is ∙ sym c.requires.into_degree) c.forward.ensures.values in
    slots_of_values n c.args.poly.now.coeffs c.gather.new.into c.forward.new.into.values (degree_positive n degree) (c.requires.one_degree ∙ sym c.requires.into_degree) c.gather.ensures.len is c.gather.ensures.values
