use Rattle.std.proofs.Common.{length, refl, sym, subst, ◌∙◌}
use Rattle.co_math.specs.Coefficients.{IsDegree}
use Rattle.co_math.proofs.Degrees.{degree_positive}
use Rattle.co_slots.proofs.Placing.{plain_values, slots_of_values}
use Rattle.co_slots.proofs.slots.SlotTable.encode.Goals as goal

pub scatter-requires-clause-degree : goal.scatter-requires-clause-degree
scatter-requires-clause-degree c = subst IsDegree (c.degree.ensures.value ∙ c.requires.scratch_degree ∙ sym c.requires.one_degree) c.degree.ensures.valid

pub returns-clause-slots : goal.returns-clause-slots
returns-clause-slots c =
    let n = length c.args.values.now in
    let degree : IsDegree n = subst IsDegree (c.degree.ensures.value ∙ c.requires.scratch_degree ∙ sym c.requires.one_degree) c.degree.ensures.valid in
    let size = c.self.view_is ∙ sym c.requires.one_degree in
    let is = plain_values c.self.inside.table.modulus c.self.inside.table.degree n c.inverse.new.into.coeffs c.scatter.new.into.values c.self.invariant.plain size c.inverse.ensures.values.values in
    slots_of_values n c.inverse.new.into.coeffs c.args.values.now c.scatter.new.into.values (degree_positive n degree) (c.inverse.ensures.degree ∙ size) refl is c.scatter.ensures.values
