-- Sums of no products have the degree.
use Rattle.std.proofs.Common.{◌∙◌}
use Rattle.co_matvec.proofs.Numbered.{some-words}
use Rattle.co_matvec.proofs.Partition.{empty-degrees}
use Rattle.co_matvec.proofs.units.Sums.none.Goals as goal

pub invariant_of-result : goal.invariant_of-result
invariant_of-result c = record {
  word = some-words c.args.weights.now;
  count = c.in_ok-sums.ensures.count;
  degrees = empty-degrees c.args.weights.now.degree c.in_ok-sums.sums.items c.in_ok-sums.ensures.empty;
  room_degree = let v = c.in_ok-room.ensures.first_values in v.len ∙ c.degree.ensures.value;
}
