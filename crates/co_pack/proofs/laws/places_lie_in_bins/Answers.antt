use Rattle.std.proofs.Common.{arith}
use Rattle.co_pack.proofs.Inside.{inside_bin, one_bin, bins_within}
use Rattle.co_pack.proofs.laws.places_lie_in_bins.Goals as goal

pub returns-clause-bin : goal.returns-clause-bin
returns-clause-bin c = λ lengths size places bins packed i below. packed.count.within i (omega (arith, packed.many))

pub returns-clause-inside : goal.returns-clause-inside
returns-clause-inside c = inside_bin

pub returns-clause-apart : goal.returns-clause-apart
returns-clause-apart c = one_bin

pub returns-clause-few : goal.returns-clause-few
returns-clause-few c = bins_within
