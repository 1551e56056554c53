use Rattle.std.proofs.Common.{◌≡◌, length}
use Rattle.co_ring.specs.declared.moduli.Modulus.TheVariants.{Plain}
use Rattle.co_client.proofs.Scores.{AreScoresTo}
use Rattle.co_client.proofs.scoring.read_scores.Given as goal

abbrev pub invariant-loop-block : goal.invariant-loop-block
invariant-loop-block l = record {
  slots_degree : length l.slots ≡ l.reader.shape.degree;
  scratch_modulus : l.scratch.modulus ≡ Plain;
  scratch_degree : length l.scratch.values ≡ l.reader.shape.degree;
  scored : AreScoresTo l.reader.shape l.reader.secret l.body l.block l.scores.items;
}
