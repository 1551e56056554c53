use Rattle.std.proofs.Common.{◌≡◌, length}
use Rattle.co_ring.specs.declared.moduli.Modulus.TheVariants.{Plain}
use Rattle.co_client.proofs.Drawn.{AreAsked}
use Rattle.co_client.proofs.scoring.score_queries.Given as goal

abbrev pub invariant-loop-block : goal.invariant-loop-block
invariant-loop-block g l = record {
  slots_degree : length l.slots ≡ l.reader.shape.degree;
  scratch_modulus : l.scratch.modulus ≡ Plain;
  scratch_degree : length l.scratch.values ≡ l.reader.shape.degree;
  message_modulus : l.message.modulus ≡ Plain;
  message_degree : length l.message.coeffs ≡ l.reader.shape.degree;
  asked : AreAsked l.reader.shape l.reader.secret l.keywords l.block (g.R.Rng.stream l.fn.rng) l.body.items (g.R.Rng.stream l.rng);
}
