-- The sum keeps its degree.
use Rattle.std.proofs.Common.{◌≡◌}
use Rattle.co_bfv.specs.Ciphertexts.{ciphertext_degree}
use Rattle.coeus_vectors.proofs.bfv.add_times.Given as goal

abbrev pub invariant-loop-turn : goal.invariant-loop-turn
invariant-loop-turn l = ciphertext_degree l.sum ≡ ciphertext_degree l.one
