-- So many ciphertexts of zeros.
use Rattle.std.proofs.Common.{◌≡◌, length, All}
use Rattle.co_bfv.specs.Ciphertexts.{zero_ciphertext}
use Rattle.co_pir.proofs.replying.empty_sums.Given as goal

abbrev pub invariant-loop-chunk : goal.invariant-loop-chunk
invariant-loop-chunk l = (length l.sums.items ≡ l.chunk) × All (λ c. c ≡ zero_ciphertext l.rows.degree) l.sums.items
