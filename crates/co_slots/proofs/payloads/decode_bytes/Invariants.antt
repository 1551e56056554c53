use Rattle.std.proofs.Common.{◌≡◌, ◌*◌, length}
use Rattle.co_math.specs.Coefficients.{AreBelow}
use Rattle.co_slots.proofs.Spelling.{IsPayloadSoFar}
use Rattle.co_slots.proofs.payloads.decode_bytes.Given as goal

abbrev pub invariant-loop-k : goal.invariant-loop-k
invariant-loop-k l = record {
  len : length l.bytes ≡ 2 * l.k;
  below : AreBelow 256 l.bytes;
  spelled : IsPayloadSoFar l.k l.bytes l.poly.coeffs;
}
