use Rattle.std.proofs.Common.{◌≡◌, ℕ, ◌<◌, length, get_or}
use Rattle.co_math.specs.Parameters.{plain_modulus}
use Rattle.co_matvec.specs.Weights.{keyword_slot}
use Rattle.co_client.proofs.scoring.fill_slots.Given as goal

abbrev pub invariant-loop-p : goal.invariant-loop-p
invariant-loop-p l = record {
  slots : (p : ℕ) → p < l.p → get_or l.slots p 0 ≡ keyword_slot (length l.initial.slots) l.keywords l.fn.block p;
  small : (p : ℕ) → p < l.p → get_or l.slots p 0 < plain_modulus;
}
