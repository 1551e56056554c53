-- What the loop of `first_in` keeps.
use Rattle.std.proofs.Common.{◌<◌, ◌≤◌, ℕ, get_or}
use Rattle.co_pack.proofs.packing.first_in.Given as goal

abbrev pub invariant-loop-at : goal.invariant-loop-at
invariant-loop-at l = (b : ℕ) → l.from ≤ b → b < l.at → get_or l.rooms b 0 < l.need
