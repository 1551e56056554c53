-- What the loop of `greatest_room` keeps.
use Rattle.std.proofs.Common.{◌<◌, ◌≤◌, ℕ, get_or}
use Rattle.co_pack.proofs.packing.greatest_room.Given as goal

abbrev pub invariant-loop-bin : goal.invariant-loop-bin
invariant-loop-bin l = (b : ℕ) → l.from ≤ b → b < l.bin → get_or l.rooms b 0 ≤ l.most
