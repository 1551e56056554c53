-- What the loop of `first_fit` keeps.
use Rattle.std.proofs.Common.{◌<◌, ◌*◌, ℕ, length, get_or}
use Rattle.co_pack.specs.declared.packing.TheConstants.{BLOCK}
use Rattle.co_pack.specs.Rooms.{IsTopped}
use Rattle.co_pack.proofs.packing.first_fit.Given as goal

abbrev pub invariant-loop-block : goal.invariant-loop-block
invariant-loop-block l = IsTopped l.rooms l.tops × ((b : ℕ) → b < l.block * BLOCK → b < length l.rooms → get_or l.rooms b 0 < l.need)
