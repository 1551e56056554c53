use Rattle.std.proofs.Common.{◌≡◌, length}
use Rattle.co_switch.specs.Keys.{rotation_element}
use Rattle.co_switch.specs.Draws.{keys_draw}
use Rattle.co_switch.proofs.making.make_rotations.Given as goal

abbrev pub invariant-loop-index : goal.invariant-loop-index
invariant-loop-index g l = (l.keys.items, g.R.Rng.stream l.rng) ≡ keys_draw l.fn.secret (rotation_element (length l.fn.secret)) l.index (g.R.Rng.stream l.fn.rng)
