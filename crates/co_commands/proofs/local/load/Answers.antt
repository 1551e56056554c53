use Rattle.std.proofs.Common.{sym, ap, ◌∙◌}
use Rattle.co_noise.specs.Bounds.{test_of}
use Rattle.co_noise.proofs.Room.{test_of-same}
use Rattle.co_commands.proofs.local.load.Goals as goal

pub new-requires : goal.new-requires
new-requires g c =
    test_of-same c.in_ok-library.library.shape c.in-Ok.tested (ap test_of (sym c.shape.ensures.value) ∙ sym c.test.ensures ∙ c.in-Ok.is)
