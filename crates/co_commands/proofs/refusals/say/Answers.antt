use Rattle.co_commands.proofs.Telling.{said}
use Rattle.co_commands.proofs.refusals.say.Goals as goal

pub returns : goal.returns
returns g c =
    said _ _ _ _ _ _ _ _ _ _ _ c.put_parts.ensures.later c.put_parts-2.ensures.later c.put_parts-3.ensures.later
    c.put_parts.ensures.says c.put_parts-2.ensures.says c.put_parts-3.ensures.says
