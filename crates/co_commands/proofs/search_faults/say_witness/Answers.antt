use Rattle.co_commands.proofs.Telling.{said}
use Rattle.co_commands.proofs.search_faults.say_witness.Goals as goal

pub returns : goal.returns
returns g c =
    said _ _ _ _ _ _ _ _ _ _ _ c.put_parts.ensures.later c.put_witness.ensures.later c.put_parts-2.ensures.later
    c.put_parts.ensures.says c.put_witness.ensures.says c.put_parts-2.ensures.says
