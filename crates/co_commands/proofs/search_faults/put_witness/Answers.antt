use Rattle.co_commands.proofs.Telling.{put_four}
use Rattle.co_commands.proofs.search_faults.put_witness.Goals as goal

pub returns-clause-says : goal.returns-clause-says
returns-clause-says g c =
    put_four _ _ _ _ _ _ _ _ _ _ _ _ _ _ c.put_parts.ensures.later c.put_numbers.ensures.later c.put_parts-2.ensures.later c.put_numbers-2.ensures.later
    c.put_parts.ensures.says c.put_numbers.ensures.says c.put_parts-2.ensures.says c.put_numbers-2.ensures.says
