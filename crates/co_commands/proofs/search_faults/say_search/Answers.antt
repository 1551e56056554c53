use Rattle.std.proofs.Common.{ap, sym}
use Rattle.std.specs.Prelude.{codes}
use Rattle.co_commands.specs.Refusals.{two_numbers, search_text}
use Rattle.co_commands.specs.Outside.{sink_by}
use Rattle.co_commands.proofs.Telling.{says_as}
use Rattle.co_commands.proofs.search_faults.say_search.Goals as goal

pub returns-in-BadRecord : goal.returns-in-BadRecord
returns-in-BadRecord g c =
    says_as (two_numbers (codes "bad record ") c.in-BadRecord.document c.in-BadRecord.place) (search_text c.args.fault.now)
    (sink_by g.E.Sink.put_so_far g.E.Sink.faults c.args.err.now)
    (sink_by g.E.Sink.put_so_far g.E.Sink.faults c.say_two-in-BadRecord.new.err)
    (ap search_text (sym c.in-BadRecord.is)) c.say_two-in-BadRecord.ensures
