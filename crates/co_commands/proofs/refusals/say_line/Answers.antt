use Rattle.std.proofs.Common.{ap, List, ℕ, [], ◌∷◌}
use Rattle.std.specs.Prelude.{codes}
use Rattle.co_commands.specs.Refusals.{flat}
use Rattle.co_commands.specs.Outside.{sink_by}
use Rattle.co_commands.proofs.Telling.{says_as}
use Rattle.co_commands.proofs.refusals.say_line.Goals as goal

pub returns : goal.returns
returns g c =
    says_as _ _
    (sink_by g.E.Sink.put_so_far g.E.Sink.faults c.args.err.now)
    (sink_by g.E.Sink.put_so_far g.E.Sink.faults c.say.new.err)
    (ap (λ (digits : List ℕ). flat (codes "corpus line " ∷ digits ∷ codes ": " ∷ c.args.what.now ∷ [])) c.format.ensures.text)
    c.say.ensures
