use Rattle.std.proofs.Common.{ap, ◌∙◌, List, ℕ, [], ◌∷◌}
use Rattle.std.specs.Prelude.{codes, decimal}
use Rattle.co_commands.specs.Refusals.{flat}
use Rattle.co_commands.specs.Outside.{sink_by}
use Rattle.co_commands.proofs.Telling.{says_as}
use Rattle.co_commands.proofs.search_faults.say_two.Goals as goal

pub returns : goal.returns
returns g c =
    says_as _ _
    (sink_by g.E.Sink.put_so_far g.E.Sink.faults c.args.err.now)
    (sink_by g.E.Sink.put_so_far g.E.Sink.faults c.say.new.err)
    (ap (λ (first : List ℕ). flat (c.args.before.now ∷ first ∷ codes " " ∷ c.format-second.result.now ∷ [])) c.format-first.ensures.text
    ∙ ap (λ (second : List ℕ). flat (c.args.before.now ∷ decimal c.args.first ∷ codes " " ∷ second ∷ [])) c.format-second.ensures.text)
    c.say.ensures
