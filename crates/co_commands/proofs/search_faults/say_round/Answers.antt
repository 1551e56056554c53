use Rattle.std.proofs.Common.{ap, ◌∙◌, List, ℕ, [], ◌∷◌}
use Rattle.std.specs.Prelude.{codes}
use Rattle.co_commands.specs.Refusals.{flat, round_name}
use Rattle.co_commands.specs.Outside.{sink_by}
use Rattle.co_commands.proofs.Telling.{says_as}
use Rattle.co_commands.proofs.search_faults.say_round.Goals as goal

pub returns : goal.returns
returns g c =
    says_as _ _
    (sink_by g.E.Sink.put_so_far g.E.Sink.faults c.args.err.now)
    (sink_by g.E.Sink.put_so_far g.E.Sink.faults c.say.new.err)
    (ap (λ (name : List ℕ). flat (c.args.before.now ∷ name ∷ codes " " ∷ c.format.result.now ∷ [])) c.round_name.ensures
    ∙ ap (λ (digits : List ℕ). flat (c.args.before.now ∷ round_name c.args.target ∷ codes " " ∷ digits ∷ [])) c.format.ensures.text)
    c.say.ensures
