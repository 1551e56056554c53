use Rattle.std.proofs.Common.{ap, ◌∙◌, List, ℕ, [], ◌∷◌}
use Rattle.std.specs.Prelude.{codes, decimal}
use Rattle.co_commands.specs.Refusals.{flat, round_name}
use Rattle.co_commands.specs.Outside.{sink_by}
use Rattle.co_commands.proofs.Telling.{says_as}
use Rattle.co_commands.proofs.search_faults.say_byte.Goals as goal

pub returns : goal.returns
returns g c =
    says_as _ _
    (sink_by g.E.Sink.put_so_far g.E.Sink.faults c.args.err.now)
    (sink_by g.E.Sink.put_so_far g.E.Sink.faults c.say.new.err)
    (ap (λ (name : List ℕ). flat (codes "not a byte " ∷ name ∷ codes " " ∷ c.format-reply.result.now ∷ codes " " ∷ c.format-place.result.now ∷ [])) c.round_name.ensures
    ∙ ap (λ (reply : List ℕ). flat (codes "not a byte " ∷ round_name c.args.target ∷ codes " " ∷ reply ∷ codes " " ∷ c.format-place.result.now ∷ [])) c.format-reply.ensures.text
    ∙ ap (λ (place : List ℕ). flat (codes "not a byte " ∷ round_name c.args.target ∷ codes " " ∷ decimal c.args.reply ∷ codes " " ∷ place ∷ [])) c.format-place.ensures.text)
    c.say.ensures
