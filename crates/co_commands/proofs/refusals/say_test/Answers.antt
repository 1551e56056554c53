use Rattle.std.proofs.Common.{ap, sym, ◌∙◌, List, ℕ, [], ◌∷◌}
use Rattle.std.specs.Prelude.{codes, decimal}
use Rattle.co_commands.specs.Refusals.{flat, test_text}
use Rattle.co_commands.specs.Outside.{sink_by}
use Rattle.co_commands.proofs.Telling.{says_as}
use Rattle.co_commands.proofs.refusals.say_test.Goals as goal

pub returns-in-RowsOverDegree : goal.returns-in-RowsOverDegree
returns-in-RowsOverDegree g c =
    says_as _ _
    (sink_by g.E.Sink.put_so_far g.E.Sink.faults c.args.err.now)
    (sink_by g.E.Sink.put_so_far g.E.Sink.faults c.say.new.err)
    (ap (λ (rows : List ℕ). flat (codes "test: rows " ∷ rows ∷ codes " over degree " ∷ c.format-degree.result.now ∷ [])) c.format-rows.ensures.text
    ∙ ap (λ (degree : List ℕ). flat (codes "test: rows " ∷ decimal c.in-RowsOverDegree.rows ∷ codes " over degree " ∷ degree ∷ [])) c.format-degree.ensures.text
    ∙ ap test_text (sym c.in-RowsOverDegree.is))
    c.say.ensures
