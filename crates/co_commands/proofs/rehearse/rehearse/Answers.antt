use Rattle.std.proofs.Common.{List, ℕ, sym, subst, refl}
use Rattle.co_commands.specs.Words.{SpokenRehearse}
use Rattle.co_commands.specs.Rehearsals.{RehearseAnswer}
use Rattle.co_commands.proofs.Ending.{put_ends}
use Rattle.co_commands.proofs.rehearse.rehearse.Goals as goal

pub returns : goal.returns
returns g c = λ files dial port.
    let printed = subst (λ (text : List ℕ). RehearseAnswer c.args.command.now (g.R.Rng.stream c.args.rng.now) (g.R.Rng.stream c.rehearsal.new.rng) text)
    (sym c.as_bytes.ensures.value) c.in_ok-text.ensures.ok in
    put_ends (SpokenRehearse c.args.command.now) _ _ c.as_bytes.result.now c.put_answer.result c.put_answer.ensures printed (λ p. p) tt refl refl
