use Rattle.std.proofs.Common.{List, ℕ, sym, subst, refl}
use Rattle.co_commands.specs.Words.{SpokenLocal}
use Rattle.co_commands.specs.Commands.{local_shown}
use Rattle.co_commands.specs.Locals.{LocalAnswer}
use Rattle.co_commands.proofs.Ending.{put_ends}
use Rattle.co_commands.proofs.local.local.Goals as goal

pub returns : goal.returns
returns g c = λ dial port.
    let printed = subst (λ (text : List ℕ). LocalAnswer (local_shown c.args.command.now) (g.F.Files.held c.args.files.now) (g.R.Rng.stream c.args.rng.now) (g.R.Rng.stream c.find.new.rng) text)
    (sym c.as_slice.ensures) c.in_ok-text.ensures.ok in
    put_ends (SpokenLocal (local_shown c.args.command.now)) _ _ c.as_slice.result.now c.put_answer.result c.put_answer.ensures printed (λ p. p) tt
    c.in_ok-text.ensures.files refl
