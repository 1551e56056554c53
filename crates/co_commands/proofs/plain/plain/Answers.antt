use Rattle.std.proofs.Common.{List, ℕ, sym, subst, refl}
use Rattle.co_commands.specs.Words.{SpokenPlain}
use Rattle.co_commands.specs.Commands.{plain_shown}
use Rattle.co_commands.specs.Searches.{HasText}
use Rattle.co_commands.proofs.Ending.{put_ends}
use Rattle.co_commands.proofs.plain.plain.Goals as goal

pub returns : goal.returns
returns g c = λ devices.
    let found = subst (λ (text : List ℕ). HasText (plain_shown c.args.command.now) c.in_ok-corpus.corpus text) (sym c.as_slice.ensures) c.in_ok-text.ensures.ok in
    put_ends (SpokenPlain (plain_shown c.args.command.now)) _ _ c.as_slice.result.now c.put_answer.result c.put_answer.ensures
    (record { documents = c.in_ok-corpus.corpus; corpus = c.in_ok-corpus.ensures.ok; found = found }) (λ p. p) tt c.in_ok-corpus.ensures.files refl
