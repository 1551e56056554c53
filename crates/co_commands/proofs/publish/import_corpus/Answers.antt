use Rattle.std.proofs.Common.{refl}
use Rattle.std.proofs.lemmas.Result.{err_from_is_err_and}
use Rattle.co_commands.specs.Commands.{import_shown}
use Rattle.co_commands.proofs.Importing.{not_published}
use Rattle.co_commands.proofs.publish.import_corpus.Goals as goal

pub returns-in_err-library : goal.returns-in_err-library
returns-in_err-library g c = λ was devices corpus same later.
    let p = err_from_is_err_and c.from_residual.result c.from_residual.ensures.1 in
    rw (p.1, p.2)
    (not_published (import_shown c.args.command.now) _ _ c.args.corpus.now c.in_err-library.field-0.0 corpus c.in_err-library.ensures.cause refl same refl)

pub returns : goal.returns
returns g c = λ was devices corpus same later.
    c.put_library.ensures was devices (record { documents = c.args.corpus.now; corpus = corpus; published = c.in_ok-library.ensures.ok }) c.as_slice.ensures.corpus same later
