use Rattle.co_commands.specs.Commands.{serve_shown}
use Rattle.co_commands.proofs.Serves.{cant_listen, serving_ends}
use Rattle.co_commands.proofs.serving.serve_loaded.Goals as goal

pub returns-in-Err : goal.returns-in-Err
returns-in-Err g c = λ was is random dial opened same.
    let e = c.in-Err.ensures in
    cant_listen (serve_shown c.args.command.now) was is random dial _ _ _ c.args.loaded.now c.in-Err.field-0 opened same
    c.requires.least_connections e.tells e.put e.takes e.puts e.cause.failed

pub returns : goal.returns
returns g c = λ was is random dial opened same.
    let e = c.in-Ok.ensures in
    serving_ends (serve_shown c.args.command.now) was is random dial _ _ _ _ _ c.args.loaded.now c.serve_all.result opened same
    e.tells e.put e.takes e.puts e.cause.same c.serve_all.ensures
