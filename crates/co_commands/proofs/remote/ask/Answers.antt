use Rattle.std.proofs.Common.{Ok, Err, ◌∙◌}
use Rattle.co_commands.specs.Commands.{search_shown}
use Rattle.co_commands.specs.Outside.{dial_by}
use Rattle.co_commands.specs.Remote.{dialled}
use Rattle.co_commands.proofs.Remotes.{sought}
use Rattle.co_commands.proofs.remote.ask.Goals as goal

pub returns-in-Ok-search : goal.returns-in-Ok-search
returns-in-Ok-search g c = λ port.
    let s = sought (search_shown c.args.command.now) port
    (dial_by g.D.Link.exchanges g.D.Link.faults g.D.Link.last_failed g.D.Dial.dials g.D.Dial.last_dial c.args.dial.now)
    (dial_by g.D.Link.exchanges g.D.Link.faults g.D.Link.last_failed g.D.Dial.dials g.D.Dial.last_dial c.dial.new.self)
    (dial_by g.D.Link.exchanges g.D.Link.faults g.D.Link.last_failed g.D.Dial.dials g.D.Dial.last_dial c.search.new.link)
    (g.R.Rng.stream c.args.rng.now) (g.R.Rng.stream c.search.new.rng) (Ok c.in-Ok-search.found) c.as_str.result.now (c.as_str.ensures.value ∙ c.in-Ok.ensures)
    c.in-Ok-dial.ensures.dialled c.in-Ok-dial.ensures.told (c.in-Ok-dial.ensures.cause.same (λ e. absurd cc)) (g.met.D.Dial.exchange_leaves _ _ c.in-Ok-search.ensures.beside)
    c.in-Ok-search.ensures.told in
    record { finds = s; dials = dialled s.dialled }

pub returns : goal.returns
returns g c = λ port.
    let s = sought (search_shown c.args.command.now) port
    (dial_by g.D.Link.exchanges g.D.Link.faults g.D.Link.last_failed g.D.Dial.dials g.D.Dial.last_dial c.args.dial.now)
    (dial_by g.D.Link.exchanges g.D.Link.faults g.D.Link.last_failed g.D.Dial.dials g.D.Dial.last_dial c.dial.new.self)
    (dial_by g.D.Link.exchanges g.D.Link.faults g.D.Link.last_failed g.D.Dial.dials g.D.Dial.last_dial c.search.new.link)
    (g.R.Rng.stream c.args.rng.now) (g.R.Rng.stream c.search.new.rng) (Err c.in-Err.fault) c.as_str.result.now (c.as_str.ensures.value ∙ c.in-Ok.ensures)
    c.in-Ok-dial.ensures.dialled c.in-Ok-dial.ensures.told (c.in-Ok-dial.ensures.cause.same (λ e. absurd cc)) (g.met.D.Dial.exchange_leaves _ _ c.in-Err.ensures.beside)
    c.in-Err.ensures.told in
    record { finds = s; dials = dialled s.dialled }
