use Rattle.std.proofs.Common.{None, ap, subst, ◌∙◌}
use Rattle.co_library.specs.Libraries.{Parts}
use Rattle.co_rounds.specs.Honest.{AreHonest}
use Rattle.co_commands.specs.Commands.{local_shown}
use Rattle.co_commands.proofs.Searching.{searched_over, shown_finds}
use Rattle.co_commands.proofs.local.answer.Goals as goal

pub returns : goal.returns
returns g c =
    let searched = searched_over (local_shown c.args.command.now) c.args.loaded.now (g.R.Rng.stream c.args.rng.now) (g.R.Rng.stream c.search-found.new.rng)
    c.search-found.result c.as_str.result.now c.new-link.result.told c.search-found.new.link.told (c.as_str.ensures.value ∙ c.in-Ok.ensures)
    c.new-link.ensures.told c.library.ensures.library
    (subst (λ (l : Parts). AreHonest l None c.search-found.new.link.told) (ap (λ b. b.0) c.search-found.ensures.beside ∙ c.new-link.ensures.library) c.exchanges.ensures.honest)
    c.search-found.ensures.told in
    shown_finds _ _ _ _ c.search-found.result c.shown.result c.shown.ensures searched
