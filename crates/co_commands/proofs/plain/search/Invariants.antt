use Rattle.co_commands.proofs.plain.search.Given as goal

abbrev pub ghost-find : goal.ghost-find
ghost-find a = a.terms
