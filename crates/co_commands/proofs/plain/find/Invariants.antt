use Rattle.co_commands.proofs.plain.find.Given as goal

abbrev pub ghost-plain_search : goal.ghost-plain_search
ghost-plain_search g a = g.most
