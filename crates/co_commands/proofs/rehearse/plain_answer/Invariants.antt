use Rattle.co_commands.proofs.rehearse.plain_answer.Given as goal

abbrev pub ghost-plain_search : goal.ghost-plain_search
ghost-plain_search a = 256
