use Rattle.co_commands.proofs.publish.import.Goals as goal

pub returns : goal.returns
returns g c = λ devices. c.import_corpus.ensures _ devices c.in_ok-corpus.ensures.ok c.in_ok-corpus.ensures.files c.read_documents.ensures.later
