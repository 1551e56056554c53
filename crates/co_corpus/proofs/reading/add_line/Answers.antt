-- One document more.
use Rattle.std.proofs.lemmas.List.Elements.{All-push}
use Rattle.co_corpus.specs.Documents.{IsDocument}
use Rattle.co_corpus.proofs.reading.add_line.Goals as goal

pub returns-clause-each : goal.returns-clause-each
returns-clause-each c = λ all. rw c.in_ok-push.ensures.ok (All-push IsDocument c.args.documents.now _ all c.in_ok-document.ensures.document)
