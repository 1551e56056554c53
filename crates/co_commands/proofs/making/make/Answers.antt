use Rattle.std.proofs.Common.{sym, subst, ap}
use Rattle.co_corpus.specs.Documents.{IsCorpus}
use Rattle.co_commands.proofs.Generated.{corpus_is}
use Rattle.co_commands.proofs.making.make.Goals as goal

pub new-requires : goal.new-requires
new-requires c = subst IsCorpus (sym (ap (λ p. p.0) c.in_ok-documents.ensures)) (corpus_is c.args.number)
