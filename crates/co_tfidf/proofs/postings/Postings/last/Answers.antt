-- The last posting is the one that stands apart.
use Rattle.std.proofs.Common.{sym, ap, ◌∙◌}
use Rattle.co_tfidf.specs.Postings.{last_posting}
use Rattle.co_tfidf.proofs.Occurrences.{last_posting-append}
use Rattle.co_tfidf.proofs.postings.Postings.last.Goals as goal

pub returns : goal.returns
returns c = sym (last_posting-append c.self.inside.before.items c.self.inside.last) ∙ ap last_posting c.self.view_is
