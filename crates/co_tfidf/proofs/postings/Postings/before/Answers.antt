-- The others and the last posting are all.
use Rattle.std.proofs.Common.{refl, sym, ap, ◌∙◌}
use Rattle.co_tfidf.specs.Postings.{last_posting}
use Rattle.co_tfidf.proofs.Occurrences.{last_posting-append}
use Rattle.co_tfidf.proofs.postings.Postings.before.Goals as goal

pub returns : goal.returns
returns c =
    let last = sym (last_posting-append c.self.inside.before.items c.self.inside.last) ∙ ap last_posting c.self.view_is in
    sym c.self.view_is ∙ rw (c.as_slice.ensures.value, ← last) refl
