-- The last posting counts on, or a new one comes after it.
use Rattle.std.proofs.Common.{◌≡◌, ◌+◌, min, sym, ap, ◌∙◌, arith}
use borrow.Author.Tests.{eq-eqb}
use Rattle.co_tfidf.specs.Postings.{counted}
use Rattle.co_tfidf.proofs.Occurrences.{counted_same, counted_other, apart_test}
use Rattle.co_tfidf.proofs.postings.Postings.count.Goals as goal

pub returns-then-self-document : goal.returns-then-self-document
returns-then-self-document c =
    let last = c.self.inside.last in
    let more : c.min-self-inside.result ≡ min (last.count + 1) 63 = omega arith in
    rw (more, c.if-self-document.true)
    (sym (counted_same c.self.inside.before.items last c.args.document (eq-eqb last.document c.args.document c.if-self-document.true)) ∙ ap (λ s. counted s c.args.document) c.self.view_is)

pub returns : goal.returns
returns c =
    let last = c.self.inside.last in
    rw c.in_ok-push.ensures.items
    (sym (counted_other c.self.inside.before.items last c.args.document (apart_test last.document c.args.document c.if-self-document.false)) ∙ ap (λ s. counted s c.args.document) c.self.view_is)
