use Rattle.std.proofs.Common.{◌≡◌, ◌∙◌, ℕ, List, sym, ap, subst}
use Rattle.co_noise.specs.Shapes.{Numbers}
use Rattle.co_matvec.specs.Weights.{AreEntries}
use Rattle.co_rounds.proofs.Weighing.{are_entries}
use Rattle.co_server.proofs.tables.weights_of.Goals as goal

pub new-requires : goal.new-requires
new-requires c =
    let l = c.args.library.now in
    let shape = c.shape-shape.ensures.value in
    let documents : c.documents.result ≡ l.shape.documents = c.documents.ensures ∙ ap (λ (s : Numbers). s.documents) shape in
    let terms : c.terms.result ≡ l.shape.terms = c.terms.ensures ∙ ap (λ (s : Numbers). s.terms) shape in
    subst (λ (n : ℕ). AreEntries n c.terms.result c.weights.result.now) (sym documents)
    (subst (λ (n : ℕ). AreEntries l.shape.documents n c.weights.result.now) (sym terms)
    (subst (λ (es : List (ℕ × ℕ × ℕ)). AreEntries l.shape.documents l.shape.terms es) (sym c.weights.ensures) (are_entries l c.shape-shape.ensures.library)))
