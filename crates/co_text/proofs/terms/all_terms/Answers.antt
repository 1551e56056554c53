use Rattle.std.proofs.Common.{◌≡◌, ◌∙◌, ℕ, List, sym, subst}
use Rattle.std.proofs.lemmas.List.{append-nil}
use Rattle.std.specs.List.{All}
use Rattle.co_text.specs.Terms.{HasSize, terms}
use Rattle.co_text.proofs.Sizes.{terms_sized}
use Rattle.co_text.proofs.terms.all_terms.Goals as goal

pub returns-clause-sized : goal.returns-clause-sized
returns-clause-sized c =
    let done : terms c.args.text.now ≡ c.loop-word.terms = sym c.loop-word.invariant.3 ∙ rw c.in-None.ensures.steps.0 (append-nil c.loop-word.terms) in
    subst (λ (ts : List (List ℕ)). All HasSize ts) done (terms_sized c.args.text.now)
