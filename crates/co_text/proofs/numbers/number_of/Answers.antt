-- The search is among ascending terms.
use Rattle.std.proofs.Common.{ℕ, List, rules, ap, ◌∙◌, is_some}
use Rattle.std.specs.Ordering.{nat_cmp}
use Rattle.std.specs.Cmp.Lexicographic.{slice_cmp}
use Rattle.std.proofs.lemmas.Fn.{always_returns_same}
use Rattle.co_text.proofs.Searched.{searched}
use Rattle.co_text.proofs.Numbered.{number_is_some}
use Rattle.co_text.proofs.numbers.number_of.Goals as goal

pub returns-clause-number : goal.returns-clause-number
returns-clause-number c =
    let w : List ℕ = c.args.term.now in
    let by = c.binary_search_by.ensures.position (λ y. slice_cmp nat_cmp y w) (always_returns_same _ _ _ (λ a r f called. search rules)) in
    rw (c.ok.ensures.value, ← c.as_slice.ensures) (searched c.as_slice.result.now w c.binary_search_by.result (rw c.as_slice.ensures c.requires) c.binary_search_by.ensures.bound by)

pub returns-clause-known : goal.returns-clause-known
returns-clause-known c = ap is_some (returns-clause-number c) ∙ number_is_some c.args.vocabulary.now c.args.term.now
