-- Bytes that are no capitals are folded.
use Rattle.std.proofs.Common.{◌≡◌, true, ap, sym, ◌∙◌}
use Rattle.std.specs.List.{list_all}
use Rattle.co_text.specs.Terms.{is_lower}
use Rattle.co_text.proofs.Lower.{folded_itself}
use Rattle.co_text.proofs.terms.is_folded.Goals as goal

pub returns-clause-same : goal.returns-clause-same
returns-clause-same c = λ is.
    let all : list_all is_lower c.args.word.now ≡ true = ap (list_all is_lower) (sym c.as_bytes.ensures.value) ∙ sym c.are_lower.ensures ∙ is in
    folded_itself c.args.word.now all
