use Rattle.std.proofs.Common.{ℕ, ◌<◌, ◌∙◌, sym, subst, List, length}
use Rattle.std.specs.Prelude.{All}
use Rattle.co_client.proofs.Unplaced.{ranks-within}
use Rattle.co_client.proofs.placing.place_hits.Goals as goal

pub ranked_documents-requires : goal.ranked_documents-requires
ranked_documents-requires c =
    let hits = c.args.hits.now in
    subst (λ (ranks : List ℕ). All (λ r. r < length hits) ranks) (sym c.as_slice.ensures)
    (ranks-within c.args.shape.now hits _ _ _ (c.deref.ensures.value ∙ c.in_ok-choices.ensures.value) (rw c.in-Err-NoPlacement.field-0-is at c.in-Err-NoPlacement.ensures))
