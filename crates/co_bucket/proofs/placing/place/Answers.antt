-- Goals of `place` that the check left open.
use Rattle.std.proofs.Common.{◌<◌, ℕ, [], get_or}
use Rattle.std.proofs.lemmas.List.Elements.{All-contains}
use Rattle.co_bucket.proofs.placing.place.Goals as goal

pub by_bucket-requires-clause-within : goal.by_bucket-requires-clause-within
by_bucket-requires-clause-within c = λ i in_n.
    All-contains (λ (b : ℕ). b < c.args.buckets) (get_or c.args.candidates.now i []) (get_or c.in-Ok.choices i 0) (c.requires.within i [] in_n) (c.in-Ok.ensures.assigns.candidate i in_n)
