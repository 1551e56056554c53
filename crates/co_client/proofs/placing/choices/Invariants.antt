use Rattle.std.proofs.Common.{◌≡◌, ◌++◌, ◌<◌, map, drop}
use Rattle.std.specs.Prelude.{All}
use Rattle.co_bucket.specs.Lists.{bucket_count, candidates_of}
use Rattle.co_client.proofs.placing.choices.Given as goal

abbrev pub invariant-loop-hit : goal.invariant-loop-hit
invariant-loop-hit l = record {
  value : l.choices.items ++ map (λ h. candidates_of l.shape.salt (bucket_count l.shape.hits) h.document) (drop l.hit-index l.hits)
      ≡ map (λ h. candidates_of l.shape.salt (bucket_count l.shape.hits) h.document) l.hits;
  within : All (All (λ b. b < bucket_count l.shape.hits)) l.choices.items;
}
