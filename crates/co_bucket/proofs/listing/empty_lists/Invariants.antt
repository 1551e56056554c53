-- What the loop of `empty_lists` keeps.
use Rattle.std.proofs.Common.{◌≡◌, ◌<◌, ℕ, [], length, get_or}
use Rattle.co_bucket.specs.Filling.{contents}
use Rattle.co_bucket.proofs.listing.empty_lists.Given as goal

abbrev pub invariant-loop-bucket : goal.invariant-loop-bucket
invariant-loop-bucket l = (length l.lists.items ≡ l.bucket) × ((k : ℕ) → k < l.bucket → get_or (contents l.lists.items) k [] ≡ [])
