-- Goals of `bucket_lists` that the check left open.
use Rattle.std.proofs.Common.{length, ap, ◌∙◌, sym, subst, arith}
use Rattle.std.proofs.lemmas.List.FromFn.{length-map-range_with_len}
use Rattle.co_bucket.specs.Lists.{listed}
use Rattle.co_bucket.specs.Filling.{AreShort}
use Rattle.co_bucket.proofs.Counting.{lists_short}
use Rattle.co_bucket.proofs.listing.bucket_lists.Goals as goal

pub invariant_of-result : goal.invariant_of-result
invariant_of-result c = subst AreShort (sym c.in_ok-lists.ensures) (lists_short c.args.salt c.args.buckets c.args.documents (let fits = c.ranges.documents.fits in omega (arith, fits)))

pub returns-clause-many : goal.returns-clause-many
returns-clause-many c = ap length c.in_ok-lists.ensures ∙ length-map-range_with_len (listed c.args.salt c.args.buckets c.args.documents) 0 c.args.buckets
