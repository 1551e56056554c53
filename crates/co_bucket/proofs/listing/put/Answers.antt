-- Goals of `put` that the check left open.
use Rattle.co_bucket.proofs.Stepping.{contents_set}
use Rattle.co_bucket.proofs.listing.put.Goals as goal

pub returns : goal.returns
returns c = contents_set c.args.lists.now c.args.bucket c.push.new.self c.index-lists-bucket.result c.args.document c.requires c.in_ok-push.ensures.items
