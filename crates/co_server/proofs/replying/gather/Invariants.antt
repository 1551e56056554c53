use Rattle.std.proofs.Common.{◌≡◌}
use Rattle.std.specs.List.{flat_map, range_with_len}
use Rattle.co_bfv.specs.Totals.{ciphertext_at}
use Rattle.co_pir.specs.Replies.{retrieved}
use Rattle.co_rounds.specs.Serving.{bucket_table}
use Rattle.co_server.proofs.replying.gather.Given as goal

abbrev pub invariant-loop-b : goal.invariant-loop-b
invariant-loop-b g l = l.replies.items ≡ flat_map (λ b. retrieved (bucket_table l.loaded b) l.keys (ciphertext_at l.queries b)) (range_with_len 0 l.b)
