use Rattle.std.proofs.Common.{◌∙◌, ◌++◌, ◌∷◌, [], sym, arith}
use Rattle.std.proofs.lemmas.List.FromFn.{map-range_with_len_more}
use Rattle.co_rounds.specs.Serving.{bucket_table}
use Rattle.co_server.proofs.tables.bucket_rows.Goals as goal

pub loop-bucket-preserved : goal.loop-bucket-preserved
loop-bucket-preserved c =
    let l = c.args.library.now in
    c.in_ok-push.ensures.items ∙ (λ t. c.loop-bucket.invariant t ++ c.in_ok-records_of.ensures t ∷ []) ∙ sym (map-range_with_len_more (bucket_table l) 0 c.loop-bucket.bucket c.loop-bucket.bucket (omega arith))
