-- Goals of `record_rows` that the check left open.
use Rattle.std.proofs.Common.{◌∙◌, max, ap, arith}
use Rattle.std.specs.Int.{div_ceil}
use Rattle.co_bucket.specs.Rows.{records_a_row, longest}
use Rattle.co_bucket.proofs.Counting.{fewest}
use Rattle.co_bucket.proofs.rows.record_rows.Goals as goal

pub returns-clause-least : goal.returns-clause-least
returns-clause-least c =
    fewest c.args.lists.now (records_a_row c.args.degree) c.rows_for.result (omega arith)
    (c.rows_for.ensures ∙ ap (λ n. max 1 (div_ceil n (records_a_row c.args.degree))) (c.longest_length.ensures ∙ ap longest c.vectors.ensures.value))
