-- Goals of `rows_needed` that the check left open.
use Rattle.std.proofs.Common.{ℕ, ◌∙◌, ap, max, map, length, arith}
use Rattle.std.specs.List.{fold}
use Rattle.std.specs.Int.{div_ceil}
use Rattle.co_bucket.specs.Lists.{bucket_count, lists_of}
use Rattle.co_bucket.specs.Rows.{records_a_row}
use Rattle.co_bucket.proofs.Counting.{fewest}
use Rattle.co_bucket.proofs.rows.rows_needed.Goals as goal

pub returns-clause-least : goal.returns-clause-least
returns-clause-least c =
    fewest (lists_of c.args.salt (bucket_count c.args.hits) c.args.documents) (records_a_row c.args.degree) c.rows_for.result (omega arith)
    (c.rows_for.ensures ∙ ap (λ n. max 1 (div_ceil n (records_a_row c.args.degree)))
    (c.greatest.ensures ∙ ap (fold max 0) (c.list_lengths-counts.ensures ∙ ap (λ (b : ℕ). map length (lists_of c.args.salt b c.args.documents)) c.buckets-buckets.ensures.value)))
