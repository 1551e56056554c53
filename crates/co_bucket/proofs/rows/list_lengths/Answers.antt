-- Goals of `list_lengths` that the check left open.
use Rattle.std.proofs.Common.{◌≡◌, ◌+◌, subst, arith}
use Rattle.co_bucket.specs.Filling.{IsStepped, IsCounted}
use Rattle.co_bucket.proofs.Counting.{counted_none, counted_few, counted_more, counted_all}
use Rattle.co_bucket.proofs.rows.list_lengths.Goals as goal

pub loop-document-init : goal.loop-document-init
loop-document-init c = counted_none c.args.salt c.args.buckets 96 c.requires.few

pub count_all-requires-clause-few : goal.count_all-requires-clause-few
count_all-requires-clause-few c = counted_few c.args.salt c.args.buckets c.loop-document.document c.loop-document.counts c.candidates-row.result c.loop-document.invariant c.candidates-row.ensures.within

pub loop-document-preserved : goal.loop-document-preserved
loop-document-preserved c =
    counted_more c.args.salt c.args.buckets c.loop-document.document c.loop-document.counts c.count_all.new.counts c.loop-document.invariant
    (subst (λ row. IsStepped 0 (λ n. n + 1) c.loop-document.counts row c.count_all.new.counts) c.candidates-row.ensures.value c.count_all.ensures)

pub returns : goal.returns
returns c =
    let is : c.loop-document.document ≡ c.args.documents = omega arith in
    counted_all c.args.salt c.args.buckets c.args.documents c.loop-document.counts (subst (λ n. IsCounted c.args.salt c.args.buckets n c.loop-document.counts) is c.loop-document.invariant)
