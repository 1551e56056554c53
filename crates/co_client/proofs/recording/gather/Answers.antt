use Rattle.std.proofs.Common.{◌≡◌, ℕ, ◌*◌, ◌∙◌, ap, arith, mul_assoc}
use Rattle.co_link.specs.declared.messages.Target.TheVariants.{Meta}
use Rattle.co_bucket.specs.Lists.{bucket_count}
use Rattle.co_bucket.specs.Bytes.{record_chunks}
use Rattle.co_client.specs.Rounds.{queries_request}
use Rattle.co_client.proofs.Unanswered.{gives-asked, fails-asked}
use Rattle.co_client.proofs.recording.gather.Goals as goal

pub ask_ciphers-requires-clause-count : goal.ask_ciphers-requires-clause-count
ask_ciphers-requires-clause-count g c =
    let s = c.args.reader.now.shape in
    let count : c.buckets.result * c.record_chunks.result ≡ bucket_count s.hits * record_chunks s.degree = grind arith in
    ap (λ (k : ℕ). k * (28 * s.degree)) count ∙ mul_assoc (bucket_count s.hits) (record_chunks s.degree) (28 * s.degree)

pub returns-clause-came : goal.returns-clause-came
unfolding queries_request
returns-clause-came g c = gives-asked c.args.reader.now.shape.degree _ _ _ _ Meta c.in_ok-queries.queries _ c.ask_ciphers.result (grind arith) c.in_ok-queries.ensures.body c.ask_ciphers.ensures.came

pub returns-clause-refused : goal.returns-clause-refused
unfolding queries_request
returns-clause-refused g c = fails-asked _ _ _ Meta c.in_ok-queries.queries _ c.ask_ciphers.result c.in_ok-queries.ensures.body c.ask_ciphers.ensures.refused
