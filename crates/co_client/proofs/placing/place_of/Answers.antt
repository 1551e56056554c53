use Rattle.std.proofs.Common.{◌≡◌, ℕ, ◌<◌, ◌∙◌, sym, ap, subst, arith, eqb, List, [], length, get_or, Option}
use Rattle.std.specs.List.{position}
use Rattle.std.specs.Option.{unwrap_or}
use Rattle.std.proofs.lemmas.List.FromFn.{length-map-range_with_len}
use Rattle.co_bucket.specs.Lists.{bucket_count, listed}
use Rattle.co_bucket.specs.Bytes.{record_row}
use Rattle.co_bucket.proofs.Standing.{list_at}
use Rattle.co_rounds.specs.Serving.{bucket_documents}
use Rattle.co_rounds.specs.Placing.{document_at, place_in_bucket}
use Rattle.co_client.specs.Placings.{place_asked}
use Rattle.co_client.proofs.Placed.{row-there}
use Rattle.co_client.proofs.placing.place_of.Goals as goal

pub list-requires : goal.list-requires
list-requires c =
    let s = c.args.shape.now in
    omega (arith, c.requires.bucket, ap length c.requires.lists, length-map-range_with_len (listed s.salt (bucket_count s.hits) s.documents) 0 (bucket_count s.hits))

pub returns-in-Some-clause-value : goal.returns-in-Some-clause-value
returns-in-Some-clause-value c =
    let s = c.args.shape.now in
    let xs : c.list.result.now ≡ bucket_documents s c.args.bucket = c.list.ensures ∙ ap (λ (ls : List (List ℕ)). get_or ls c.args.bucket []) c.requires.lists ∙ list_at s.salt (bucket_count s.hits) s.documents c.args.bucket c.requires.bucket in
    let is : c.place_in.result ≡ place_in_bucket s c.args.bucket (document_at c.args.hits.now c.in-Some.rank) = c.place_in.ensures ∙ (λ t. unwrap_or (position (λ d. eqb d (c.document_of.ensures t)) (xs t)) 0) in
    is ∙ ap (λ (o : Option ℕ). place_asked s c.args.hits.now o c.args.bucket) (sym c.in-Some.is)

pub returns-in-Some-clause-row : goal.returns-in-Some-clause-row
returns-in-Some-clause-row c =
    let s = c.args.shape.now in
    let xs : c.list.result.now ≡ bucket_documents s c.args.bucket = c.list.ensures ∙ ap (λ (ls : List (List ℕ)). get_or ls c.args.bucket []) c.requires.lists ∙ list_at s.salt (bucket_count s.hits) s.documents c.args.bucket c.requires.bucket in
    let is : c.place_in.result ≡ place_in_bucket s c.args.bucket (document_at c.args.hits.now c.in-Some.rank) = c.place_in.ensures ∙ (λ t. unwrap_or (position (λ d. eqb d (c.document_of.ensures t)) (xs t)) 0) in
    subst (λ (p : ℕ). record_row s.degree p < s.rows) (sym is) (row-there s c.args.bucket (document_at c.args.hits.now c.in-Some.rank) c.degree.ensures.ranges.degree c.requires.bucket c.requires.rows)
