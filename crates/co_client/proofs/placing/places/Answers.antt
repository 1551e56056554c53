use Rattle.std.proofs.Common.{◌≡◌, ℕ, ◌<◌, ◌∙◌, sym, ap, subst, arith, List, [], ◌∷◌, ◌++◌, get_or, Option, None}
use Rattle.std.specs.Prelude.{All}
use Rattle.std.proofs.lemmas.List.Elements.{All-push}
use Rattle.std.proofs.lemmas.List.FromFn.{map-range_with_len_more}
use Rattle.co_bucket.specs.Bytes.{record_row}
use Rattle.co_client.specs.Placings.{place_asked}
use Rattle.co_client.proofs.placing.places.Goals as goal

pub loop-bucket-preserved : goal.loop-bucket-preserved
loop-bucket-preserved c =
    let s = c.args.shape.now in
    let at = c.loop-bucket.bucket in
    let f : ℕ → ℕ = λ b. place_asked s c.args.hits.now (get_or c.args.placed.now b None) b in
    let is : c.place_of.result ≡ f at = c.place_of.ensures.value ∙ ap (λ (o : Option ℕ). place_asked s c.args.hits.now o at) c.rank_at-rank.ensures in
    let added = c.in_ok-push.ensures.items in
    record {
      value = added ∙ (λ t. c.loop-bucket.invariant.value t ++ is t ∷ []) ∙ sym (map-range_with_len_more f 0 at at (omega arith));
      rows = subst (λ (ps : List ℕ). All (λ p. record_row s.degree p < s.rows) ps) (sym added) (All-push (λ p. record_row s.degree p < s.rows) c.loop-bucket.places.items c.place_of.result c.loop-bucket.invariant.rows c.place_of.ensures.row);
    }
