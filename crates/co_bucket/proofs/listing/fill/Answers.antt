-- Goals of `fill` that the check left open.
use Rattle.std.proofs.Common.{◌≡◌, ◌++◌, ◌∷◌, [], subst, arith}
use Rattle.co_bucket.specs.Filling.{contents, IsStepped}
use Rattle.co_bucket.proofs.Stepping.{filled_more, filled_all, IsFilled}
use Rattle.co_bucket.proofs.listing.fill.Goals as goal

pub loop-document-preserved : goal.loop-document-preserved
loop-document-preserved c =
    filled_more _ _ _ _ _ c.loop-document.invariant
    (subst (λ row. IsStepped [] (λ list. list ++ c.loop-document.document ∷ []) (contents c.loop-document.lists) row (contents c.put_all.new.lists)) c.candidates-row.ensures.value c.in_ok-put_all.ensures)

pub returns : goal.returns
returns c =
    let is : c.loop-document.document ≡ c.args.documents = omega arith in
    filled_all _ _ _ _ (subst (λ n. IsFilled c.args.salt c.args.buckets n (contents c.loop-document.lists)) is c.loop-document.invariant)
