-- Goals of `reach` that the check left open.
use Rattle.std.proofs.Common.{◌≡◌, ◌∙◌, eqb, false, sym, ap}
use Rattle.std.specs.List.{list_any}
use Rattle.std.proofs.lemmas.List.Elements.{Contains-push}
use Rattle.co_bucket.proofs.Reaching.{placed_free, placed_more}
use Rattle.co_bucket.proofs.finding.reach.Goals as goal

pub returns-in_default-clause-placed : goal.returns-in_default-clause-placed
returns-in_default-clause-placed c =
    let free : list_any (λ x. eqb x c.args.bucket) c.args.reached.now.buckets.items ≡ false = ap (list_any (λ x. eqb x c.args.bucket)) (sym c.deref.ensures.value) ∙ sym c.if-contains.ensures.value in
    placed_free _ _ _ _ _ _ _ c.requires.reached c.args.at _ _ _ c.index.ensures c.index-2.ensures c.requires.count c.requires.at c.requires.bucket free c.in_default.ensures.none

pub returns-clause-placed : goal.returns-clause-placed
returns-clause-placed c =
    let free : list_any (λ x. eqb x c.args.bucket) c.args.reached.now.buckets.items ≡ false = ap (list_any (λ x. eqb x c.args.bucket)) (sym c.deref.ensures.value) ∙ sym c.if-contains.ensures.value in
    placed_more _ _ _ _ _ _ _ c.requires.reached c.args.at _ _ _ _ _ _ _ c.index.ensures c.index-2.ensures c.requires.count c.requires.at c.requires.bucket free
    c.in-Some.ensures.none c.in-Some.ensures.other c.in-Some.ensures.some c.in_ok-push.ensures.items c.in_ok-push-2.ensures.items c.in_ok-push-3.ensures.items

pub returns-clause-closed : goal.returns-clause-closed
returns-clause-closed c = rw c.in_ok-push-2.ensures.items (Contains-push _ _)
