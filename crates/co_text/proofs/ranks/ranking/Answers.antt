-- One document more is kept, or left out.
use Rattle.std.proofs.Common.{◌≡◌, ◌+◌, ◌∷◌, ◌∙◌, List, ℕ, sym, ap, refl, arith, take, drop, get_or}
use Rattle.std.specs.Prelude.{fold, map}
use Rattle.std.specs.BTreeSet.{insert_key}
use Rattle.std.proofs.lemmas.List.{drop_more}
use Rattle.co_text.specs.Ranking.{hit_cmp, scored, ranking}
use Rattle.co_text.specs.Keys.{shown}
use Rattle.co_text.proofs.Rankings.{kept_more}
use Rattle.co_text.proofs.ranks.ranking.Goals as goal

pub loop-number-init : goal.loop-number-init
unfolding ranking
loop-number-init c = rw c.new-best.ensures.empty (refl, omega arith)

pub loop-number-preserved : goal.loop-number-preserved
loop-number-preserved c =
    let scores = c.args.scores.now in
    let number = c.loop-number.number in
    let keys = c.loop-number.best.keys in
    let left : drop number scores ≡ get_or scores number 0 ∷ drop (number + 1) scores = drop_more scores number 0 c.loop-number-test.true in (
      kept_more c.args.most number (get_or scores number 0) keys c.keep_best.new.best.keys (drop (number + 1) scores) c.in_ok-keep_best.ensures.keys
          ∙ ap (λ (ss : List ℕ). take c.args.most (fold (insert_key hit_cmp) (map shown keys) (scored number ss))) (sym left)
          ∙ c.loop-number.invariant.0,
      c.in_ok-keep_best.ensures.few,
    )
