-- The best so far, and the documents that are left, give the ranking.
use Rattle.std.proofs.Common.{◌≡◌, ◌≤◌, drop, take, length}
use Rattle.std.specs.Prelude.{fold, map}
use Rattle.std.specs.BTreeSet.{insert_key}
use Rattle.co_text.specs.Ranking.{hit_cmp, scored, ranking}
use Rattle.co_text.specs.Keys.{shown}
use Rattle.co_text.proofs.ranks.ranking.Given as goal

abbrev pub invariant-loop-number : goal.invariant-loop-number
invariant-loop-number l =
    (take l.most (fold (insert_key hit_cmp) (map shown l.best.keys) (scored l.number (drop l.number l.scores))) ≡ ranking l.most l.scores)
    × (length l.best.keys ≤ l.most)
