use Rattle.std.proofs.Common.{◌≡◌, ◌++◌, drop}
use Rattle.co_client.specs.Records.{hits_shown}
use Rattle.co_client.proofs.searching.with_titles.Given as goal

abbrev pub invariant-loop-at : goal.invariant-loop-at
invariant-loop-at l = l.hits ++ hits_shown (drop l.at l.ranked) (drop l.at l.records) ≡ hits_shown l.ranked l.records
