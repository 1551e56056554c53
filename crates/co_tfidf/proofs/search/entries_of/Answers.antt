-- The entries of the term are those between the two points.
use Rattle.std.proofs.Common.{◌≡◌, ◌-◌, ℕ, List, length, take, drop, nat_lt, nat_le, arith, rules}
use Rattle.std.proofs.lemmas.List.{take_all, length-drop}
use Rattle.std.specs.List.Sorted.{IsNonDecreasingBy}
use Rattle.std.proofs.lemmas.List.Sorted.{IsPartitionPoint-from_clause, IsPartitionedBy-leb, IsPartitionedBy-ltb, IsNonDecreasingBy-drop}
use Rattle.co_tfidf.proofs.Searched.{run_at}
use Rattle.co_tfidf.proofs.search.entries_of.Goals as goal

pub returns : goal.returns
returns c =
    let xs : List (ℕ × ℕ × ℕ) = c.args.entries.now in
    let start : ℕ = c.partition_point-start.result in
    let end : ℕ = c.partition_point-end.result in
    let n : (ℕ × ℕ × ℕ) → ℕ = λ e. e.0 in
    let rest_is : take (length xs - start) (drop start xs) ≡ drop start xs = take_all _ _ (omega (arith, length-drop start xs)) in
    let low = IsPartitionPoint-from_clause (λ (e : ℕ × ℕ × ℕ). nat_lt e.0 c.args.number) xs start c.partition_point-start.ensures.partitioned (IsPartitionedBy-ltb n xs c.args.number c.requires) (λ a r q k. search rules) in
    let rises : IsNonDecreasingBy n (take (length xs - start) (drop start xs)) = rw rest_is (IsNonDecreasingBy-drop n start xs c.requires) in
    let high = IsPartitionPoint-from_clause (λ (e : ℕ × ℕ × ℕ). nat_le e.0 c.args.number) (take (length xs - start) (drop start xs)) end c.partition_point-end.ensures.partitioned (IsPartitionedBy-leb n _ c.args.number rises) (λ a r q k. search rules) in
    rw rest_is (run_at n c.args.number xs start end low (rw rest_is at high))
