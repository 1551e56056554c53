-- Goals of `place_one` that the check left open.
use Rattle.std.proofs.Common.{ℕ, ◌+◌, refl, arith}
use Rattle.std.proofs.lemmas.List.Sorted.{IsNonDecreasingBy-from_sort}
use Rattle.co_bucket.proofs.Stuck.{witness}
use Rattle.co_bucket.proofs.placing.place_one.Goals as goal

pub returns-in-Ok-Blocked : goal.returns-in-Ok-Blocked
returns-in-Ok-Blocked c =
    rw (c.from_vec.ensures, c.from_vec-in-Ok-Blocked.ensures) (witness c.args.candidates.now (c.args.item + 1) _ _ (rw c.in-Ok-Blocked.field-0-is at c.in-Ok-Blocked.ensures) _ _ c.args.item c.args.choices.now
    c.sort_unstable.ensures.permutation c.sort_unstable-in-Ok-Blocked.ensures.permutation
    (IsNonDecreasingBy-from_sort (λ (x : ℕ). x) _ c.sort_unstable.ensures.sorted) (IsNonDecreasingBy-from_sort (λ (x : ℕ). x) _ c.sort_unstable-in-Ok-Blocked.ensures.sorted)
    refl (omega arith) c.requires.placed)
