-- Goals of `lower` that the check left open.
use Rattle.std.proofs.Common.{◌≡◌, ◌<◌, ◌≤◌, ◌∷◌, ◌∙◌, ℕ, List, [], length, get_or, set, set-set, sym, ap, arith}
use Rattle.co_bucket.proofs.Lowering.{lowered}
use Rattle.co_bucket.proofs.placing.lower.Goals as goal

pub returns-clause-changed : goal.returns-clause-changed
returns-clause-changed c =
    let b : ℕ = get_or c.loop-bucket.choices c.args.item 0 in
    sym (set-set c.loop-bucket.narrowed c.args.item _ (b ∷ b ∷ b ∷ [])) ∙ ap (λ (rs : List (List ℕ)). set rs c.args.item (b ∷ b ∷ b ∷ [])) c.loop-bucket.invariant.back

pub returns-clause-least : goal.returns-clause-least
returns-clause-least c = λ f is.
    let three : length (get_or c.args.narrowed.now c.args.item []) ≡ 3 = c.told-narrowed c.args.item c.requires.item in
    let all : length (get_or c.args.narrowed.now c.args.item []) ≤ c.loop-bucket.bucket-index = omega (arith, c.loop-bucket-test.false) in
    let in_rows : c.args.item < length c.loop-bucket.narrowed = omega (arith, c.loop-bucket.invariant.size, c.requires.item) in
    lowered _ _ _ _ _ _ c.loop-bucket.invariant in_rows all f is
