-- Goals of `prefer` that the check left open.
use Rattle.std.proofs.Common.{◌≡◌, ◌∷◌, [], length, length-set, get_or, set-set, arith}
use Rattle.co_bucket.proofs.Lowering.{holed, better, better_bucket, not_this}
use Rattle.co_bucket.proofs.placing.prefer.Goals as goal

pub search-requires-clause-placed : goal.search-requires-clause-placed
search-requires-clause-placed c =
    rw (length-set c.args.narrowed.now c.args.item (c.args.bucket ∷ c.args.bucket ∷ c.args.bucket ∷ []))
    (holed c.args.narrowed.now c.args.item (length c.args.narrowed.now) c.args.row _ c.args.choices c.requires.placed)

pub returns-in-Placed-clause-same : goal.returns-in-Placed-clause-same
returns-in-Placed-clause-same c = set-set c.args.narrowed.now c.args.item _ _

pub returns-in-Placed-clause-placed : goal.returns-in-Placed-clause-placed
returns-in-Placed-clause-placed c = better c.args.narrowed.now c.args.item c.args.bucket c.args.row c.requires.item c.requires.of c.in-Placed.better (rw c.in-Placed.is at c.in_ok-better.ensures)

pub returns-in-Placed-clause-lower : goal.returns-in-Placed-clause-lower
returns-in-Placed-clause-lower c =
    let is : get_or c.in-Placed.better c.args.item 0 ≡ c.args.bucket = better_bucket c.args.narrowed.now c.args.item c.args.bucket c.args.row c.requires.item c.requires.of c.in-Placed.better (rw c.in-Placed.is at c.in_ok-better.ensures) in
    omega (arith, c.if-choices-item.false)

pub returns-in-Placed-clause-least : goal.returns-in-Placed-clause-least
returns-in-Placed-clause-least c = λ f is has.
    let is : get_or c.in-Placed.better c.args.item 0 ≡ c.args.bucket = better_bucket c.args.narrowed.now c.args.item c.args.bucket c.args.row c.requires.item c.requires.of c.in-Placed.better (rw c.in-Placed.is at c.in_ok-better.ensures) in
    omega arith

pub returns-clause-same : goal.returns-clause-same
returns-clause-same c = set-set c.args.narrowed.now c.args.item _ _

pub returns-clause-least : goal.returns-clause-least
returns-clause-least c = λ f is has. absurd (not_this c.args.narrowed.now c.args.item c.args.bucket c.args.row c.requires.item c.requires.of c.in_ok-better.field-0 c.in_ok-better.ensures c.in_default.not-Placed f is has)
