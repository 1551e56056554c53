use Rattle.std.proofs.Common.{ℕ, ◌-◌, w8, ap, sym, ◌∙◌, pos}
use Rattle.std.proofs.lemmas.Int.{to_z-of_z}
use lib.IntN.{nat_abs}
use lib.Signed.{le_z}
use Rattle.co_bfv.proofs.Signed_lists.{small_kept, small_under}
use Rattle.co_bfv.proofs.signed.reduce.Goals as goal

pub returns-then-value-ge0 : goal.returns-then-value-ge0
returns-then-value-ge0 c =
    let e = to_z-of_z w8 c.args.value c.ranges.value in
    ap nat_abs e ∙ small_kept c.args.m c.args.value c.requires c.ranges.value (ap (le_z (pos 0)) (sym e) ∙ c.if-value-ge0.true)

pub returns-else-value-ge0 : goal.returns-else-value-ge0
returns-else-value-ge0 c =
    let e = to_z-of_z w8 c.args.value c.ranges.value in
    ap (λ (k : ℕ). c.args.m - k) (c.unsigned_abs.ensures.value ∙ ap nat_abs e)
    ∙ small_under c.args.m c.args.value c.requires c.ranges.value (ap (le_z (pos 0)) (sym e) ∙ c.if-value-ge0.false)
