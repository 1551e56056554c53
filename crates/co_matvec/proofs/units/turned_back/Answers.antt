-- One ciphertext more.
use Rattle.std.proofs.Common.{◌≡◌, ℕ, ◌∙◌, ap, subst, arith, length}
use Rattle.co_spectra.specs.Sums.{CipherSums}
use Rattle.co_matvec.specs.Sums.{AreTurnedBack}
use Rattle.co_matvec.proofs.Reaching.{none_turned, one_turned}
use Rattle.co_matvec.proofs.units.turned_back.Goals as goal

pub loop-a-init : goal.loop-a-init
loop-a-init c = none_turned c.args.tables.now c.args.sums.now c.in_ok-replies.replies.items c.in_ok-replies.ensures.items

pub loop-a-preserved : goal.loop-a-preserved
loop-a-preserved c =
    one_turned c.args.tables.now c.loop-a.a c.args.sums.now c.loop-a.replies.items c.push.new.self.items c.in_ok-cipher.field-0 c.index-sums-a.result c.index-sums-a.result c.loop-a.invariant c.loop-a-test.true c.index-sums-a.is
    (c.in_ok-cipher.ensures.degree ∙ ap (λ (s : CipherSums). s.degree) c.index-sums-a.is ∙ c.requires c.loop-a.a c.index-sums-a.result c.loop-a-test.true) c.in_ok-cipher.ensures.value c.in_ok-push.ensures.items

pub returns : goal.returns
returns c =
    let all : c.loop-a.a ≡ length c.args.sums.now = omega arith in
    subst (λ (k : ℕ). AreTurnedBack c.args.tables.now k c.args.sums.now c.loop-a.replies.items) all c.loop-a.invariant
