-- The sums of both workers' units.
use Rattle.std.proofs.Common.{ap, subst, sym, ◌∙◌, ◌++◌, List, length}
use Rattle.co_bfv.specs.Ciphertexts.{Ciphertext}
use Rattle.co_crew.proofs.Adding.{whole_kept}
use Rattle.co_pir.specs.Units.{Answered, AreHeldSums}
use Rattle.co_pir.proofs.Answering.{both_held}
use Rattle.co_pir.proofs.replying.AnsweringWorkVecCipher.merge.Goals as goal

pub returns : goal.returns
returns g c us vs h k =
    let t = c.self.inside.rows.now in
    let values = c.self.inside.values.now in
    let same = c.add_each.ensures.count ∙ ap length c.deref_mut.ensures.value in
    let kept = whole_kept c.args.sum.now.len c.args.sum.now.items c.add_each.new.sums c.args.sum.now.ok.0 same in
    let one = subst (λ (xs : List Ciphertext). AreHeldSums t values us xs) (sym c.deref_mut.ensures.value) (subst (λ (a : Answered). AreHeldSums a.table a.values us c.args.sum.now.items) (sym c.self.view_is) h) in
    let two = subst (λ (xs : List Ciphertext). AreHeldSums t values vs xs) (sym c.deref.ensures.value) (subst (λ (a : Answered). AreHeldSums a.table a.values vs c.args.other.items) (sym c.self.view_is) k) in
    let both = both_held t values us vs c.deref_mut.result.now c.deref.result.now c.add_each.new.sums c.degree.ensures.table.degree one two c.add_each.ensures in
    subst (λ (xs : List Ciphertext). AreHeldSums c.args.self.now.table c.args.self.now.values (us ++ vs) xs) (sym kept)
    (subst (λ (a : Answered). AreHeldSums a.table a.values (us ++ vs) c.add_each.new.sums) c.self.view_is both)
