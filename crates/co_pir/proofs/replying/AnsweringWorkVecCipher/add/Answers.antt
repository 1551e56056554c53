-- One unit more.
use Rattle.std.proofs.Common.{ap, subst, sym, ◌∙◌, ◌∷◌, [], ◌++◌, List, length}
use Rattle.co_bfv.specs.Ciphertexts.{Ciphertext}
use Rattle.co_crew.proofs.Adding.{whole_kept}
use Rattle.co_pir.specs.Units.{Answered, AreHeldSums}
use Rattle.co_pir.proofs.Answering.{unit_held}
use Rattle.co_switch.proofs.Rising.{raised-zero, risen_none}
use Rattle.co_pir.proofs.replying.AnsweringWorkVecCipher.add.Goals as goal

pub returns-clause-sum : goal.returns-clause-sum
returns-clause-sum g c us h =
    let t = c.self.inside.rows.now in
    let values = c.self.inside.values.now in
    let same = c.add_unit.auto.sums ∙ ap length c.deref_mut.ensures.value in
    let kept = whole_kept c.args.sum.now.len c.args.sum.now.items c.add_unit.new.sums c.args.sum.now.ok.0 same in
    let before = subst (λ (xs : List Ciphertext). AreHeldSums t values us xs) (sym c.deref_mut.ensures.value) (subst (λ (a : Answered). AreHeldSums a.table a.values us c.args.sum.now.items) (sym c.self.view_is) h) in
    let after = unit_held t values us c.args.unit c.deref_mut.result.now c.add_unit.new.sums c.degree.ensures.table.degree before c.add_unit.auto.sums c.add_unit.ensures.whole c.in_ok-add_unit.ensures.adds in
    subst (λ (xs : List Ciphertext). AreHeldSums c.args.self.now.table c.args.self.now.values (us ++ c.args.unit ∷ []) xs) (sym kept)
    (subst (λ (a : Answered). AreHeldSums a.table a.values (us ++ c.args.unit ∷ []) c.add_unit.new.sums) c.self.view_is after)

pub returns-in_err-add_unit-clause-rise : goal.returns-in_err-add_unit-clause-rise
returns-in_err-add_unit-clause-rise g c = risen_none c.args._steps.now 0

pub returns-clause-steps : goal.returns-clause-steps
returns-clause-steps g c = sym (raised-zero c.args._steps.now)

pub returns-clause-rise : goal.returns-clause-rise
returns-clause-rise g c = risen_none c.args._steps.now 0
