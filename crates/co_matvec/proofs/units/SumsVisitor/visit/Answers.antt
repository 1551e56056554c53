-- The sums keep their degree, also after want of memory.
use Rattle.std.proofs.Common.{sym, ap, subst, ◌∙◌, List, length}
use Rattle.co_crew.proofs.Adding.{whole_kept}
use Rattle.co_spectra.specs.Sums.{CipherSums}
use Rattle.co_matvec.specs.Units.{AreHeld}
use Rattle.co_matvec.proofs.units.SumsVisitor.visit.Goals as goal

pub invariant_of-self : goal.invariant_of-self
invariant_of-self c =
    let same = c.add_rotation.auto.sums ∙ ap length c.deref_mut.ensures.value in
    subst (λ (xs : List CipherSums). AreHeld c.self.inside.weights.now c.self.inside.block xs c.add_rotation.new.room)
    (sym (whole_kept c.self.inside.sums.len c.self.inside.sums.items c.add_rotation.new.sums c.self.inside.sums.ok.0 same))
    (record {
      word = c.self.invariant.word;
      count = same ∙ c.self.invariant.count;
      degrees = c.add_rotation.ensures.degrees;
      room_degree = c.add_rotation.ensures.room_degree;
    })
