-- The sums keep their degree.
use Rattle.std.proofs.Common.{◌≡◌, sym, ap, subst, ◌∙◌, List, length, All}
use Rattle.co_crew.proofs.Adding.{whole_kept}
use Rattle.co_spectra.specs.Sums.{CipherSums}
use Rattle.co_matvec.specs.Units.{AreHeld}
use Rattle.co_matvec.proofs.Partition.{added-degrees}
use Rattle.co_matvec.proofs.units.Sums.merge.Goals as goal

pub invariant_of-self : goal.invariant_of-self
invariant_of-self c =
    let same = c.add_sums.ensures.added.count ∙ ap length c.deref_mut.ensures.value in
    subst (λ (xs : List CipherSums). AreHeld c.self.inside.weights.now c.self.inside.block xs c.add_sums.new.room)
    (sym (whole_kept c.self.inside.sums.len c.self.inside.sums.items c.add_sums.new.sums c.self.inside.sums.ok.0 same))
    (record {
      word = c.self.invariant.word;
      count = same ∙ c.self.invariant.count;
      degrees = added-degrees c.self.inside.weights.now.degree c.deref_mut.result.now c.deref.result.now c.add_sums.new.sums
          (subst (λ (xs : List CipherSums). All (λ s. s.degree ≡ c.self.inside.weights.now.degree) xs) (sym c.deref_mut.ensures.value) c.self.invariant.degrees) c.add_sums.ensures.added;
      room_degree = c.add_sums.ensures.room_degree ∙ c.get-n.ensures.value ∙ c.degree.ensures.value;
    })
