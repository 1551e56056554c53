use Rattle.std.proofs.Common.{◌<◌, ◌*◌, ℕ, List, length, sym, ap, subst, ◌∙◌}
use Rattle.co_math.specs.Coefficients.{AreBelow, IsDegree}
use Rattle.co_ring.specs.Moduli.{value_of}
use Rattle.co_ring.specs.Polynomials.{Polynomial}
use Rattle.co_ring.proofs.polys.Poly.substitute.Goals as goal

pub substitute-requires : goal.substitute-requires
substitute-requires c =
    let own = c.deref.ensures.value ∙ ap (λ (p : Polynomial). p.coeffs) c.self.view_is in
    let its = c.deref_mut.ensures.value ∙ ap (λ (p : Polynomial). p.coeffs) c.into.view_is in
    let one = ap (λ (p : Polynomial). p.modulus) c.into.view_is ∙ c.requires.one_modulus ∙ sym (ap (λ (p : Polynomial). p.modulus) c.self.view_is) in
    let m = c.value-m.ensures.value in
    record {
      one_degree = ap length its ∙ c.requires.one_degree ∙ sym (ap length own);
      degree = subst (λ (xs : List ℕ). IsDegree (length xs)) (sym c.deref.ensures.value) c.self.invariant.degree;
      odd = c.requires.odd;
      within = subst (λ (xs : List ℕ). c.args.g < 2 * length xs) (sym own) c.requires.within;
      reduced = subst (λ (xs : List ℕ). AreBelow c.value-m.result xs) (sym c.deref.ensures.value) (subst (λ (k : ℕ). AreBelow k c.self.inside.coeffs.items) (sym m) c.self.invariant.below);
      into_reduced = subst (λ (xs : List ℕ). AreBelow c.value-m.result xs) (sym c.deref_mut.ensures.value) (subst (λ (k : ℕ). AreBelow k c.into.inside.coeffs.items) (ap value_of one ∙ sym m) c.into.invariant.below);
    }
