-- Any slots below t have a polynomial: that of the values at the powers of the root, by interpolation.
use Rattle.std.proofs.Common.{◌≡◌, ℕ, ◌*◌, ◌-◌, ◌/◌, ◌<◌, refl, sym, ap, subst, ◌∙◌, arith, ℤ, pos, ◌*ℤ◌, List, length, get_or, map}
use Rattle.std.specs.List.{range_with_len}
use Rattle.std.proofs.lemmas.List.FromFn.{length-map-range_with_len, get_or-map-range_with_len}
use Rattle.std.proofs.lemmas.Nat.{pow_pos}
use Rattle.co_math.specs.Parameters.{plain_modulus}
use Rattle.co_math.specs.Residues.{residue, Congruent}
use Rattle.co_math.specs.Sums.{total}
use Rattle.co_math.specs.Powers.{power, root}
use Rattle.co_math.specs.Values.{value, value_at}
use Rattle.co_math.specs.Coefficients.{coefficients, AreBelow, IsDegree}
use Rattle.co_math.proofs.Integers.{expand, mul_assoc, mul-one}
use Rattle.co_math.proofs.Residues.{cong-refl, cong_from, cong-sym, cong-trans, cong-mul, residue-lt}
use Rattle.co_math.proofs.Reduced.{reduced_as, residue_of}
use Rattle.co_math.proofs.Totals.{total-same}
use Rattle.co_math.proofs.Terms.{coefficient-low}
use Rattle.co_ring.specs.declared.moduli.Modulus.TheVariants.{Plain}
use Rattle.co_ring.proofs.Inverting.{interpolated}
use Rattle.co_ring.proofs.Rooted.{root_minus}
use Rattle.co_slots.specs.Slots.{exponent_of, slot, AreSlots}
use Rattle.co_slots.proofs.Exponents.{exponent-lt, exponent-odd, exponents_differ}
use Rattle.co_slots.proofs.Placing.{degree-inverse}

-- the sum of values[p] * zeta^(-exponent p * k)
unfoldable interpolation : List ℕ → ℕ → ℤ
interpolation values k = total (length values) (λ p. pos (get_or values p 0) *ℤ power (pos (root plain_modulus (length values))) ((2 * length values - exponent_of (length values) p) * k))

-- the first coefficients are interpolated
record AreInterpolated (i : ℕ) (values coeffs : List ℕ) : Type 0 where
  pub len : length coeffs ≡ length values
  pub each : (k : ℕ) → k < i → Congruent plain_modulus (pos (get_or coeffs k 0) *ℤ pos (length values)) (interpolation values k)

interpolated_slots : (i : ℕ) (values coeffs : List ℕ) → IsDegree (length values) → AreBelow plain_modulus values → i ≡ length values → AreInterpolated i values coeffs → AreSlots coeffs values
unfolding slot interpolation value_at value
interpolated_slots i values coeffs d b e h =
    let n = length values in
    let z = pow_pos d.exponent in
    let p : 0 < n = omega (arith, d.is, z) in
    let psi = pos (root plain_modulus n) in
    let w = pos (plain_modulus - (plain_modulus - 1) / n) in
    let c = λ (k : ℕ). pos (get_or coeffs k 0) in
    let v = λ (k : ℕ). pos (get_or values k 0) in
    let inv = degree-inverse n d in
    record {
      len = sym h.len;
      each = λ q u.
          let r : q < n = omega (arith, h.len) in
          let x = power psi (exponent_of n q) in
          let t : Congruent plain_modulus (value n c x) (v q) =
          interpolated plain_modulus n d.exponent psi d.is (root_minus Plain n d) (exponent_of n) (λ j a. exponent-lt n j p) (λ j a. exponent-odd n j p) (λ j k a f ne. exponents_differ n j k d a f ne) v c w inv
          (λ k a. cong-trans plain_modulus (cong-sym plain_modulus (cong-trans plain_modulus (cong_from plain_modulus (turn w (c k) (pos n))) (cong-trans plain_modulus (cong-mul plain_modulus (cong-refl plain_modulus (c k)) inv) (cong_from plain_modulus (mul-one (c k))))))
          (cong-mul plain_modulus (cong-refl plain_modulus w) (h.each k (omega arith)))) q r in
          let same : value_at n (coefficients coeffs) x ≡ value n c x = total-same n (λ j. coefficients coeffs (pos j) *ℤ power x j) (λ j. c j *ℤ power x j) (λ j a. ap (λ y. y *ℤ power x j) (coefficient-low coeffs j (omega (arith, h.len)))) in
          reduced_as plain_modulus (get_or values q 0) (value_at n (coefficients coeffs) x) (b q r) (cong-trans plain_modulus (cong-sym plain_modulus t) (cong_from plain_modulus (sym same)))
          ∙ ap (λ m. residue plain_modulus (value_at m (coefficients coeffs) (power (pos (root plain_modulus m)) (exponent_of m q)))) (sym h.len);
    }
  where
    turn : (w c n : ℤ) → w *ℤ (c *ℤ n) ≡ c *ℤ (w *ℤ n)
    turn w c n = simp expand

times_degree : (vs : List ℕ) (k s r : ℕ) → IsDegree (length vs) → s ≡ residue plain_modulus (interpolation vs k) → r ≡ residue plain_modulus (pos s *ℤ pos (plain_modulus - (plain_modulus - 1) / length vs)) → Congruent plain_modulus (pos r *ℤ pos (length vs)) (interpolation vs k)
times_degree vs k s r d e f =
    let n = pos (length vs) in
    let w = pos (plain_modulus - (plain_modulus - 1) / length vs) in
    cong-trans plain_modulus (cong-mul plain_modulus (residue_of plain_modulus r (pos s *ℤ w) (omega arith) f) (cong-refl plain_modulus n))
    (cong-trans plain_modulus (cong_from plain_modulus (mul_assoc (pos s) w n)) (cong-trans plain_modulus (cong-mul plain_modulus (cong-refl plain_modulus (pos s)) (degree-inverse (length vs) d)) (cong-trans plain_modulus (cong_from plain_modulus (mul-one (pos s))) (residue_of plain_modulus s (interpolation vs k) (omega arith) e))))

-- coefficient k of the polynomial whose slots are these
coefficient : List ℕ → ℕ → ℕ
coefficient values k = residue plain_modulus (pos (residue plain_modulus (interpolation values k)) *ℤ pos (plain_modulus - (plain_modulus - 1) / length values))

encoded : List ℕ → List ℕ
encoded values = map (coefficient values) (range_with_len 0 (length values))

encoded-length : (values : List ℕ) → length (encoded values) ≡ length values
unfolding encoded
encoded-length values = length-map-range_with_len (coefficient values) 0 (length values)

encoded-at : (values : List ℕ) (k : ℕ) → k < length values → get_or (encoded values) k 0 ≡ coefficient values k
unfolding encoded
encoded-at values k l = get_or-map-range_with_len (coefficient values) 0 (length values) k k 0 l (omega arith)

encoded-slots : (values : List ℕ) → IsDegree (length values) → AreBelow plain_modulus values → AreSlots (encoded values) values
unfolding coefficient
encoded-slots values d b = interpolated_slots (length values) values (encoded values) d b refl (record {
  len = encoded-length values;
  each = λ k l. times_degree values k (residue plain_modulus (interpolation values k)) (get_or (encoded values) k 0) d refl (encoded-at values k l);
})

encoded-below : (values : List ℕ) → AreBelow plain_modulus (encoded values)
unfolding coefficient
encoded-below values k l =
    subst (λ (x : ℕ). x < plain_modulus) (sym (encoded-at values k (subst (λ (m : ℕ). k < m) (encoded-length values) l)))
    (residue-lt plain_modulus (pos (residue plain_modulus (interpolation values k)) *ℤ pos (plain_modulus - (plain_modulus - 1) / length values)) (omega arith))

-- the polynomial of some slots: reduced, and of as many coefficients
pub record HasPolynomial (slots : List ℕ) : Type 0 where
  pub coeffs : List ℕ
  pub reduced : AreBelow plain_modulus coeffs
  pub slots_are : AreSlots coeffs slots

pub has_polynomial : (slots : List ℕ) → IsDegree (length slots) → AreBelow plain_modulus slots → HasPolynomial slots
has_polynomial slots d below = record { coeffs = encoded slots; reduced = encoded-below slots; slots_are = encoded-slots slots d below }
