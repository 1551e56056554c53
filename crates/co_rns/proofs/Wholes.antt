-- The two parts of a polynomial modulo q.
use Rattle.std.proofs.Common.{◌≡◌, ℕ, ◌%◌, ◌/◌, ◌^◌, ◌<◌, ◌≤◌, refl, sym, ap, subst, ◌∙◌, arith, ℤ, pos, ◌*ℤ◌, List, length, get_or}
use Rattle.std.proofs.lemmas.List.{ext_get_or}
use Rattle.std.proofs.Math.Nat.{mod-lt}
use Rattle.std.proofs.lemmas.Nat.{pow_pos}
use Rattle.co_math.specs.Residues.{Congruent}
use Rattle.co_math.specs.Polynomials.{plus, minus, scaled, shifted, product}
use Rattle.co_math.specs.Coefficients.{coefficients, AreBelow, AreResidues, IsSubstituted, IsDegree}
use Rattle.co_math.proofs.Residues.{cong-refl, cong-trans, cong-sym, cong-mul, cong_from, residue_small, residue-same}
use Rattle.co_math.proofs.Reduced.{remainder-is}
use Rattle.co_math.proofs.Agreements.{coefficients_agree, residues_for, Agree, plus_agree, minus_agree, shifted_agree, product_agree}
use Rattle.co_math.proofs.Degrees.{degree_positive}
use Rattle.co_math.proofs.Done.{AreFilled}
use Rattle.co_ring.specs.declared.moduli.Modulus.{Modulus}
use Rattle.co_ring.specs.declared.moduli.Modulus.TheVariants.{First, Second}
use Rattle.co_ring.specs.Moduli.{value_of}
use Rattle.co_ring.specs.Polynomials.{Polynomial, IsPolynomial, IsPoly}
use Rattle.co_ring.proofs.Keeping.{residues_IsPolynomial}
use Rattle.co_rns.specs.Residue_pairs.{q, composed, all_composed, AreResiduesOf, AreDigits}
use Rattle.co_rns.specs.Pairs.{IsPair, IsWhole}
use Rattle.co_rns.proofs.Composing.{both, composed-first, composed-second, composed-below, composed-residues, length-all_composed, get_or-all_composed, all_composed_are}
use Rattle.co_math.specs.Parameters.{first_modulus, second_modulus}

-- numbers below m that agree with others modulo m are their residues
residues_part : (m : ℕ) (xs value : List ℕ) → 0 < m → length xs ≡ length value → ((k : ℕ) → k < length value → get_or xs k 0 < m)
    → ((k : ℕ) → k < length value → Congruent m (pos (get_or xs k 0)) (pos (get_or value k 0))) → AreResiduesOf m value xs
residues_part m xs value z len below agree = record {
  len = len;
  each = λ k l. sym (residue_small m (get_or xs k 0) (below k l)) ∙ residue-same m (pos (get_or xs k 0)) (pos (get_or value k 0)) z (agree k l) ∙ sym (remainder-is m (get_or value k 0));
}

-- the value of a pair, and what its parts are to it
module _ (first second : Polynomial) (p : IsPair first second) (value : List ℕ) (is : all_composed first.coeffs second.coeffs ≡ value) where
  xs : List ℕ
  xs = first.coeffs

  ys : List ℕ
  ys = second.coeffs

  pub first_degree : length first.coeffs ≡ length value
  first_degree = sym (length-all_composed first.coeffs second.coeffs p.one_degree) ∙ ap length is

  pub second_degree : length second.coeffs ≡ length value
  second_degree = p.one_degree ∙ first_degree

  pub value_degree : IsDegree (length value)
  value_degree = subst IsDegree first_degree p.first_polynomial.degree

  positive : 0 < length value
  positive = let d = value_degree in let e = pow_pos d.exponent in omega (arith, d.is, e)

  pub value-at : (k : ℕ) → k < length value → get_or value k 0 ≡ composed (get_or first.coeffs k 0) (get_or second.coeffs k 0)
  value-at k l = ap (λ v. get_or v k 0) (sym is) ∙ get_or-all_composed first.coeffs second.coeffs k p.one_degree (omega (arith, first_degree))

  pub value_below : AreBelow q value
  value_below k l = subst (λ (v : ℕ). v < q) (sym (value-at k l)) (composed-below (get_or first.coeffs k 0) (get_or second.coeffs k 0) (p.first_polynomial.below k (omega (arith, first_degree))))

  first_agrees : (k : ℕ) → k < length value → Congruent first_modulus (pos (get_or first.coeffs k 0)) (pos (get_or value k 0))
  first_agrees k l = cong-sym first_modulus (cong-trans first_modulus (cong_from first_modulus (ap pos (value-at k l))) (composed-first (get_or first.coeffs k 0) (get_or second.coeffs k 0)))

  pub first_is : Agree first_modulus (coefficients first.coeffs) (coefficients value)
  first_is = coefficients_agree first_modulus first.coeffs value (omega (arith, first_degree, positive)) (sym first_degree) (λ k u. first_agrees k (omega (arith, first_degree)))

  second_agrees : (k : ℕ) → k < length value → Congruent second_modulus (pos (get_or second.coeffs k 0)) (pos (get_or value k 0))
  second_agrees k l = cong-sym second_modulus (cong-trans second_modulus (cong_from second_modulus (ap pos (value-at k l))) (composed-second (get_or first.coeffs k 0) (get_or second.coeffs k 0)))

  pub second_is : Agree second_modulus (coefficients second.coeffs) (coefficients value)
  second_is = coefficients_agree second_modulus second.coeffs value (omega (arith, second_degree, positive)) (sym second_degree) (λ k u. second_agrees k (omega (arith, second_degree)))

  pub whole : IsWhole value
  whole = record { degree = value_degree; below = value_below }

  pub first_residues : AreResiduesOf first_modulus value first.coeffs
  first_residues = residues_part first_modulus first.coeffs value (omega arith) first_degree (λ k l. p.first_polynomial.below k (omega (arith, first_degree))) first_agrees

  pub second_residues : AreResiduesOf second_modulus value second.coeffs
  second_residues = residues_part second_modulus second.coeffs value (omega arith) second_degree (λ k l. p.second_polynomial.below k (omega (arith, second_degree))) second_agrees

-- what is done to both parts is done to the whole, where the operation respects congruence
module _ (n n₁ n₂ : ℕ) (g h : ℤ → ℤ) (m₁ m₂ : Modulus) (a b : Polynomial) (first : m₁ ≡ First) (second : m₂ ≡ Second) (one : n₁ ≡ n) (two : n₂ ≡ n)
    (x : IsPoly m₁ n₁ g a) (y : IsPoly m₂ n₂ h b) where
  residues_one : AreResidues first_modulus n g a.coeffs
  residues_one = subst (λ (m : Modulus). AreResidues (value_of m) n g a.coeffs) first (subst (λ (k : ℕ). AreResidues (value_of m₁) k g a.coeffs) one x.coeffs)

  residues_two : AreResidues second_modulus n h b.coeffs
  residues_two = subst (λ (m : Modulus). AreResidues (value_of m) n h b.coeffs) second (subst (λ (k : ℕ). AreResidues (value_of m₂) k h b.coeffs) two y.coeffs)

  pub combined : (f : ℤ → ℤ) → Agree first_modulus g f → Agree second_modulus h f → AreResidues q n f (all_composed a.coeffs b.coeffs)
  combined f c d =
      all_composed_are n f a.coeffs b.coeffs (residues_for first_modulus n g f a.coeffs (omega arith) (λ k u. c (pos k)) residues_one)
      (residues_for second_modulus n h f b.coeffs (omega arith) (λ k u. d (pos k)) residues_two)

  pub combined_pair : IsDegree n → IsPair a b
  combined_pair d = record {
    first_modulus = x.one_modulus ∙ first;
    second_modulus = y.one_modulus ∙ second;
    one_degree = y.coeffs.len ∙ two ∙ sym (x.coeffs.len ∙ one);
    first_polynomial = residues_IsPolynomial First n g a.coeffs d residues_one;
    second_polynomial = residues_IsPolynomial Second n h b.coeffs d residues_two;
  }

pub constant_agree : (m : ℕ) (f : ℤ → ℤ) → Agree m f f
constant_agree m f k = cong_from m refl

-- a pair of substituted parts
pub substituted_whole : (g : ℕ) (xs ys zs ws v : List ℕ) → 0 < length v → length xs ≡ length v → length ys ≡ length v → Agree first_modulus (coefficients xs) (coefficients v) → Agree second_modulus (coefficients ys) (coefficients v)
    → IsSubstituted first_modulus g xs zs → IsSubstituted second_modulus g ys ws → IsSubstituted q g v (all_composed zs ws)
substituted_whole g xs ys zs ws v z lx ly cx cy s t =
    let e : length ws ≡ length zs = omega (arith, s.len, t.len) in
    let l = length-all_composed zs ws e in
    let first : Agree first_modulus (coefficients (all_composed zs ws)) (coefficients zs) =
    coefficients_agree first_modulus (all_composed zs ws) zs (omega (arith, l, s.len)) (sym l)
    (λ k u. cong-trans first_modulus (cong_from first_modulus (ap pos (get_or-all_composed zs ws k e (omega arith)))) (composed-first (get_or zs k 0) (get_or ws k 0))) in
    let second : Agree second_modulus (coefficients (all_composed zs ws)) (coefficients ws) =
    coefficients_agree second_modulus (all_composed zs ws) ws (omega (arith, l, s.len)) (omega arith)
    (λ k u. cong-trans second_modulus (cong_from second_modulus (ap pos (get_or-all_composed zs ws k e (omega arith)))) (composed-second (get_or zs k 0) (get_or ws k 0))) in
    record {
      len = l ∙ s.len ∙ lx;
      below = λ k u. subst (λ (r : ℕ). r < q) (sym (get_or-all_composed zs ws k e (omega arith))) (composed-below (get_or zs k 0) (get_or ws k 0) (s.below k (omega arith)));
      at = λ k u. both
          (cong-trans first_modulus (first (pos g *ℤ pos k)) (cong-trans first_modulus (s.at k (omega (arith, lx))) (cx (pos k))))
          (cong-trans second_modulus (second (pos g *ℤ pos k)) (cong-trans second_modulus (t.at k (omega (arith, ly))) (cy (pos k))));
    }

-- a value, and the polynomials that it is kept as
pub record IsSplit (value : List ℕ) (first second : Polynomial) : Type 0 where
  pub first_modulus_is : first.modulus ≡ First
  pub second_modulus_is : second.modulus ≡ Second
  pub first_length : length first.coeffs ≡ length value
  pub second_length : length second.coeffs ≡ length value
  pub whole_value : IsWhole value
  pub first_part : Agree first_modulus (coefficients first.coeffs) (coefficients value)
  pub second_part : Agree second_modulus (coefficients second.coeffs) (coefficients value)

pub split_of : {value : List ℕ} (first second : Polynomial) → IsPair first second → all_composed first.coeffs second.coeffs ≡ value → IsSplit value first second
split_of {value} first second p is = record {
  first_modulus_is = p.first_modulus;
  second_modulus_is = p.second_modulus;
  first_length = first_degree first second p value is;
  second_length = second_degree first second p value is;
  whole_value = whole first second p value is;
  first_part = first_is first second p value is;
  second_part = second_is first second p value is;
}

pub first_length_of : {v : List ℕ} {a b : Polynomial} → IsSplit v a b → length a.coeffs ≡ length v
first_length_of s = s.first_length

pub second_length_of : {v : List ℕ} {a b : Polynomial} → IsSplit v a b → length b.coeffs ≡ length v
second_length_of s = s.second_length

pub one_length : {v w : List ℕ} {a b c d : Polynomial} → IsSplit v a b → IsSplit w c d → length w ≡ length v → length c.coeffs ≡ length a.coeffs
one_length s r e = r.first_length ∙ e ∙ sym s.first_length

pub one_length_second : {v w : List ℕ} {a b c d : Polynomial} → IsSplit v a b → IsSplit w c d → length w ≡ length v → length d.coeffs ≡ length b.coeffs
one_length_second s r e = r.second_length ∙ e ∙ sym s.second_length

-- the same of two pairs
pub first_lengths : {v w : List ℕ} (a b c d : Polynomial) → IsPair a b → all_composed a.coeffs b.coeffs ≡ v → IsPair c d → all_composed c.coeffs d.coeffs ≡ w → length w ≡ length v → length c.coeffs ≡ length a.coeffs
first_lengths a b c d p i r j e = one_length (split_of a b p i) (split_of c d r j) e

pub second_lengths : {v w : List ℕ} (a b c d : Polynomial) → IsPair a b → all_composed a.coeffs b.coeffs ≡ v → IsPair c d → all_composed c.coeffs d.coeffs ≡ w → length w ≡ length v → length d.coeffs ≡ length b.coeffs
second_lengths a b c d p i r j e = one_length_second (split_of a b p i) (split_of c d r j) e

-- f, reduced modulo q, kept as two polynomials
pub record IsResult (n : ℕ) (f : ℤ → ℤ) (a b : Polynomial) : Type 0 where
  pub pair : IsPair a b
  pub residues : AreResidues q n f (all_composed a.coeffs b.coeffs)

-- g and h done to the parts are f done to the value, where they agree with f
pub result_of : {v : List ℕ} {a b : Polynomial} → IsSplit v a b → (f g h : ℤ → ℤ) (x y : Polynomial) → IsPoly a.modulus (length a.coeffs) g x → IsPoly b.modulus (length b.coeffs) h y
    → Agree first_modulus g f → Agree second_modulus h f → IsResult (length v) f x y
result_of {v} {a} {b} s f g h x y i j c d = record {
  pair = combined_pair (length v) (length a.coeffs) (length b.coeffs) g h a.modulus b.modulus x y s.first_modulus_is s.second_modulus_is s.first_length s.second_length i j s.whole_value.degree;
  residues = combined (length v) (length a.coeffs) (length b.coeffs) g h a.modulus b.modulus x y s.first_modulus_is s.second_modulus_is s.first_length s.second_length i j f c d;
}

pub plus_result : {v w : List ℕ} {a b c d : Polynomial} → IsSplit v a b → IsSplit w c d → (x y : Polynomial)
    → IsPoly a.modulus (length a.coeffs) (plus (coefficients a.coeffs) (coefficients c.coeffs)) x → IsPoly b.modulus (length b.coeffs) (plus (coefficients b.coeffs) (coefficients d.coeffs)) y
    → IsResult (length v) (plus (coefficients v) (coefficients w)) x y
plus_result s r x y i j = result_of s _ _ _ x y i j (plus_agree first_modulus _ _ _ _ s.first_part r.first_part) (plus_agree second_modulus _ _ _ _ s.second_part r.second_part)

pub minus_result : {v w : List ℕ} {a b c d : Polynomial} → IsSplit v a b → IsSplit w c d → (x y : Polynomial)
    → IsPoly a.modulus (length a.coeffs) (minus (coefficients a.coeffs) (coefficients c.coeffs)) x → IsPoly b.modulus (length b.coeffs) (minus (coefficients b.coeffs) (coefficients d.coeffs)) y
    → IsResult (length v) (minus (coefficients v) (coefficients w)) x y
minus_result s r x y i j = result_of s _ _ _ x y i j (minus_agree first_modulus _ _ _ _ s.first_part r.first_part) (minus_agree second_modulus _ _ _ _ s.second_part r.second_part)

scaled_agree : (m : ℕ) (k : ℤ) (a c : ℤ → ℤ) → Agree m a c → Agree m (scaled k a) (scaled k c)
unfolding scaled
scaled_agree m k a c h i = cong-mul m (cong-refl m k) (h i)

pub scaled_result : {v : List ℕ} {a b : Polynomial} → IsSplit v a b → (k : ℤ) (x y : Polynomial)
    → IsPoly a.modulus (length a.coeffs) (scaled k (coefficients a.coeffs)) x → IsPoly b.modulus (length b.coeffs) (scaled k (coefficients b.coeffs)) y
    → IsResult (length v) (scaled k (coefficients v)) x y
scaled_result s k x y i j = result_of s _ _ _ x y i j (scaled_agree first_modulus k _ _ s.first_part) (scaled_agree second_modulus k _ _ s.second_part)

pub shifted_result : {v : List ℕ} {a b : Polynomial} → IsSplit v a b → (e : ℕ) (x y : Polynomial)
    → IsPoly a.modulus (length a.coeffs) (shifted e (coefficients a.coeffs)) x → IsPoly b.modulus (length b.coeffs) (shifted e (coefficients b.coeffs)) y
    → IsResult (length v) (shifted e (coefficients v)) x y
shifted_result s e x y i j = result_of s _ _ _ x y i j (shifted_agree first_modulus e _ _ s.first_part) (shifted_agree second_modulus e _ _ s.second_part)

-- products of the parts, whose other factors agree with one function
pub product_result : {v : List ℕ} {a b : Polynomial} → IsSplit v a b → (c d f : ℤ → ℤ) (x y : Polynomial)
    → IsPoly a.modulus (length a.coeffs) (product (length a.coeffs) (coefficients a.coeffs) c) x → IsPoly b.modulus (length b.coeffs) (product (length b.coeffs) (coefficients b.coeffs) d) y
    → Agree first_modulus c f → Agree second_modulus d f → IsResult (length v) (product (length v) (coefficients v) f) x y
product_result {v} {a} {b} s c d f x y i j h k =
    result_of s _ _ _ x y i j (parts first_modulus (length a.coeffs) (coefficients a.coeffs) c s.first_length s.first_part h) (parts second_modulus (length b.coeffs) (coefficients b.coeffs) d s.second_length s.second_part k)
  where
    parts : (m n : ℕ) (a c : ℤ → ℤ) → n ≡ length v → Agree m a (coefficients v) → Agree m c f → Agree m (product n a c) (product (length v) (coefficients v) f)
    parts m n a c e x y z = cong-trans m (product_agree m n a c (coefficients v) f x y z) (cong_from m (ap (λ i. product i (coefficients v) f z) e))

pub substituted_result : {v : List ℕ} {a b : Polynomial} → IsSplit v a b → (g : ℕ) (xs ys : List ℕ)
    → IsSubstituted (value_of a.modulus) g a.coeffs xs → IsSubstituted (value_of b.modulus) g b.coeffs ys → IsSubstituted q g v (all_composed xs ys)
substituted_result {v} {a} {b} s g xs ys i j =
    substituted_whole g a.coeffs b.coeffs xs ys v (degree_positive (length v) s.whole_value.degree) s.first_length s.second_length s.first_part s.second_part
    (subst (λ (m : Modulus). IsSubstituted (value_of m) g a.coeffs xs) s.first_modulus_is i)
    (subst (λ (m : Modulus). IsSubstituted (value_of m) g b.coeffs ys) s.second_modulus_is j)

-- a list of numbers below q is composed of its residues
pub split_back : (cs xs ys : List ℕ) → AreBelow q cs → AreResiduesOf first_modulus cs xs → AreResiduesOf second_modulus cs ys → all_composed xs ys ≡ cs
split_back cs xs ys b x y =
    let e : length ys ≡ length xs = omega (arith, x.len, y.len) in
    ext_get_or 0 (all_composed xs ys) cs (length-all_composed xs ys e ∙ x.len)
    (λ k u. get_or-all_composed xs ys k e (omega (arith, length-all_composed xs ys e))
    ∙ composed-residues (pos (get_or cs k 0)) (get_or xs k 0) (get_or ys k 0) (x.each k (omega (arith, length-all_composed xs ys e, x.len)) ∙ remainder-is first_modulus (get_or cs k 0)) (y.each k (omega (arith, length-all_composed xs ys e, x.len)) ∙ remainder-is second_modulus (get_or cs k 0))
    ∙ residue_small q (get_or cs k 0) (b k (omega (arith, length-all_composed xs ys e, x.len))))

-- digits are their own residues
pub digits_whole : (base place : ℕ) (cs xs ys : List ℕ) → 0 < base → base ≤ first_modulus → AreDigits base place cs xs → AreDigits base place cs ys → AreDigits base place cs (all_composed xs ys)
digits_whole base place cs xs ys z below x y =
    let e : length ys ≡ length xs = omega (arith, x.len, y.len) in
    record {
      len = length-all_composed xs ys e ∙ x.len;
      each = λ k u.
          let d = get_or cs k 0 / base ^ place % base in
          let small : d < base = mod-lt (get_or cs k 0 / base ^ place) z in
          get_or-all_composed xs ys k e (omega (arith, x.len))
          ∙ composed-residues (pos d) (get_or xs k 0) (get_or ys k 0) (x.each k u ∙ sym (residue_small first_modulus d (omega (arith, small, below)))) (y.each k u ∙ sym (residue_small second_modulus d (omega (arith, small, below))))
          ∙ residue_small q d (omega (arith, small, below));
    }

pub parts_pair : (first second : Polynomial) → first.modulus ≡ First → second.modulus ≡ Second → length second.coeffs ≡ length first.coeffs → IsPolynomial first.modulus first.coeffs → IsPolynomial second.modulus second.coeffs → IsPair first second
parts_pair first second a b e x y = record {
  first_modulus = a;
  second_modulus = b;
  one_degree = e;
  first_polynomial = subst (λ (m : Modulus). IsPolynomial m first.coeffs) a x;
  second_polynomial = subst (λ (m : Modulus). IsPolynomial m second.coeffs) b y;
}

pub digits_pair : (base place : ℕ) (cs : List ℕ) (a b : Polynomial) → 0 < base → base ≤ first_modulus → a.modulus ≡ First → b.modulus ≡ Second → IsDegree (length cs) → AreDigits base place cs a.coeffs → AreDigits base place cs b.coeffs → IsPair a b
digits_pair base place cs a b z below e f d x y = record {
  first_modulus = e;
  second_modulus = f;
  one_degree = y.len ∙ sym x.len;
  first_polynomial = record { degree = subst IsDegree (sym x.len) d; below = λ k l. small first_modulus (get_or cs k 0) (get_or a.coeffs k 0) below (x.each k (omega (arith, x.len))) };
  second_polynomial = record { degree = subst IsDegree (sym y.len) d; below = λ k l. small second_modulus (get_or cs k 0) (get_or b.coeffs k 0) (omega (arith, below)) (y.each k (omega (arith, y.len))) };
}
  where
    small : (m c r : ℕ) → base ≤ m → r ≡ c / base ^ place % base → r < m
    small m c r l e = omega (arith, mod-lt (c / base ^ place) z)

pub filled_digits : (base place n i : ℕ) (cs xs : List ℕ) → AreFilled n i (λ k. get_or cs k 0 / base ^ place % base) xs → i ≡ n → length cs ≡ n → AreDigits base place cs xs
filled_digits base place n i cs xs h e l = record { len = h.len ∙ sym l; each = λ k u. h.done k (omega (arith, l)) }
