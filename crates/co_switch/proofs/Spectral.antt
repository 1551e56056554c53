-- The values of a key's polynomials, one by one.
use Rattle.std.proofs.Common.{◌≡◌, ℕ, ◌+◌, ◌<◌, ◌≤◌, sym, ap, subst, ◌∙◌, ⊎_elim, arith, ℤ, List, [], ◌∷◌, ◌++◌, length, get_or, All, length-append}
use Rattle.std.proofs.lemmas.Bool.{cases_lt}
use Rattle.std.proofs.lemmas.List.{get_or_append_left}
use Rattle.std.proofs.lemmas.List.Elements.{All-get_or}
use Rattle.std.proofs.Math.Seq.{get_or-append_seam}
use Rattle.co_math.specs.Parameters.{digit_count}
use Rattle.co_math.specs.Coefficients.{coefficients}
use Rattle.co_rns.specs.Spectra.{PairValues, IsSpectrumOf, spectrum_degree}
use Rattle.co_switch.specs.Keys.{AreOfDegree, AreSpectra, part}

-- the values of the first polynomials
pub record AreFirst (n i : ℕ) (polynomials : List (List ℕ)) (values : List PairValues) : Type 0 where
  pub len : length values ≡ i
  pub each : (j : ℕ) (d : PairValues) → j < i → IsSpectrumOf n (coefficients (part polynomials j)) (get_or values j d)

pub spectra-degree : (n : ℕ) (polynomials : List (List ℕ)) (values : List PairValues) → AreSpectra n polynomials values → AreOfDegree n values
spectra-degree n polynomials values h = record {
  count = h.count;
  degree = λ j d l. let v = h.each j d l in let f = v.first_values in f.len;
}

pub spectrum-len : (n : ℕ) (f : ℤ → ℤ) (v : PairValues) → IsSpectrumOf n f v → spectrum_degree v ≡ n
spectrum-len n f v h = let s = h.first_values in s.len

-- the values of one more polynomial
pub one_more : (n i : ℕ) (polynomials : List (List ℕ)) (values new : List PairValues) (value : PairValues) → AreFirst n i polynomials values → new ≡ values ++ value ∷ []
    → IsSpectrumOf n (coefficients (part polynomials i)) value → AreFirst n (i + 1) polynomials new
one_more n i polynomials values new value h e v = record {
  len = omega (arith, ap length e ∙ length-append values (value ∷ []), h.len);
  each = λ j d l. subst (λ (xs : List PairValues). IsSpectrumOf n (coefficients (part polynomials j)) (get_or xs j d)) (sym e)
      (⊎_elim (λ (b : j < i). subst (IsSpectrumOf n (coefficients (part polynomials j))) (sym (get_or_append_left values (value ∷ []) d j (omega (arith, b, h.len)))) (h.each j d b))
      (λ (b : i ≤ j). let k : j ≡ i = omega (arith, b, l) in
      subst (λ (m : ℕ). IsSpectrumOf n (coefficients (part polynomials m)) (get_or (values ++ value ∷ []) m d)) (sym k)
      (subst (IsSpectrumOf n (coefficients (part polynomials i))) (sym (ap (λ m. get_or (values ++ value ∷ []) m d) (sym h.len) ∙ get_or-append_seam values value [] d)) v))
      (cases_lt j i));
}

-- the values of all
pub all_done : (n i : ℕ) (polynomials : List (List ℕ)) (values : List PairValues) → AreFirst n i polynomials values → i ≡ length polynomials → length polynomials ≡ digit_count
    → All (λ p. length p ≡ n) polynomials → AreSpectra n polynomials values
all_done n i polynomials values h e count degrees = record {
  count = h.len ∙ e ∙ count;
  degree = λ j l. All-get_or (λ p. length p ≡ n) polynomials j [] (omega (arith, l, count)) degrees;
  each = λ j d l. h.each j d (omega (arith, l, e, count));
}
