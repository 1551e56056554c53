-- Products with a secret, by the values that are kept with it.
use Rattle.std.proofs.Common.{◌≡◌, ℕ, sym, ap, subst, ◌∙◌, arith, ℤ, pos, List, length}
use Rattle.co_math.specs.Parameters.{q}
use Rattle.co_math.specs.Polynomials.{product, plus}
use Rattle.co_math.specs.Coefficients.{coefficients, signed_coefficients, AreResidues, residues_of}
use Rattle.co_math.proofs.Integers.{linear}
use Rattle.co_math.proofs.Orders.{coarser}
use Rattle.co_math.proofs.Agreements.{Agree}
use Rattle.co_math.proofs.Degrees.{degree_positive}
use Rattle.co_math.proofs.Residue_lists.{residues_of-is, residues_of-agree, signed-IsWrapped}
use Rattle.co_rns.specs.Spectra.{PairValues, IsSpectrumOf, IsAddedProduct}
use Rattle.co_rns.proofs.Spectra_agree.{added, values_agree}
use Rattle.co_math.specs.Parameters.{first_modulus, second_modulus}
use Rattle.co_bfv.specs.Secrets.{IsSecret, IsKept}

-- polynomials that agree modulo q have the same values
pub spectrum_agree : (n : ℕ) (f g : ℤ → ℤ) (s : PairValues) → Agree q f g → IsSpectrumOf n f s → IsSpectrumOf n g s
spectrum_agree n f g s h v = record {
  first_values = values_agree first_modulus n f g s.first (omega arith) (λ k. coarser first_modulus second_modulus (h k)) v.first_values;
  second_values = values_agree second_modulus n f g s.second (omega arith) (λ k. coarser second_modulus first_modulus (h k)) v.second_values;
}

-- what is made with a secret
pub made_kept : (secret : List ℤ) (degree tables : ℕ) (whole : List ℕ) (values : PairValues) → IsSecret secret → length secret ≡ degree → tables ≡ degree
    → whole ≡ residues_of q degree (signed_coefficients secret) → IsSpectrumOf tables (coefficients whole) values → IsKept secret tables values
made_kept secret degree tables whole values d e t w v =
    let n = length secret in
    let same : whole ≡ residues_of q n (signed_coefficients secret) = w ∙ ap (λ k. residues_of q k (signed_coefficients secret)) (sym e) in
    let z = degree_positive n d.degree in
    record {
      secret = d;
      tables_degree = t ∙ sym e;
      values_are =
          spectrum_agree n (coefficients (residues_of q n (signed_coefficients secret))) (signed_coefficients secret) values
          (residues_of-agree q n (signed_coefficients secret) (omega arith) z (signed-IsWrapped secret z))
          (subst (λ (xs : List ℕ). IsSpectrumOf n (coefficients xs) values) same (subst (λ (k : ℕ). IsSpectrumOf k (coefficients whole) values) (t ∙ sym e) v));
    }

nothing_more : (f : ℤ → ℤ) (k : ℤ) → plus (λ _. pos 0) f k ≡ f k
unfolding plus
nothing_more f k = omega (arith, linear)

pub kept_product : (secret : List ℤ) (tables : ℕ) (kept : PairValues) (other result : List ℕ) (zero factor sum : PairValues) → IsKept secret tables kept
    → IsSpectrumOf tables (coefficients other) factor → IsSpectrumOf tables (λ _. pos 0) zero → IsAddedProduct zero factor kept sum
    → ((f : ℤ → ℤ) → IsSpectrumOf tables f sum → AreResidues q tables f result)
    → result ≡ residues_of q (length secret) (product (length secret) (coefficients other) (signed_coefficients secret))
kept_product secret tables kept other result zero factor sum h f z s back =
    let n = length secret in
    let d = h.secret in
    let e = h.tables_degree in
    let all = added n (λ _. pos 0) (coefficients other) (signed_coefficients secret) zero factor kept sum d.degree (signed-IsWrapped secret (degree_positive n d.degree))
    (subst (λ (m : ℕ). IsSpectrumOf m (λ _. pos 0) zero) e z) (subst (λ (m : ℕ). IsSpectrumOf m (coefficients other) factor) e f) h.values_are s in
    let p = product n (coefficients other) (signed_coefficients secret) in
    let r = back (plus (λ _. pos 0) p) (subst (λ (m : ℕ). IsSpectrumOf m (plus (λ _. pos 0) p) sum) (sym e) all) in
    residues_of-is q n (plus (λ _. pos 0) p) result (subst (λ (m : ℕ). AreResidues q m (plus (λ _. pos 0) p) result) e r)
    ∙ ap (residues_of q n) (λ i k. nothing_more p k i)
