-- A sum with the ciphertext of zeros.
use Rattle.std.proofs.Common.{◌≡◌, ℕ, ◌<◌, refl, sym, ap, subst, ◌∙◌, arith, ℤ, pos, ◌+ℤ◌, List, length}
use Rattle.co_math.specs.Parameters.{q}
use Rattle.co_math.specs.Coefficients.{coefficients, AreBelow, AreResidues, residues_of}
use Rattle.co_math.specs.Polynomials.{plus}
use Rattle.co_math.proofs.Integers.{linear}
use Rattle.co_math.proofs.Residues.{cong_from, cong-trans, cong-add, cong-refl, cong-sym}
use Rattle.co_math.proofs.Done.{own_residues}
use Rattle.co_math.proofs.Agreements.{residues_for}
use Rattle.co_bfv.specs.Ciphertexts.{Ciphertext, IsCiphertext, ciphertext_degree, ciphertext_sum, zero_ciphertext}
use Rattle.co_math.proofs.Degrees.{degree_positive}
use Rattle.co_math.proofs.Residue_lists.{length-residues_of, residues_of-agree, residues_of-is}

-- zeros added to a polynomial modulo q
added : (n : ℕ) (xs : List ℕ) → 0 < n → length xs ≡ n → AreBelow q xs → residues_of q n (plus (coefficients (residues_of q n (λ k. pos 0))) (coefficients xs)) ≡ xs
unfolding plus
added n xs z e below =
    sym (residues_of-is q n (plus (coefficients (residues_of q n (λ k. pos 0))) (coefficients xs)) xs
    (residues_for q n (coefficients xs) (plus (coefficients (residues_of q n (λ k. pos 0))) (coefficients xs)) xs (omega arith)
    (λ k l. cong-sym q (cong-trans q (cong-add q (residues_of-agree q n (λ i. pos 0) (omega arith) z (λ i. refl) (pos k)) (cong-refl q (coefficients xs (pos k)))) (cong_from q (none (coefficients xs (pos k))))))
    (subst (λ (m : ℕ). AreResidues q m (coefficients xs) xs) e (own_residues q xs below))))
  where
    none : (x : ℤ) → pos 0 +ℤ x ≡ x
    none x = omega (arith, linear)

pub zero-degree : (n : ℕ) → ciphertext_degree (zero_ciphertext n) ≡ n
unfolding zero_ciphertext
zero-degree n = length-residues_of q n (λ k. pos 0)

sum_by_parts : (n : ℕ) (c : Ciphertext) → ciphertext_sum (zero_ciphertext n) c ≡ record {
  c0 = residues_of q (ciphertext_degree (zero_ciphertext n)) (plus (coefficients (residues_of q n (λ k. pos 0))) (coefficients c.c0));
  c1 = residues_of q (ciphertext_degree (zero_ciphertext n)) (plus (coefficients (residues_of q n (λ k. pos 0))) (coefficients c.c1));
}
unfolding ciphertext_sum zero_ciphertext
sum_by_parts n c = refl

pub zero-sum : (n : ℕ) (c : Ciphertext) → IsCiphertext c → ciphertext_degree c ≡ n → ciphertext_sum (zero_ciphertext n) c ≡ c
zero-sum n c h e =
    let z : 0 < n = subst (λ (m : ℕ). 0 < m) e (degree_positive (length c.c0) h.c0.degree) in
    let d = zero-degree n in
    sum_by_parts n c ∙ (λ i. record {
      c0 = (ap (λ m. residues_of q m (plus (coefficients (residues_of q n (λ k. pos 0))) (coefficients c.c0))) d ∙ added n c.c0 z e h.c0.below) i;
      c1 = (ap (λ m. residues_of q m (plus (coefficients (residues_of q n (λ k. pos 0))) (coefficients c.c1))) d ∙ added n c.c1 z (h.one_degree ∙ e) h.c1.below) i;
    })
