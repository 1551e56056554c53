-- Loops over lists of sums: one place after another, and one item more.
use Rattle.std.proofs.Common.{◌≡◌, ℕ, ◌+◌, ◌<◌, ◌≤◌, refl, sym, ap, subst, ◌∙◌, ⊎_elim, arith, List, [], ◌∷◌, ◌++◌, length, get_or, set, length-append}
use Rattle.std.proofs.lemmas.Bool.{cases_eq, cases_lt}
use Rattle.std.proofs.lemmas.List.{length-set, get_or_append_left, get_or_default, get_or-set_other, get_or-set_same}
use Rattle.std.proofs.Math.Seq.{get_or-append_seam}
use Rattle.co_bfv.specs.Ciphertexts.{Ciphertext, ciphertext_degree}
use Rattle.co_bfv.specs.Totals.{no_ciphertext}
use Rattle.co_spectra.specs.Sums.{CipherSums, IsCipherSumOf}
use Rattle.co_matvec.specs.Sums.{no_sum, sum_at, AreTurnedBack}

-- the first sums are changed as P says, the others are as they were
pub record AreReached (P : ℕ → CipherSums → CipherSums → Type 0) (done : ℕ) (before now : List CipherSums) : Type 0 where
  pub count : length now ≡ length before
  pub first : (a : ℕ) → a < done → a < length before → P a (sum_at before a) (sum_at now a)
  pub rest : (a : ℕ) → done ≤ a → a < length before → sum_at now a ≡ sum_at before a

module _ (P : ℕ → CipherSums → CipherSums → Type 0) where
  pub none_reached : (before : List CipherSums) → AreReached P 0 before before
  none_reached before = record { count = refl; first = λ a l u. absurd (omega arith); rest = λ a l u. refl }

  module _ (done : ℕ) (before now : List CipherSums) (h : AreReached P done before now) where
    -- the sum whose turn it is
    pub reached-read : (d : CipherSums) → done < length before → get_or now done d ≡ sum_at before done
    reached-read d l = get_or_default now done d no_sum (omega (arith, h.count)) ∙ h.rest done (omega arith) l

    pub more_reached : (d after : CipherSums) → done < length before → P done (get_or now done d) after → AreReached P (done + 1) before (set now done after)
    more_reached d after l g = record {
      count = length-set now done after ∙ h.count;
      first = λ a u v. ⊎_elim
          (λ f. subst (λ (j : ℕ). P j (sum_at before j) (sum_at (set now done after) j)) (sym f)
          (subst (λ (x : CipherSums). P done x (sum_at (set now done after) done)) (reached-read d l)
          (subst (λ (x : CipherSums). P done (get_or now done d) x) (sym (get_or-set_same now done after no_sum (omega (arith, h.count)))) g)))
          (λ ne. subst (λ (x : CipherSums). P a (sum_at before a) x) (sym (get_or-set_other now done a after no_sum ne)) (h.first a (omega arith) v))
          (cases_eq a done);
      rest = λ a u v. get_or-set_other now done a after no_sum (λ f. absurd (omega arith)) ∙ h.rest a (omega arith) v;
    }

-- no sum was turned back, and one more
pub none_turned : (n : ℕ) (sums : List CipherSums) (replies : List Ciphertext) → replies ≡ [] → AreTurnedBack n 0 sums replies
none_turned n sums replies e = record {
  len = ap length e;
  degrees = λ k d l. absurd (omega (arith, ap length e));
  each = λ a c l h. absurd (omega arith);
}

pub one_turned : (n i : ℕ) (sums : List CipherSums) (replies after : List Ciphertext) (r : Ciphertext) (s d : CipherSums) → AreTurnedBack n i sums replies → i < length sums → s ≡ get_or sums i d → ciphertext_degree r ≡ n
    → ((c : Ciphertext) → IsCipherSumOf c s → r ≡ c) → after ≡ replies ++ r ∷ [] → AreTurnedBack n (i + 1) sums after
one_turned n i sums replies after r s d h l is deg found e =
    let len : length after ≡ i + 1 = ap length e ∙ omega (arith, length-append replies (r ∷ []), h.len) in
    let at : (j : ℕ) (z : Ciphertext) (P : ℕ → Ciphertext → Type 0) → ((m : ℕ) → m < i → P m (get_or replies m z)) → P i r → j < i + 1 → P j (get_or after j z) = λ j z P first last u.
    subst (λ (zs : List Ciphertext). P j (get_or zs j z)) (sym e) (⊎_elim
    (λ v. subst (P j) (sym (get_or_append_left replies (r ∷ []) z j (omega (arith, h.len)))) (first j v))
    (λ v.
    let same : length replies ≡ j = omega (arith, h.len) in
    let here : i ≡ j = omega arith in
    subst (P j) (sym (ap (λ k. get_or (replies ++ r ∷ []) k z) (sym same) ∙ get_or-append_seam replies r [] z)) (subst (λ (k : ℕ). P k r) here last))
    (cases_lt j i)) in
    record {
      len = len;
      degrees = λ k z u. at k z (λ m c. ciphertext_degree c ≡ n) (λ m v. h.degrees m z (subst (λ (x : ℕ). m < x) (sym h.len) v)) deg (omega (arith, len));
      each = λ a c u g. at a no_ciphertext (λ m x. (c : Ciphertext) → IsCipherSumOf c (sum_at sums m) → x ≡ c) (λ m v c g. h.each m c v g)
          (λ c g. found c (subst (IsCipherSumOf c) (get_or_default sums i no_sum d l ∙ sym is) g)) u c g;
    }
