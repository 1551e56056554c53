-- The switch of a ciphertext: its degree, and what it means.
use Rattle.std.proofs.Common.{◌≡◌, ℕ, ◌+◌, ◌*◌, ◌-◌, ◌^◌, ◌<◌, ◌≤◌, refl, sym, ap, subst, ◌∙◌, arith, ℤ, pos, ◌+ℤ◌, ◌-ℤ◌, ◌*ℤ◌, List, [], length, All}
use Rattle.std.proofs.lemmas.List.Elements.{All-get_or}
use Rattle.std.specs.Int.RustNames.{unsigned_abs}
use lib.IntN.{neg_ℤ}
use Rattle.co_math.specs.Parameters.{q, plain_modulus, digit_base, digit_count, error_bound}
use Rattle.co_math.specs.Bounds.{switch_bound}
use Rattle.co_math.specs.Sums.{total}
use Rattle.co_math.specs.Coefficients.{coefficients, IsDegree, residues_of}
use Rattle.co_math.specs.Polynomials.{IsWrapped, product, plus, substitution}
use Rattle.co_math.specs.Meanings.{centred, phase, Means}
use Rattle.co_math.proofs.Totals.{total-same, total-neg}
use Rattle.co_math.proofs.Places.{coefficients-IsWrapped}
use Rattle.co_math.proofs.Polynomials.{product-IsWrapped}
use Rattle.co_bfv.specs.Ciphertexts.{Ciphertext, IsCiphertext, MeansWithin, ciphertext_degree}
use Rattle.co_bfv.proofs.Combined.{whole_pair}
use Rattle.co_math.proofs.Degrees.{degree_positive}
use Rattle.co_math.proofs.Residue_lists.{length-residues_of, residues_of-agree, residues_of-below}
use Rattle.co_math.proofs.Wrapped.{plus-IsWrapped}
use Rattle.co_switch.specs.Keys.{Key, IsKey, IsGoodKey, part, key_degree}
use Rattle.co_switch.specs.Switches.{digit_polynomial, digit_sum, automorphism, switched}
use Rattle.co_math.proofs.Substituting.{inverse_of, substitution-IsWrapped}
use Rattle.co_switch.proofs.Meaning.{means_alike, means_carried}

-- each polynomial of a key has its degree
pub part-degree : (n : ℕ) (ps : List (List ℕ)) (j : ℕ) → length ps ≡ digit_count → All (λ p. length p ≡ n) ps → j < digit_count → length (part ps j) ≡ n
part-degree n ps j e h l = All-get_or (λ p. length p ≡ n) ps j [] (omega arith) h

part-IsWrapped : (n : ℕ) (ps : List (List ℕ)) → 0 < n → length ps ≡ digit_count → All (λ p. length p ≡ n) ps → (j : ℕ) → j < digit_count → IsWrapped n (coefficients (part ps j))
part-IsWrapped n ps z e h j l =
    let d = part-degree n ps j e h l in
    subst (λ (k : ℕ). IsWrapped k (coefficients (part ps j))) d (coefficients-IsWrapped (part ps j) (omega (arith, d)))

pub degree-switched : (key : Key) (c : Ciphertext) → ciphertext_degree (switched key c) ≡ ciphertext_degree c
unfolding switched
degree-switched key c = length-residues_of q (length c.c0) (plus (substitution (length c.c0) key.element (coefficients c.c0)) (digit_sum (automorphism key.element c.c1) key.k0))

-- a switch gives a ciphertext
pub switched-IsCiphertext : (key : Key) (c : Ciphertext) → IsDegree (ciphertext_degree c) → IsCiphertext (switched key c)
unfolding switched
switched-IsCiphertext key c d = whole_pair (ciphertext_degree c) _ _ d

-- the sum over digits, over a degree n
digit_total : ℕ → List ℕ → List (List ℕ) → ℤ → ℤ
digit_total n xs ks k = total digit_count (λ j. product n (coefficients (digit_polynomial j xs)) (coefficients (part ks j)) k)

carried_by : ℕ → ℕ → List ℕ → List ℕ
carried_by n g xs = residues_of q n (substitution n g (coefficients xs))

-- the switch where both parts have the degree n
switched_by : ℕ → Key → Ciphertext → Ciphertext
switched_by n key c = record {
  c0 = residues_of q n (plus (substitution n key.element (coefficients c.c0)) (digit_total n (carried_by n key.element c.c1) key.k0));
  c1 = residues_of q n (digit_total n (carried_by n key.element c.c1) key.k1);
}

switched-by : (n : ℕ) (key : Key) (c : Ciphertext) → length c.c0 ≡ n → length c.c1 ≡ n → switched key c ≡ switched_by n key c
unfolding switched switched_by digit_sum digit_total automorphism carried_by
switched-by n key c e₀ e₁ = λ t. record {
  c0 = residues_of q (e₀ t) (plus (substitution (e₀ t) key.element (coefficients c.c0)) (sums key.k0 t));
  c1 = residues_of q (e₀ t) (sums key.k1 t);
}
  where
    g : ℕ
    g = key.element

    ys : List ℕ
    ys = carried_by n g c.c1

    sums : (ks : List (List ℕ)) → digit_sum (automorphism g c.c1) ks ≡ digit_total n ys ks
    sums ks =
        ap (λ xs. digit_sum xs ks) (λ t. carried_by (e₁ t) g c.c1)
        ∙ ap (λ l. digit_total l ys ks) (length-residues_of q n (substitution n g (coefficients c.c1)))

digit_total-IsWrapped : (n : ℕ) (xs : List ℕ) (ks : List (List ℕ)) → ((j : ℕ) → j < digit_count → IsWrapped n (coefficients (part ks j))) → IsWrapped n (digit_total n xs ks)
unfolding digit_total
digit_total-IsWrapped n xs ks w k =
    total-same digit_count (λ j. term j (k +ℤ pos n)) (λ j. neg_ℤ (term j k)) (λ j l. product-IsWrapped n (coefficients (digit_polynomial j xs)) (coefficients (part ks j)) (w j l) k)
    ∙ total-neg digit_count (λ j. term j k)
  where
    term : ℕ → ℤ → ℤ
    term j = product n (coefficients (digit_polynomial j xs)) (coefficients (part ks j))

added : (b n : ℕ) → b + plain_modulus * (digit_count * (n * ((digit_base - 1) * error_bound))) ≡ b + switch_bound n
unfolding switch_bound
added b n = omega arith

means_by_degree : (n : ℕ) (key : Key) (c : Ciphertext) → n ≡ key_degree key → IsKey key → length c.c0 ≡ n → length c.c1 ≡ n
    → (s m : ℤ → ℤ) (b : ℕ) → IsWrapped n s → IsWrapped n m → IsGoodKey s key → Means plain_modulus q n s (coefficients c.c0) (coefficients c.c1) m b
    → MeansWithin s (switched_by n key c) (substitution n key.element m) (b + switch_bound n)
unfolding switched_by digit_total carried_by
means_by_degree n key c en k e₀ e₁ s m b ws wm good means =
    let g = key.element in
    let d : IsDegree n = subst IsDegree (sym en) k.degree in
    let z = degree_positive n d in
    let i = inverse_of n g d k.odd in
    let w₀ : IsWrapped n (coefficients c.c0) = subst (λ (l : ℕ). IsWrapped l (coefficients c.c0)) e₀ (coefficients-IsWrapped c.c0 (omega arith)) in
    let w₁ : IsWrapped n (coefficients c.c1) = subst (λ (l : ℕ). IsWrapped l (coefficients c.c1)) e₁ (coefficients-IsWrapped c.c1 (omega arith)) in
    let wp₀ = part-IsWrapped n key.k0 z k.k0_count (subst (λ (l : ℕ). All (λ p. length p ≡ l) key.k0) (sym en) k.k0_degree) in
    let wp₁ = part-IsWrapped n key.k1 z k.k1_count (subst (λ (l : ℕ). All (λ p. length p ≡ l) key.k1) (sym en) k.k1_degree) in
    let ys = carried_by n g c.c1 in
    let f₀ = plus (substitution n g (coefficients c.c0)) (digit_total n ys key.k0) in
    let f₁ = digit_total n ys key.k1 in
    let core = means_carried n g z k.odd i s (coefficients c.c0) (coefficients c.c1) m ws w₀ w₁ wm ys
    (length-residues_of q n (substitution n g (coefficients c.c1))) (residues_of-below q n (substitution n g (coefficients c.c1)) (omega arith))
    (residues_of-agree q n (substitution n g (coefficients c.c1)) (omega arith) z (substitution-IsWrapped n g z k.odd i (coefficients c.c1) w₁))
    (λ j. coefficients (part key.k0 j)) (λ j. coefficients (part key.k1 j)) wp₁
    (subst (λ (l : ℕ). (j : ℕ) → j < digit_count → (k : ℤ) → unsigned_abs (centred q (phase l s (coefficients (part key.k0 j)) (coefficients (part key.k1 j)) k -ℤ pos (digit_base ^ j) *ℤ substitution l g s k)) ≤ error_bound) (sym en) good.within)
    b means in
    subst (λ (l : ℕ). Means plain_modulus q l s (coefficients (residues_of q n f₀)) (coefficients (residues_of q n f₁)) (substitution n g m) (b + switch_bound n)) (sym (length-residues_of q n f₀))
    (subst (λ (x : ℕ). Means plain_modulus q n s (coefficients (residues_of q n f₀)) (coefficients (residues_of q n f₁)) (substitution n g m) x) (added b n)
    (means_alike plain_modulus q n s f₀ f₁ (coefficients (residues_of q n f₀)) (coefficients (residues_of q n f₁)) (substitution n g m) (b + plain_modulus * (digit_count * (n * ((digit_base - 1) * error_bound)))) (omega arith)
    (residues_of-agree q n f₀ (omega arith) z (plus-IsWrapped n (substitution n g (coefficients c.c0)) (digit_total n ys key.k0) (substitution-IsWrapped n g z k.odd i (coefficients c.c0) w₀) (digit_total-IsWrapped n ys key.k0 wp₀)))
    (residues_of-agree q n f₁ (omega arith) z (digit_total-IsWrapped n ys key.k1 wp₁))
    core))

-- under every secret for which the key is good, the switch means m(X^g), with KS more of noise
pub switched_means : (key : Key) (c : Ciphertext) → IsKey key → IsCiphertext c → ciphertext_degree c ≡ key_degree key
    → (s m : ℤ → ℤ) (b : ℕ) → IsWrapped (key_degree key) s → IsWrapped (key_degree key) m → IsGoodKey s key → MeansWithin s c m b
    → MeansWithin s (switched key c) (substitution (key_degree key) key.element m) (b + switch_bound (key_degree key))
switched_means key c k h e s m b ws wm good means =
    let n = key_degree key in
    let e₁ : length c.c1 ≡ n = h.one_degree ∙ e in
    subst (λ (v : Ciphertext). MeansWithin s v (substitution n key.element m) (b + switch_bound n)) (sym (switched-by n key c e e₁))
    (means_by_degree n key c refl k e e₁ s m b ws wm good (subst (λ (l : ℕ). Means plain_modulus q l s (coefficients c.c0) (coefficients c.c1) m b) e means))
