-- Drawn keys: their degree, and that they are good for the secret.
use Rattle.std.proofs.Common.{◌≡◌, ℕ, zero, suc, ◌+◌, ◌*◌, ◌%◌, ◌^◌, ◌<◌, ◌≤◌, refl, sym, ap, subst, ◌∙◌, ⊎_elim, arith, ℤ, pos, ◌+ℤ◌, ◌-ℤ◌, ◌*ℤ◌, List, [], ◌∷◌, ◌++◌, length, get_or, All, length-append, add-one}
use Rattle.std.proofs.lemmas.Bool.{cases_lt}
use Rattle.std.proofs.lemmas.List.{get_or_append_left}
use Rattle.std.proofs.Math.Seq.{get_or-append_seam}
use Rattle.std.proofs.lemmas.List.Elements.{All-nil, All-push, All-get_or}
use Rattle.std.proofs.Math.Nat.{pow-zero, pow-suc}
use Rattle.std.specs.Int.RustNames.{unsigned_abs}
use lib.IntN.{neg_ℤ}
use Rattle.rand_core.specs.Stream.{Stream}
use Rattle.co_math.specs.Parameters.{q, digit_base, digit_count, error_bound}
use Rattle.co_math.specs.Residues.{Congruent}
use Rattle.co_math.specs.Coefficients.{coefficients, AreBelow, AreResidues, IsDegree, residues_of, signed_coefficients}
use Rattle.co_math.specs.Polynomials.{IsWrapped, product, plus, minus, scaled, substituted, substitution}
use Rattle.co_math.specs.Meanings.{centred, phase}
use Rattle.co_math.proofs.Integers.{linear, expand, mul_assoc}
use Rattle.co_math.proofs.Residues.{cong-refl, cong_from, cong-trans, cong-sym, cong-add, cong-mul}
use Rattle.co_math.proofs.Meanings.{centred-least}
use Rattle.co_math.proofs.Polynomials.{product-IsWrapped}
use Rattle.co_math.proofs.Places.{coefficients-IsWrapped}
use Rattle.co_bfv.specs.Draws.{uniform_draw, error_draw}
use Rattle.co_rns.specs.Pairs.{IsWhole}
use Rattle.co_math.proofs.Degrees.{degree_positive}
use Rattle.co_math.proofs.Residue_lists.{residues_of-is, residues_of-agree, residues_of-below, length-residues_of, signed-IsWrapped, signed-small, residues_of-same, residues_of-at}
use Rattle.co_math.proofs.Wrapped.{plus-IsWrapped, minus-IsWrapped, scaled-IsWrapped}
use Rattle.co_switch.specs.Keys.{Key, IsKey, IsGoodKey, part, key_degree}
use Rattle.co_switch.specs.Switches.{automorphism}
use Rattle.co_switch.specs.Draws.{hidden, pairs_draw, key_draw}
use Rattle.co_math.proofs.Substituting.{Inverse, inverse_of, substitution-is, substitution-IsWrapped}
use Rattle.co_bfv.proofs.Drawn.{uniform-IsWhole}
use Rattle.co_switch.proofs.Drawing.{length-uniform, length-error, error-small}

length-hidden : (secret : List ℤ) (g j : ℕ) (a : List ℕ) (e : List ℤ) → length (hidden secret g j a e) ≡ length secret
unfolding hidden
length-hidden secret g j a e = length-residues_of q (length secret) (plus (minus (signed_coefficients e) (product (length secret) (coefficients a) (signed_coefficients secret))) (scaled (pos (digit_base ^ j)) (substitution (length secret) g (signed_coefficients secret))))

hidden-below : (secret : List ℤ) (g j : ℕ) (a : List ℕ) (e : List ℤ) → AreBelow q (hidden secret g j a e)
unfolding hidden
hidden-below secret g j a e = residues_of-below q (length secret) (plus (minus (signed_coefficients e) (product (length secret) (coefficients a) (signed_coefficients secret))) (scaled (pos (digit_base ^ j)) (substitution (length secret) g (signed_coefficients secret)))) (omega arith)

hidden-IsWhole : (secret : List ℤ) (g j : ℕ) (a : List ℕ) (e : List ℤ) → IsDegree (length secret) → IsWhole (hidden secret g j a e)
hidden-IsWhole secret g j a e d = record { degree = subst IsDegree (sym (length-hidden secret g j a e)) d; below = hidden-below secret g j a e }

-- ---- the polynomials that hide W^j * s(X^g)

module _ (secret : List ℤ) (g : ℕ) (d : IsDegree (length secret)) (odd : g % 2 ≡ 1) where
  z : 0 < length secret
  z = degree_positive (length secret) d

  ws : IsWrapped (length secret) (signed_coefficients secret)
  ws = signed-IsWrapped secret z

  inverse : Inverse (length secret) g
  inverse = inverse_of (length secret) g d odd

  turned : IsWrapped (length secret) (substitution (length secret) g (signed_coefficients secret))
  turned = substitution-IsWrapped (length secret) g z odd inverse (signed_coefficients secret) ws

  -- the substitution of the secret's residues
  pub automorphism_of_secret : automorphism g (residues_of q (length secret) (signed_coefficients secret)) ≡ residues_of q (length secret) (substitution (length secret) g (signed_coefficients secret))
  unfolding automorphism substituted
  automorphism_of_secret =
      let xs = residues_of q (length secret) (signed_coefficients secret) in
      let agree = residues_of-agree q (length secret) (signed_coefficients secret) (omega arith) z ws in
      (λ t. residues_of q (length-residues_of q (length secret) (signed_coefficients secret) t) (substitution (length-residues_of q (length secret) (signed_coefficients secret) t) g (coefficients xs)))
      ∙ residues_of-same q (length secret) (substitution (length secret) g (coefficients xs)) (substitution (length secret) g (signed_coefficients secret)) (omega arith)
      (λ k l. cong-trans q (cong_from q (substitution-is (length secret) g z odd inverse (coefficients xs) (listed_wrapped xs (length-residues_of q (length secret) (signed_coefficients secret))) (pos k)))
      (cong-trans q (agree (inverse.by *ℤ pos k)) (cong_from q (sym (substitution-is (length secret) g z odd inverse (signed_coefficients secret) ws (pos k))))))
    where
      listed_wrapped : (xs : List ℕ) → length xs ≡ length secret → IsWrapped (length secret) (coefficients xs)
      listed_wrapped xs e = subst (λ (m : ℕ). IsWrapped m (coefficients xs)) e (coefficients-IsWrapped xs (omega (arith, z)))

  hiding : ℕ → List ℕ → List ℤ → ℤ → ℤ
  hiding j a e = plus (minus (signed_coefficients e) (product (length secret) (coefficients a) (signed_coefficients secret))) (scaled (pos (digit_base ^ j)) (substitution (length secret) g (signed_coefficients secret)))

  hiding-IsWrapped : (j : ℕ) (a : List ℕ) (e : List ℤ) → length e ≡ length secret → IsWrapped (length secret) (hiding j a e)
  unfolding hiding
  hiding-IsWrapped j a e l =
      plus-IsWrapped (length secret) (minus (signed_coefficients e) (product (length secret) (coefficients a) (signed_coefficients secret))) (scaled (pos (digit_base ^ j)) (substitution (length secret) g (signed_coefficients secret)))
      (minus-IsWrapped (length secret) (signed_coefficients e) (product (length secret) (coefficients a) (signed_coefficients secret))
      (subst (λ (m : ℕ). IsWrapped m (signed_coefficients e)) l (signed-IsWrapped e (omega (arith, z)))) (product-IsWrapped (length secret) (coefficients a) (signed_coefficients secret) ws))
      (scaled-IsWrapped (length secret) (pos (digit_base ^ j)) (substitution (length secret) g (signed_coefficients secret)) turned)

  -- the phase of a drawn pair is W^j * s(X^g), up to the error
  hidden_good : (j : ℕ) (a : List ℕ) (e : List ℤ) → length e ≡ length secret → ((i : ℕ) → i < length secret → unsigned_abs (get_or e i (pos 0)) ≤ error_bound)
      → (k : ℤ) → unsigned_abs (centred q (phase (length secret) (signed_coefficients secret) (coefficients (hidden secret g j a e)) (coefficients a) k
      -ℤ pos (digit_base ^ j) *ℤ substitution (length secret) g (signed_coefficients secret) k)) ≤ error_bound
  unfolding hidden hiding phase plus minus scaled
  hidden_good j a e l small k =
      let p = product (length secret) (coefficients a) (signed_coefficients secret) k in
      let w = pos (digit_base ^ j) *ℤ substitution (length secret) g (signed_coefficients secret) k in
      let h = coefficients (hidden secret g j a e) k in
      let agree : Congruent q h (signed_coefficients e k -ℤ p +ℤ w) = residues_of-agree q (length secret) (hiding j a e) (omega arith) z (hiding-IsWrapped j a e l) k in
      omega (
        arith,
        centred-least q (h +ℤ p -ℤ w) (signed_coefficients e k) (omega arith)
            (cong-sym q (cong-trans q (cong-add q (cong-add q agree (cong-refl q p)) (cong-refl q (neg_ℤ w))) (cong_from q (cancelled (signed_coefficients e k) p w)))),
        signed-small e error_bound (omega (arith, z)) (λ i u. small i (omega arith)) k,
      )
    where
      cancelled : (x p w : ℤ) → x -ℤ p +ℤ w +ℤ p -ℤ w ≡ x
      cancelled x p w = omega (arith, linear)

-- ---- the pairs of a drawn key

-- the pair u, v hides W^j * s(X^g)
abbrev pub IsClose : List ℤ → ℕ → ℕ → List ℕ → List ℕ → Type 0
IsClose secret g j u v = (k : ℤ) → unsigned_abs (centred q (phase (length secret) (signed_coefficients secret) (coefficients u) (coefficients v) k
    -ℤ pos (digit_base ^ j) *ℤ substitution (length secret) g (signed_coefficients secret) k)) ≤ error_bound

-- the first pairs of a key
pub record ArePairs (secret : List ℤ) (g i : ℕ) (key : Key) : Type 0 where
  pub element : key.element ≡ g
  pub k0_count : length key.k0 ≡ i
  pub k1_count : length key.k1 ≡ i
  pub k0_degree : All (λ p. length p ≡ length secret) key.k0
  pub k1_degree : All (λ p. length p ≡ length secret) key.k1
  pub k0_whole : All IsWhole key.k0
  pub k1_whole : All IsWhole key.k1
  pub close : (j : ℕ) → j < i → IsClose secret g j (part key.k0 j) (part key.k1 j)

no_pairs : (secret : List ℤ) (g : ℕ) → ArePairs secret g 0 (record { element = g; k0 = []; k1 = [] })
no_pairs secret g = record { element = refl; k0_count = refl; k1_count = refl; k0_degree = All-nil (λ p. length p ≡ length secret); k1_degree = All-nil (λ p. length p ≡ length secret); k0_whole = All-nil IsWhole; k1_whole = All-nil IsWhole; close = λ j l. absurd (omega arith) }

more_pairs : (secret : List ℤ) (g i : ℕ) (key : Key) (x a : List ℕ) → ArePairs secret g i key → length x ≡ length secret → length a ≡ length secret → IsWhole x → IsWhole a → IsClose secret g i x a
    → ArePairs secret g (suc i) (record { element = g; k0 = key.k0 ++ x ∷ []; k1 = key.k1 ++ a ∷ [] })
more_pairs secret g i key x a h lx la wx wa close = record {
  element = refl;
  k0_count = omega (arith, length-append key.k0 (x ∷ []), h.k0_count);
  k1_count = omega (arith, length-append key.k1 (a ∷ []), h.k1_count);
  k0_degree = All-push (λ p. length p ≡ length secret) key.k0 x h.k0_degree lx;
  k1_degree = All-push (λ p. length p ≡ length secret) key.k1 a h.k1_degree la;
  k0_whole = All-push IsWhole key.k0 x h.k0_whole wx;
  k1_whole = All-push IsWhole key.k1 a h.k1_whole wa;
  close = λ j l. ⊎_elim
      (λ u. moved j (get_or_append_left key.k0 (x ∷ []) [] j (omega (arith, h.k0_count))) (get_or_append_left key.k1 (a ∷ []) [] j (omega (arith, h.k1_count))) (h.close j u))
      (λ u. let e : i ≡ j = omega arith in subst (λ (m : ℕ). IsClose secret g m (part (key.k0 ++ x ∷ []) m) (part (key.k1 ++ a ∷ []) m)) e
      (moved i (ap (part (key.k0 ++ x ∷ [])) (sym h.k0_count) ∙ get_or-append_seam key.k0 x [] []) (ap (part (key.k1 ++ a ∷ [])) (sym h.k1_count) ∙ get_or-append_seam key.k1 a [] []) close))
      (cases_lt j i);
}
  where
    moved : (j : ℕ) {u v x y : List ℕ} → u ≡ x → v ≡ y → IsClose secret g j x y → IsClose secret g j u v
    moved j {u} {v} {x} {y} e f c = subst (λ (t : List ℕ). IsClose secret g j t v) (sym e) (subst (λ (t : List ℕ). IsClose secret g j x t) (sym f) c)

pub pairs_are : (secret : List ℤ) (g : ℕ) → IsDegree (length secret) → g % 2 ≡ 1 → (i : ℕ) (s : Stream) → ArePairs secret g i (pairs_draw secret g i s).0
unfolding pairs_draw
pairs_are secret g d odd zero s = no_pairs secret g
pairs_are secret g d odd (suc i) s =
    let before = pairs_draw secret g i s in
    let a = uniform_draw (length secret) before.1 in
    let e = error_draw (length secret) a.1 in
    more_pairs secret g i before.0 (hidden secret g i a.0 e.0) a.0 (pairs_are secret g d odd i s) (length-hidden secret g i a.0 e.0) (length-uniform (length secret) before.1)
    (hidden-IsWhole secret g i a.0 e.0 d) (uniform-IsWhole (length secret) before.1 d)
    (hidden_good secret g d odd i a.0 e.0 (length-error (length secret) a.1) (error-small (length secret) a.1))

first-degree : (secret : List ℤ) (g : ℕ) (key : Key) → ArePairs secret g digit_count key → key_degree key ≡ length secret
first-degree secret g key h = All-get_or (λ p. length p ≡ length secret) key.k0 0 [] (omega (arith, h.k0_count)) h.k0_degree

pub drawn_key : (secret : List ℤ) (g : ℕ) (s : Stream) → IsDegree (length secret) → g % 2 ≡ 1 → ArePairs secret g digit_count (key_draw secret g s).0
unfolding key_draw
drawn_key secret g s d odd = pairs_are secret g d odd digit_count s

pub degree-key_draw : (secret : List ℤ) (g : ℕ) (s : Stream) → IsDegree (length secret) → g % 2 ≡ 1 → key_degree (key_draw secret g s).0 ≡ length secret
degree-key_draw secret g s d odd = first-degree secret g (key_draw secret g s).0 (drawn_key secret g s d odd)

pub element-key_draw : (secret : List ℤ) (g : ℕ) (s : Stream) → IsDegree (length secret) → g % 2 ≡ 1 → (key_draw secret g s).0.element ≡ g
element-key_draw secret g s d odd = let h = drawn_key secret g s d odd in h.element

pub key_draw-IsKey : (secret : List ℤ) (g : ℕ) (s : Stream) → IsDegree (length secret) → g % 2 ≡ 1 → g < 2 * length secret → IsKey (key_draw secret g s).0
key_draw-IsKey secret g s d odd within =
    let h = drawn_key secret g s d odd in
    let e = degree-key_draw secret g s d odd in
    let key = (key_draw secret g s).0 in
    record {
      degree = subst IsDegree (sym e) d;
      k0_count = h.k0_count;
      k1_count = h.k1_count;
      k0_degree = subst (λ (m : ℕ). All (λ p. length p ≡ m) key.k0) (sym e) h.k0_degree;
      k1_degree = subst (λ (m : ℕ). All (λ p. length p ≡ m) key.k1) (sym e) h.k1_degree;
      k0_whole = h.k0_whole;
      k1_whole = h.k1_whole;
      odd = ap (λ m. m % 2) h.element ∙ odd;
      within = subst (λ (m : ℕ). m < 2 * key_degree key) (sym h.element) (subst (λ (m : ℕ). g < 2 * m) (sym e) within);
    }

pub key_draw-good : (secret : List ℤ) (g : ℕ) (s : Stream) → IsDegree (length secret) → g % 2 ≡ 1 → IsGoodKey (signed_coefficients secret) (key_draw secret g s).0
key_draw-good secret g s d odd =
    let h = drawn_key secret g s d odd in
    let key = (key_draw secret g s).0 in
    record {
      within = λ j l k.
          subst (λ (m : ℕ). unsigned_abs (centred q (phase m (signed_coefficients secret) (coefficients (part key.k0 j)) (coefficients (part key.k1 j)) k
          -ℤ pos (digit_base ^ j) *ℤ substitution m key.element (signed_coefficients secret) k)) ≤ error_bound) (sym (degree-key_draw secret g s d odd))
          (subst (λ (m : ℕ). unsigned_abs (centred q (phase (length secret) (signed_coefficients secret) (coefficients (part key.k0 j)) (coefficients (part key.k1 j)) k
          -ℤ pos (digit_base ^ j) *ℤ substitution (length secret) m (signed_coefficients secret) k)) ≤ error_bound) (sym h.element) (h.close j l k));
    }

-- ---- the steps of the making

-- what stands once the first pairs are made
pub record IsMade (secret : List ℤ) (g i : ℕ) (start now : Stream) (k0 k1 : List (List ℕ)) (hid : List ℕ) : Type 0 where
  pub drawn : (record { element = g; k0 = k0; k1 = k1 }, now) ≡ pairs_draw secret g i start
  pub hides : hid ≡ residues_of q (length secret) (scaled (pos (digit_base ^ i)) (substitution (length secret) g (signed_coefficients secret)))

pub nothing_made : (secret : List ℤ) (g : ℕ) (start : Stream) (k0 k1 : List (List ℕ)) (hid : List ℕ) → k0 ≡ [] → k1 ≡ [] → IsDegree (length secret) → g % 2 ≡ 1
    → hid ≡ automorphism g (residues_of q (length secret) (signed_coefficients secret)) → IsMade secret g 0 start start k0 k1 hid
unfolding pairs_draw scaled
nothing_made secret g start k0 k1 hid e₀ e₁ d odd e = record {
  drawn = λ t. (record { element = g; k0 = e₀ t; k1 = e₁ t }, start);
  hides = e ∙ automorphism_of_secret secret g d odd ∙ ap (residues_of q (length secret)) (λ t k. once (substitution (length secret) g (signed_coefficients secret) k) t);
}
  where
    once : (x : ℤ) → x ≡ pos (digit_base ^ 0) *ℤ x
    once x = sym (ap (λ (m : ℕ). pos m *ℤ x) (pow-zero digit_base) ∙ simp expand)

-- the hidden polynomial, times W
pub hidden_more : (n i : ℕ) (f : ℤ → ℤ) (xs ys : List ℕ) → xs ≡ residues_of q n (scaled (pos (digit_base ^ i)) f) → AreResidues q (length xs) (scaled (pos digit_base) (coefficients xs)) ys
    → ys ≡ residues_of q n (scaled (pos (digit_base ^ (i + 1))) f)
unfolding scaled
hidden_more n i f xs ys e h =
    residues_of-is q (length xs) (scaled (pos digit_base) (coefficients xs)) ys h
    ∙ ap (λ m. residues_of q m (scaled (pos digit_base) (coefficients xs))) (ap length e ∙ length-residues_of q n (scaled (pos (digit_base ^ i)) f))
    ∙ residues_of-same q n (scaled (pos digit_base) (coefficients xs)) (scaled (pos (digit_base ^ (i + 1))) f) (omega arith)
    (λ k l. cong-trans q (cong-mul q (cong-refl q (pos digit_base)) (residues_of-at q n (scaled (pos (digit_base ^ i)) f) xs k (omega arith) e l)) (cong_from q (further (f (pos k)))))
  where
    further : (x : ℤ) → pos digit_base *ℤ (pos (digit_base ^ i) *ℤ x) ≡ pos (digit_base ^ (i + 1)) *ℤ x
    further x =
        let next : digit_base * digit_base ^ i ≡ digit_base ^ (i + 1) = omega (arith, ap (λ m. digit_base ^ m) (add-one i) ∙ pow-suc digit_base i) in
        sym (mul_assoc (pos digit_base) (pos (digit_base ^ i)) x) ∙ ap (λ (m : ℕ). pos m *ℤ x) next

pub one_made : (secret : List ℤ) (g i : ℕ) (start now later : Stream) (k0 k1 l0 l1 : List (List ℕ)) (hid first second more : List ℕ)
    → IsMade secret g i start now k0 k1 hid → second ≡ (uniform_draw (length secret) now).0
    → first ≡ residues_of q (length secret) (plus (minus (signed_coefficients (error_draw (length secret) (uniform_draw (length secret) now).1).0) (product (length secret) (coefficients second) (signed_coefficients secret))) (coefficients hid))
    → later ≡ (error_draw (length secret) (uniform_draw (length secret) now).1).1
    → l0 ≡ k0 ++ first ∷ [] → l1 ≡ k1 ++ second ∷ [] → AreResidues q (length hid) (scaled (pos digit_base) (coefficients hid)) more
    → IsMade secret g (i + 1) start later l0 l1 more
unfolding pairs_draw hidden plus minus scaled
one_made secret g i start now later k0 k1 l0 l1 hid first second more made e₁ e₀ es f₀ f₁ h = record {
  drawn =
      (λ t. (record { element = g; k0 = (f₀ ∙ ap (λ x. k0 ++ x ∷ []) first_is) t; k1 = (f₁ ∙ ap (λ x. k1 ++ x ∷ []) e₁) t }, es t))
      ∙ ap step made.drawn
      ∙ ap (λ m. pairs_draw secret g m start) (sym (add-one i));
  hides = hidden_more (length secret) i (substitution (length secret) g (signed_coefficients secret)) hid more made.hides h;
}
  where
    n : ℕ
    n = length secret

    a : List ℕ
    a = (uniform_draw n now).0

    e : List ℤ
    e = (error_draw n (uniform_draw n now).1).0

    step : Key × Stream → Key × Stream
    step p =
        let u = uniform_draw n p.1 in
        let v = error_draw n u.1 in
        (record { element = g; k0 = p.0.k0 ++ hidden secret g i u.0 v.0 ∷ []; k1 = p.0.k1 ++ u.0 ∷ [] }, v.1)

    masked : ℤ → ℤ
    masked = minus (signed_coefficients e) (product n (coefficients a) (signed_coefficients secret))

    first_is : first ≡ hidden secret g i a e
    first_is =
        e₀
        ∙ (λ t. residues_of q n (plus (minus (signed_coefficients e) (product n (coefficients (e₁ t)) (signed_coefficients secret))) (coefficients hid)))
        ∙ residues_of-same q n (plus masked (coefficients hid)) (plus masked (scaled (pos (digit_base ^ i)) (substitution n g (signed_coefficients secret)))) (omega arith)
        (λ k l. cong-add q (cong-refl q (masked (pos k))) (residues_of-at q n (scaled (pos (digit_base ^ i)) (substitution n g (signed_coefficients secret))) hid k (omega arith) made.hides l))

-- with all pairs it is the drawn key
pub all_made : (secret : List ℤ) (g i : ℕ) (start now : Stream) (k0 k1 : List (List ℕ)) (hid : List ℕ) → IsMade secret g i start now k0 k1 hid → i ≡ digit_count
    → (record { element = g; k0 = k0; k1 = k1 }, now) ≡ key_draw secret g start
unfolding key_draw
all_made secret g i start now k0 k1 hid h e = h.drawn ∙ ap (λ m. pairs_draw secret g m start) e
