-- What encryption and decryption give.
use Rattle.std.proofs.Common.{◌≡◌, ℕ, ◌+◌, ◌*◌, ◌/◌, ◌<◌, ◌≤◌, sym, ap, subst, ◌∙◌, arith, ℤ, pos, ◌+ℤ◌, ◌-ℤ◌, ◌*ℤ◌, List, length, get_or, map}
use Rattle.std.specs.Int.RustNames.{unsigned_abs}
use Rattle.std.proofs.Math.Nat.{mod-lt}
use Rattle.std.proofs.lemmas.List.{get_or-map, length-map}
use Rattle.rand_core.specs.Stream.{Stream}
use Rattle.co_math.specs.Parameters.{q, plain_modulus, plain_half, error_bound, fresh_bound}
use Rattle.co_math.specs.Residues.{residue}
use Rattle.co_math.specs.Polynomials.{IsWrapped, plus, minus, product}
use Rattle.co_math.specs.Coefficients.{coefficients, AreBelow, AreResidues, IsDegree, residues_of, signed_coefficients}
use Rattle.co_math.specs.Meanings.{phase, Means}
use Rattle.co_math.proofs.Integers.{linear}
use Rattle.co_math.proofs.Residues.{cong-trans, cong_from, cong-refl}
use Rattle.co_math.proofs.Terms.{coefficient-low}
use Rattle.co_math.proofs.Places.{coefficients-IsWrapped}
use Rattle.co_math.proofs.Polynomials.{product-IsWrapped}
use Rattle.co_math.proofs.Agreements.{Agree, residues_agree, residues_for, plus_agree, minus_agree}
use Rattle.co_math.proofs.Noise.{rounding}
use Rattle.co_bfv.specs.Secrets.{IsSecret}
use Rattle.co_bfv.specs.Ciphertexts.{Ciphertext, IsCiphertext, ciphertext_degree, MeansWithin}
use Rattle.co_bfv.specs.Encryptions.{delta, encrypted, opened, decrypted}
use Rattle.co_math.proofs.Degrees.{degree_positive}
use Rattle.co_math.proofs.Residue_lists.{residues_of-are, residues_of-is, length-residues_of, residues_of-agree, signed-IsWrapped, signed-small}
use Rattle.co_math.proofs.Wrapped.{plus-IsWrapped, minus-IsWrapped}
use Rattle.co_bfv.specs.Draws.{binomial_draw, uniform_draw, error_draw, encryption_draw}
use Rattle.co_bfv.proofs.Drawn.{AreSmall, errors_small, length-drawn}
use Rattle.co_bfv.proofs.Fresh.{means_fresh}
use Rattle.co_bfv.proofs.Decoded.{decoded}

wrapped_to : (n : ℕ) (xs : List ℕ) → 0 < n → length xs ≡ n → IsWrapped n (coefficients xs)
wrapped_to n xs z e = subst (λ (k : ℕ). IsWrapped k (coefficients xs)) e (coefficients-IsWrapped xs (omega (arith, e)))

signed_to : (n : ℕ) (xs : List ℤ) → 0 < n → length xs ≡ n → IsWrapped n (signed_coefficients xs)
signed_to n xs z e = subst (λ (k : ℕ). IsWrapped k (signed_coefficients xs)) e (signed-IsWrapped xs (omega (arith, e)))

same : (f : ℤ → ℤ) → Agree q f f
same f k = cong-refl q (f k)

length-errors : (n : ℕ) (s : Stream) → length (error_draw n s).0 ≡ n
unfolding error_draw
length-errors n s = length-drawn binomial_draw n s

-- a message times Delta, and an error, as polynomials
abbrev scaled : List ℕ → ℤ → ℤ
scaled message = coefficients (map delta message)

abbrev error : ℕ → Stream → ℤ → ℤ
error n s = signed_coefficients (error_draw n s).0

error-wrapped : (n : ℕ) (s : Stream) → 0 < n → IsWrapped n (error n s)
error-wrapped n s z = signed_to n (error_draw n s).0 z (length-errors n s)

-- a scaled message with an error, from what the steps give
pub noisy_residues : (message : List ℕ) (k : ℕ) (s : Stream) (ds es xs : List ℕ) → IsDegree (length message) → k ≡ length message → ds ≡ map delta message
    → es ≡ residues_of q k (error k s) → AreResidues q (length ds) (plus (coefficients ds) (coefficients es)) xs
    → AreResidues q (length message) (plus (scaled message) (error (length message) s)) xs
noisy_residues message k s ds es xs h e d r x =
    residues_for q n (plus (scaled message) (coefficients es)) (plus (scaled message) (error n s)) xs (omega arith)
    (λ j u. plus_agree q (scaled message) (coefficients es) (scaled message) (error n s) (same (scaled message)) (residues_agree q n (error n s) es (omega arith) z (error-wrapped n s z) drawn) (pos j))
    (subst (λ (v : List ℕ). AreResidues q n (plus (coefficients v) (coefficients es)) xs) d
    (subst (λ (j : ℕ). AreResidues q j (plus (coefficients ds) (coefficients es)) xs) (ap length d ∙ length-map message delta) x))
  where
    n : ℕ
    n = length message

    z : 0 < n
    z = degree_positive n h

    drawn : AreResidues q n (error n s) es
    drawn = subst (AreResidues q n (error n s)) (sym (r ∙ ap (λ j. residues_of q j (error j s)) e)) (residues_of-are q n (error n s))

-- c0 of an encryption, from what the steps give
pub masked_is : (secret : List ℤ) (message us : List ℕ) (s : Stream) (xs hs ys : List ℕ) → IsDegree (length secret) → length message ≡ length secret
    → AreResidues q (length message) (plus (scaled message) (error (length message) s)) xs
    → hs ≡ residues_of q (length secret) (product (length secret) (coefficients us) (signed_coefficients secret))
    → AreResidues q (length xs) (minus (coefficients xs) (coefficients hs)) ys → ys ≡ (encrypted secret message us (error_draw (length secret) s).0).c0
unfolding encrypted
masked_is secret message us s xs hs ys h em x m y =
    residues_of-is q n (minus noisy p) ys
    (residues_for q n (minus (coefficients xs) (coefficients hs)) (minus noisy p) ys (omega arith)
    (λ k u. minus_agree q (coefficients xs) (coefficients hs) noisy p sums mask (pos k))
    (subst (λ (j : ℕ). AreResidues q j (minus (coefficients xs) (coefficients hs)) ys) added.len y))
  where
    n : ℕ
    n = length secret

    z : 0 < n
    z = degree_positive n h

    noisy : ℤ → ℤ
    noisy = plus (scaled message) (error n s)

    p : ℤ → ℤ
    p = product n (coefficients us) (signed_coefficients secret)

    added : AreResidues q n noisy xs
    added = subst (λ (j : ℕ). AreResidues q j (plus (scaled message) (error j s)) xs) em x

    sums : Agree q (coefficients xs) noisy
    sums =
        residues_agree q n noisy xs (omega arith) z
        (plus-IsWrapped n (scaled message) (error n s) (wrapped_to n (map delta message) z (length-map message delta ∙ em)) (error-wrapped n s z)) added

    mask : Agree q (coefficients hs) p
    mask = residues_agree q n p hs (omega arith) z (product-IsWrapped n (coefficients us) (signed_coefficients secret) (signed-IsWrapped secret z)) (subst (AreResidues q n p) (sym m) (residues_of-are q n p))

-- t * Delta(m) is q * m but for half of t
delta-near : (x : ℕ) → unsigned_abs (pos plain_modulus *ℤ pos (delta x) -ℤ pos q *ℤ pos x) ≤ plain_half
unfolding delta
delta-near x = rounding x

-- a fresh ciphertext means its message
pub encrypted_means : (secret : List ℤ) (message a : List ℕ) (e : List ℤ) → IsSecret secret → length message ≡ length secret → AreSmall (length secret) error_bound e
    → MeansWithin (signed_coefficients secret) (encrypted secret message a e) (coefficients message) fresh_bound
unfolding encrypted
encrypted_means secret message a e h lm small =
    subst (λ (k : ℕ). Means plain_modulus q k s (coefficients (residues_of q n f)) (coefficients a) m fresh_bound) (sym (length-residues_of q n f))
    (means_fresh plain_modulus q n s (coefficients (residues_of q n f)) (coefficients a) d (signed_coefficients e) m plain_half error_bound (omega arith) z wd (wrapped_to n message z lm)
    (residues_of-agree q n f (omega arith) z (minus-IsWrapped n (plus d (signed_coefficients e)) (product n (coefficients a) s) (plus-IsWrapped n d (signed_coefficients e) wd we) (product-IsWrapped n (coefficients a) s ws)))
    near (signed-small e error_bound (omega (arith, z, small.len)) (λ i l. small.each i (omega (arith, small.len)))))
  where
    n : ℕ
    n = length secret

    z : 0 < n
    z = degree_positive n h.degree

    s : ℤ → ℤ
    s = signed_coefficients secret

    m : ℤ → ℤ
    m = coefficients message

    d : ℤ → ℤ
    d = coefficients (map delta message)

    ws : IsWrapped n s
    ws = signed-IsWrapped secret z

    wd : IsWrapped n d
    wd = wrapped_to n (map delta message) z (length-map message delta ∙ lm)

    we : IsWrapped n (signed_coefficients e)
    we = signed_to n e z small.len

    f : ℤ → ℤ
    f = minus (plus d (signed_coefficients e)) (product n (coefficients a) s)

    near : (k : ℕ) → k < n → unsigned_abs (pos plain_modulus *ℤ d (pos k) -ℤ pos q *ℤ m (pos k)) ≤ plain_half
    near k l = subst (λ (y : ℤ). unsigned_abs y ≤ plain_half) (sym (λ i. pos plain_modulus *ℤ scaled i -ℤ pos q *ℤ plain i)) (delta-near (get_or message k 0))
      where
        scaled : d (pos k) ≡ pos (delta (get_or message k 0))
        scaled = coefficient-low (map delta message) k (omega (arith, length-map message delta, lm)) ∙ ap pos (get_or-map delta message k 0 0 (omega (arith, lm)))

        plain : m (pos k) ≡ pos (get_or message k 0)
        plain = coefficient-low message k (omega (arith, lm))

-- the phase, from what the steps give
pub phase_is : (secret : List ℤ) (c : Ciphertext) (hs xs : List ℕ) → IsCiphertext c → ciphertext_degree c ≡ length secret
    → hs ≡ residues_of q (length secret) (product (length secret) (coefficients c.c1) (signed_coefficients secret))
    → AreResidues q (length hs) (plus (coefficients hs) (coefficients c.c0)) xs
    → map opened xs ≡ decrypted secret c
unfolding decrypted phase plus
phase_is secret c hs xs h e f x =
    ap (map opened)
    (residues_of-is q n (λ k. coefficients c.c0 k +ℤ p k) xs
    (residues_for q n (λ k. coefficients hs k +ℤ coefficients c.c0 k) (λ k. coefficients c.c0 k +ℤ p k) xs (omega arith)
    (λ k u. cong-trans q (plus_agree q (coefficients hs) (coefficients c.c0) p (coefficients c.c0) agree (same (coefficients c.c0)) (pos k)) (cong_from q (turned (p (pos k)) (coefficients c.c0 (pos k)))))
    (subst (λ (k : ℕ). AreResidues q k (plus (coefficients hs) (coefficients c.c0)) xs) (known.len) x)))
  where
    n : ℕ
    n = ciphertext_degree c

    z : 0 < n
    z = degree_positive n h.c0.degree

    p : ℤ → ℤ
    p = product n (coefficients c.c1) (signed_coefficients secret)

    turned : (a b : ℤ) → a +ℤ b ≡ b +ℤ a
    turned a b = omega (arith, linear)

    known : AreResidues q n p hs
    known = subst (λ (k : ℕ). AreResidues q k (product k (coefficients c.c1) (signed_coefficients secret)) hs) (sym e)
        (subst (AreResidues q (length secret) (product (length secret) (coefficients c.c1) (signed_coefficients secret))) (sym f) (residues_of-are q (length secret) (product (length secret) (coefficients c.c1) (signed_coefficients secret))))

    agree : Agree q (coefficients hs) p
    agree = residues_agree q n p hs (omega arith) z (product-IsWrapped n (coefficients c.c1) (signed_coefficients secret) (signed_to n secret z (sym e))) known

-- a decryption of a ciphertext is what it means
pub decrypted_are : (secret : List ℤ) (c : Ciphertext) (m : ℤ → ℤ) (b : ℕ) → MeansWithin (signed_coefficients secret) c m b → 2 * b < q
    → AreResidues plain_modulus (ciphertext_degree c) m (decrypted secret c)
unfolding decrypted opened
decrypted_are secret c m b h l = record {
  len = length-map (residues_of q n f) opened ∙ length-residues_of q n f;
  each = λ k u. get_or-map opened (residues_of q n f) k 0 0 (omega (arith, u, length-residues_of q n f)) ∙ ap opened (at k u)
      ∙ decoded plain_modulus q n (signed_coefficients secret) (coefficients c.c0) (coefficients c.c1) m b (pos k) (omega arith) (omega arith) (omega arith) h l;
}
  where
    n : ℕ
    n = ciphertext_degree c

    f : ℤ → ℤ
    f = phase n (signed_coefficients secret) (coefficients c.c0) (coefficients c.c1)

    at : (k : ℕ) → k < n → get_or (residues_of q n f) k 0 ≡ residue q (f (pos k))
    at k u = let r = residues_of-are q n f in r.each k u

-- an encryption, from what its steps give
module _ (secret : List ℤ) (message : List ℕ) (k : ℕ) (s t : Stream) (us : List ℕ) (h : IsSecret secret) (ek : k ≡ length message) (em : length message ≡ length secret)
    (a : us ≡ (uniform_draw k s).0) (at : t ≡ (uniform_draw k s).1) where
  drawn_a : us ≡ (uniform_draw (length secret) s).0
  drawn_a = a ∙ ap (λ (j : ℕ). (uniform_draw j s).0) (ek ∙ em)

  after_a : t ≡ (uniform_draw (length secret) s).1
  after_a = at ∙ ap (λ (j : ℕ). (uniform_draw j s).1) (ek ∙ em)

  errors : List ℤ
  errors = (error_draw (length secret) (uniform_draw (length secret) s).1).0

  small : AreSmall (length secret) error_bound errors
  unfolding error_draw errors
  small = errors_small (length secret) (uniform_draw (length secret) s).1

  pub rest_after : (u : Stream) → u ≡ (error_draw (length secret) t).1 → u ≡ (encryption_draw secret message s).1
  unfolding encryption_draw
  rest_after u e = e ∙ ap (λ (v : Stream). (error_draw (length secret) v).1) after_a

  pub fresh_means : MeansWithin (signed_coefficients secret) (encryption_draw secret message s).0 (coefficients message) fresh_bound
  unfolding encryption_draw errors
  fresh_means = encrypted_means secret message (uniform_draw (length secret) s).0 errors h em small

  pub encryption_is : (ys : List ℕ) → ys ≡ (encrypted secret message us (error_draw (length secret) t).0).c0 → record { c0 = ys; c1 = us } ≡ (encryption_draw secret message s).0
  unfolding encryption_draw encrypted
  encryption_is ys e = (λ i. record { c0 = e i; c1 = us }) ∙ (λ i. encrypted secret message (drawn_a i) (error_draw (length secret) (after_a i)).0)

-- what scaling and opening give
pub delta-below : (x : ℕ) → x < plain_modulus → delta x < q
unfolding delta
delta-below x l = omega arith

pub scaled_below : (xs : List ℕ) → AreBelow plain_modulus xs → AreBelow q (map delta xs)
scaled_below xs b k l =
    let u : k < length xs = omega (arith, length-map xs delta) in
    subst (λ (v : ℕ). v < q) (sym (get_or-map delta xs k 0 0 u)) (delta-below (get_or xs k 0) (b k u))

pub opened_below : (xs : List ℕ) → AreBelow plain_modulus (map opened xs)
unfolding opened
opened_below xs k b =
    let u : k < length xs = omega (arith, length-map xs opened) in
    subst (λ (v : ℕ). v < plain_modulus) (sym (get_or-map opened xs k 0 0 u)) (mod-lt ((2 * plain_modulus * get_or xs k 0 + q) / (2 * q)) (omega arith))
