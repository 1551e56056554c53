-- Bodies that spell ciphertexts, part by part.
use Rattle.std.proofs.Common.{◌≡◌, ℕ, zero, suc, ◌+◌, ◌*◌, ◌<◌, refl, sym, ap, subst, ◌∙◌, arith, List, [], ◌∷◌, ◌++◌, length, get_or, take, drop, length-append}
use Rattle.std.specs.Prelude.{All}
use Rattle.std.specs.List.{flat_map}
use Rattle.std.proofs.lemmas.List.{append-nil, take_all, take_at, drop_at, drop-drop}
use Rattle.std.proofs.lemmas.List.Concat.{flat_map-cons}
use Rattle.std.proofs.lemmas.List.Elements.{All-head, All-tail, All-append}
use Rattle.std.proofs.lemmas.Grind.{flat_map-append}
use Rattle.std.proofs.Math.Seq.{take-add}
use Rattle.co_bfv.specs.Ciphertexts.{Ciphertext, IsCiphertext, ciphertext_degree}
use Rattle.co_bfv.specs.Totals.{ciphertext_at, no_ciphertext}
use Rattle.co_wire.specs.Bodies.{polynomial_bytes, cipher_bytes, ciphers_bytes, SpellsCiphers}
use Rattle.co_wire.proofs.Good_bodies.{length-polynomial}
use Rattle.co_client.specs.Openings.{AreSpelled}

-- ---- lengths

cipher-long : (n : ℕ) (c : Ciphertext) → IsCiphertext c → ciphertext_degree c ≡ n → length (cipher_bytes c) ≡ 28 * n
cipher-long n c w d = omega (arith, length-append (polynomial_bytes c.c0) (polynomial_bytes c.c1), length-polynomial c.c0, length-polynomial c.c1, w.one_degree, d)

ciphers-long : (n : ℕ) (cs : List Ciphertext) → All IsCiphertext cs → All (λ c. ciphertext_degree c ≡ n) cs → All (λ c. length (cipher_bytes c) ≡ 28 * n) cs
ciphers-long n cs a b i d l = cipher-long n (get_or cs i d) (a i d l) (b i d l)

pub parts-long : {X : Type 0} (f : X → List ℕ) (size : ℕ) (xs : List X) → All (λ x. length (f x) ≡ size) xs → length (flat_map f xs) ≡ length xs * size
parts-long f size [] h = omega arith
parts-long f size (x ∷ xs) h =
    omega (arith, ap length (flat_map-cons f x xs), length-append (f x) (flat_map f xs), All-head (λ y. length (f y) ≡ size) x xs h, parts-long f size xs (All-tail (λ y. length (f y) ≡ size) x xs h))

pub spelled-long : (n count : ℕ) (cs : List Ciphertext) (body : List ℕ) → SpellsCiphers n count cs body → length body ≡ count * (28 * n)
spelled-long n count cs body h =
    ap length h.spelled ∙ parts-long cipher_bytes (28 * n) cs (ciphers-long n cs h.ciphers.ciphers h.ciphers.degrees) ∙ ap (λ (k : ℕ). k * (28 * n)) h.ciphers.count_is

-- ---- parts of equal length

part-here : {X : Type 0} (f : X → List ℕ) (size : ℕ) (xs : List X) (d : X) → All (λ x. length (f x) ≡ size) xs → (i : ℕ) → i < length xs → take size (drop (i * size) (flat_map f xs)) ≡ f (get_or xs i d)
part-here f size [] d h i l = absurd (omega arith)
part-here f size (x ∷ xs) d h zero l =
    let none : zero * size ≡ 0 = omega arith in
    ap (λ (k : ℕ). take size (drop k (flat_map f (x ∷ xs)))) none ∙ ap (λ (ys : List ℕ). take size ys) (flat_map-cons f x xs) ∙ take_at (f x) (flat_map f xs) size (All-head (λ y. length (f y) ≡ size) x xs h)
part-here f size (x ∷ xs) d h (suc i) l =
    let next : suc i * size ≡ size + i * size = omega arith in
    ap (λ (k : ℕ). take size (drop k (flat_map f (x ∷ xs)))) next ∙ ap (λ (ys : List ℕ). take size (drop (size + i * size) ys)) (flat_map-cons f x xs)
    ∙ ap (λ (ys : List ℕ). take size ys) (sym (drop-drop (i * size) size (f x ++ flat_map f xs)))
    ∙ ap (λ (ys : List ℕ). take size (drop (i * size) ys)) (drop_at (f x) (flat_map f xs) size (All-head (λ y. length (f y) ≡ size) x xs h))
    ∙ part-here f size xs d (All-tail (λ y. length (f y) ≡ size) x xs h) i (omega arith)

pub spelled-one : (c : Ciphertext) → ciphers_bytes (c ∷ []) ≡ cipher_bytes c
spelled-one c = flat_map-cons cipher_bytes c [] ∙ append-nil (cipher_bytes c)

pub one-all : {X : Type 0} (P : X → Type 0) (x : X) → P x → All P (x ∷ [])
one-all P x p zero d l = p
one-all P x p (suc i) d l = absurd (omega arith)

-- the part at a place spells the ciphertext there
pub piece-spells : (n count : ℕ) (cs : List Ciphertext) (body : List ℕ) (at : ℕ) → SpellsCiphers n count cs body → at < count → SpellsCiphers n 1 (ciphertext_at cs at ∷ []) (take (28 * n) (drop (at * (28 * n)) body))
piece-spells n count cs body at h l =
    let here : at < length cs = omega (arith, h.ciphers.count_is) in
    let c = ciphertext_at cs at in
    record {
      ciphers = record {
        count_is = refl;
        ciphers = one-all IsCiphertext c (h.ciphers.ciphers at no_ciphertext here);
        degrees = one-all (λ x. ciphertext_degree x ≡ n) c (h.ciphers.degrees at no_ciphertext here);
      };
      spelled = ap (λ (ys : List ℕ). take (28 * n) (drop (at * (28 * n)) ys)) h.spelled
          ∙ part-here cipher_bytes (28 * n) cs no_ciphertext (ciphers-long n cs h.ciphers.ciphers h.ciphers.degrees) at here
          ∙ sym (spelled-one c);
    }

-- ---- more and more of a body

pub none-spelled : (n : ℕ) (body : List ℕ) → AreSpelled n 0 (take (0 * (28 * n)) body)
none-spelled n body =
    let none : 0 * (28 * n) ≡ 0 = omega arith in
    record {
      ciphers = [];
      spelled = record {
        ciphers = record { count_is = refl; ciphers = λ i d l. absurd (omega arith); degrees = λ i d l. absurd (omega arith) };
        spelled = ap (λ (k : ℕ). take k body) none;
      };
    }

pub one-spelled : (n at : ℕ) (body : List ℕ) (ds : List Ciphertext) → AreSpelled n at (take (at * (28 * n)) body) → SpellsCiphers n 1 ds (take (28 * n) (drop (at * (28 * n)) body)) → AreSpelled n (at + 1) (take ((at + 1) * (28 * n)) body)
one-spelled n at body ds h g =
    let size : (at + 1) * (28 * n) ≡ at * (28 * n) + 28 * n = omega arith in
    let cs = h.ciphers in
    record {
      ciphers = cs ++ ds;
      spelled = record {
        ciphers = record {
          count_is = omega (arith, length-append cs ds, h.spelled.ciphers.count_is, g.ciphers.count_is);
          ciphers = All-append IsCiphertext cs ds h.spelled.ciphers.ciphers g.ciphers.ciphers;
          degrees = All-append (λ c. ciphertext_degree c ≡ n) cs ds h.spelled.ciphers.degrees g.ciphers.degrees;
        };
        spelled = ap (λ (k : ℕ). take k body) size ∙ take-add (at * (28 * n)) (28 * n) body ∙ (λ t. h.spelled.spelled t ++ g.spelled t) ∙ sym (flat_map-append cipher_bytes cs ds);
      };
    }

pub all-spelled : (n count at : ℕ) (body : List ℕ) → AreSpelled n at (take (at * (28 * n)) body) → at ≡ count → length body ≡ count * (28 * n) → AreSpelled n count body
all-spelled n count at body h e long =
    let whole : take (at * (28 * n)) body ≡ body = take_all (at * (28 * n)) body (omega (arith, ap (λ (k : ℕ). k * (28 * n)) e, long)) in
    record { ciphers = h.ciphers; spelled = subst (λ (k : ℕ). SpellsCiphers n k h.ciphers body) e (subst (SpellsCiphers n at h.ciphers) whole h.spelled) }
