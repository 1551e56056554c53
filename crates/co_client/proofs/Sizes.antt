-- How long the bodies are that a search draws.
use Rattle.std.proofs.Common.{◌≡◌, ℕ, zero, suc, ◌+◌, ◌*◌, ◌/◌, refl, sym, ap, ◌∙◌, arith, ℤ, List, [], ◌∷◌, ◌++◌, length, length-append}
use Rattle.std.specs.Prelude.{All}
use Rattle.std.specs.List.{flat_map}
use Rattle.std.proofs.lemmas.List.Concat.{flat_map-cons}
use Rattle.std.proofs.lemmas.List.Elements.{All-head, All-tail, All-push}
use Rattle.rand_core.specs.Stream.{Stream}
use Rattle.co_math.specs.Parameters.{q}
use Rattle.co_math.specs.Logarithms.{log2_up}
use Rattle.co_math.proofs.Residue_lists.{length-residues_of}
use Rattle.co_noise.specs.Shapes.{Numbers, levels}
use Rattle.co_bfv.specs.Draws.{ternary_draw, secret_draw, uniform_draw, error_draw, encryption_draw}
use Rattle.co_bfv.specs.Encryptions.{encrypted}
use Rattle.co_bfv.proofs.Drawn.{length-drawn}
use Rattle.co_switch.specs.Keys.{Key, rotation_element, expansion_element}
use Rattle.co_switch.specs.Draws.{hidden, pairs_draw, key_draw, keys_draw, key_set_draw}
use Rattle.co_switch.proofs.Drawing.{length-uniform}
use Rattle.co_wire.specs.Bodies.{polynomial_bytes, cipher_bytes, ciphers_bytes, pairs_bytes, key_bytes, keys_bytes}
use Rattle.co_rounds.specs.Asked.{encryptions_draw}
use Rattle.co_client.specs.Rounds.{keys_asked}
use Rattle.co_wire.proofs.Good_bodies.{length-polynomial}
use Rattle.co_client.proofs.Spelled.{parts-long}

-- ---- queries

encryption-size : (secret : List ℤ) (m : List ℕ) (s : Stream) → length (cipher_bytes (encryption_draw secret m s).0) ≡ 28 * length secret
unfolding encryption_draw encrypted
encryption-size secret m s =
    let n = length secret in
    let c = (encryption_draw secret m s).0 in
    let first : length c.c0 ≡ n = length-residues_of q n _ in
    let second : length c.c1 ≡ n = length-uniform n s in
    omega (arith, length-append (polynomial_bytes c.c0) (polynomial_bytes c.c1), length-polynomial c.c0, length-polynomial c.c1, first, second)

pub queries-size : (secret : List ℤ) (ms : List (List ℕ)) (s : Stream) → length (ciphers_bytes (encryptions_draw secret ms s).0) ≡ length ms * (28 * length secret)
unfolding encryptions_draw
queries-size secret [] s = omega arith
queries-size secret (m ∷ ms) s =
    let one = encryption_draw secret m s in
    let others = encryptions_draw secret ms one.1 in
    omega (arith, ap length (flat_map-cons cipher_bytes one.0 others.0), length-append (cipher_bytes one.0) (ciphers_bytes others.0), encryption-size secret m s, queries-size secret ms one.1)

-- ---- keys

record ArePairsOf (n j : ℕ) (key : Key) : Type 0 where
  pub k0_count : length key.k0 ≡ j
  pub k1_count : length key.k1 ≡ j
  pub k0_long : All (λ p. length p ≡ n) key.k0
  pub k1_long : All (λ p. length p ≡ n) key.k1

pairs-drawn : (secret : List ℤ) (g j : ℕ) (s : Stream) → ArePairsOf (length secret) j (pairs_draw secret g j s).0
unfolding pairs_draw hidden
pairs-drawn secret g zero s = record { k0_count = refl; k1_count = refl; k0_long = λ i d l. absurd (omega arith); k1_long = λ i d l. absurd (omega arith) }
pairs-drawn secret g (suc j) s =
    let n = length secret in
    let before = pairs_draw secret g j s in
    let a = uniform_draw n before.1 in
    let e = error_draw n a.1 in
    let h = pairs-drawn secret g j s in
    let long : length (hidden secret g j a.0 e.0) ≡ n = length-residues_of q n _ in
    record {
      k0_count = omega (arith, length-append before.0.k0 (hidden secret g j a.0 e.0 ∷ []), h.k0_count);
      k1_count = omega (arith, length-append before.0.k1 (a.0 ∷ []), h.k1_count);
      k0_long = All-push (λ p. length p ≡ n) before.0.k0 (hidden secret g j a.0 e.0) h.k0_long long;
      k1_long = All-push (λ p. length p ≡ n) before.0.k1 a.0 h.k1_long (length-uniform n before.1);
    }

pairs-size : (n : ℕ) (xs ys : List (List ℕ)) → length ys ≡ length xs → All (λ p. length p ≡ n) xs → All (λ p. length p ≡ n) ys → length (pairs_bytes xs ys) ≡ length xs * (28 * n)
unfolding pairs_bytes
pairs-size n [] ys e a b = omega arith
pairs-size n (x ∷ xs) [] e a b = absurd (omega arith)
pairs-size n (x ∷ xs) (y ∷ ys) e a b =
    let P = λ (p : List ℕ). length p ≡ n in
    omega (
      arith,
      length-append (polynomial_bytes x) (polynomial_bytes y ++ pairs_bytes xs ys),
      length-append (polynomial_bytes y) (pairs_bytes xs ys),
      length-polynomial x,
      length-polynomial y,
      All-head P x xs a,
      All-head P y ys b,
      pairs-size n xs ys (omega arith) (All-tail P x xs a) (All-tail P y ys b),
    )

key-size : (secret : List ℤ) (g : ℕ) (s : Stream) → length (key_bytes (key_draw secret g s).0) ≡ 6 * (28 * length secret)
unfolding key_draw
key-size secret g s =
    let key = (key_draw secret g s).0 in
    let h : ArePairsOf (length secret) 6 key = pairs-drawn secret g 6 s in
    pairs-size (length secret) key.k0 key.k1 (h.k1_count ∙ sym h.k0_count) h.k0_long h.k1_long ∙ ap (λ (k : ℕ). k * (28 * length secret)) h.k0_count

record AreKeysSized (n i : ℕ) (keys : List Key) : Type 0 where
  pub count : length keys ≡ i
  pub each : All (λ key. length (key_bytes key) ≡ 6 * (28 * n)) keys

keys-drawn : (secret : List ℤ) (element : ℕ → ℕ) (i : ℕ) (s : Stream) → AreKeysSized (length secret) i (keys_draw secret element i s).0
unfolding keys_draw
keys-drawn secret element zero s = record { count = refl; each = λ i d l. absurd (omega arith) }
keys-drawn secret element (suc i) s =
    let before = keys_draw secret element i s in
    let key = key_draw secret (element i) before.1 in
    let h = keys-drawn secret element i s in
    record {
      count = omega (arith, length-append before.0 (key.0 ∷ []), h.count);
      each = All-push (λ k. length (key_bytes k) ≡ 6 * (28 * length secret)) before.0 key.0 h.each (key-size secret (element i) before.1);
    }

pub keys-size : (s : Numbers) (stream : Stream) → length (keys_bytes (keys_asked s stream).0) ≡ (log2_up (s.degree / 2) + levels s) * (6 * (28 * s.degree))
unfolding keys_asked key_set_draw secret_draw
keys-size s stream =
    let secret = secret_draw s.degree stream in
    let n : length secret.0 ≡ s.degree = length-drawn ternary_draw s.degree stream in
    let rotations = keys_draw secret.0 (rotation_element (length secret.0)) (log2_up (length secret.0 / 2)) secret.1 in
    let expansions = keys_draw secret.0 (expansion_element (length secret.0)) (levels s) rotations.1 in
    let a = keys-drawn secret.0 (rotation_element (length secret.0)) (log2_up (length secret.0 / 2)) secret.1 in
    let b = keys-drawn secret.0 (expansion_element (length secret.0)) (levels s) rotations.1 in
    let one = parts-long key_bytes (6 * (28 * length secret.0)) rotations.0 a.each in
    let two = parts-long key_bytes (6 * (28 * length secret.0)) expansions.0 b.each in
    let whole : length (flat_map key_bytes rotations.0 ++ flat_map key_bytes expansions.0) ≡ (log2_up (length secret.0 / 2) + levels s) * (6 * (28 * length secret.0)) =
    omega (arith, length-append (flat_map key_bytes rotations.0) (flat_map key_bytes expansions.0), one ∙ ap (λ (k : ℕ). k * (6 * (28 * length secret.0))) a.count, two ∙ ap (λ (k : ℕ). k * (6 * (28 * length secret.0))) b.count) in
    whole ∙ ap (λ (k : ℕ). (log2_up (k / 2) + levels s) * (6 * (28 * k))) n
