-- Keys drawn from a stream of words: each a function from the stream to the value and the rest of
-- the stream.
use Rattle.std.specs.Prelude.{ℕ, ℤ, zero, suc, pos, ◌/◌, ◌^◌, List, [], ◌∷◌, ◌++◌, length}
use Rattle.rand_core.specs.Stream.{Stream}
use Rattle.co_math.specs.Parameters.{q, digit_base, digit_count}
use Rattle.co_math.specs.Polynomials.{plus, minus, scaled, product, substitution}
use Rattle.co_math.specs.Coefficients.{coefficients, residues_of, signed_coefficients}
use Rattle.co_math.specs.Logarithms.{log2_up}
use Rattle.co_bfv.specs.Draws.{uniform_draw, error_draw}
use Rattle.co_switch.specs.Keys.{Key, Keys, rotation_element, expansion_element}

-- W^j * s(X^g), hidden by the uniform polynomial a and the error e: e - a * s + W^j * s(X^g) modulo
-- q
unfoldable pub hidden : List ℤ → ℕ → ℕ → List ℕ → List ℤ → List ℕ
hidden secret g j a e = residues_of q (length secret)
    (plus (minus (signed_coefficients e) (product (length secret) (coefficients a)
    (signed_coefficients secret)))
    (scaled (pos (digit_base ^ j)) (substitution (length secret) g (signed_coefficients secret))))

-- the pairs of the first digits of the key for g: for each digit first a, then e
unfoldable pub pairs_draw : List ℤ → ℕ → ℕ → Stream → Key × Stream
pairs_draw secret g zero s = (record { element = g; k0 = []; k1 = [] }, s)
pairs_draw secret g (suc j) s =
    let before = pairs_draw secret g j s in
    let a = uniform_draw (length secret) before.1 in
    let e = error_draw (length secret) a.1 in (
      record {
        element = g;
        k0 = before.0.k0 ++ hidden secret g j a.0 e.0 ∷ [];
        k1 = before.0.k1 ++ a.0 ∷ [];
      },
      e.1,
    )

-- the key for g
unfoldable pub key_draw : List ℤ → ℕ → Stream → Key × Stream
key_draw secret g s = pairs_draw secret g digit_count s

-- so many keys one after another, with these elements
unfoldable pub keys_draw : List ℤ → (ℕ → ℕ) → ℕ → Stream → List Key × Stream
keys_draw secret element zero s = ([], s)
keys_draw secret element (suc i) s =
    let before = keys_draw secret element i s in
    let key = key_draw secret (element i) before.1 in
    (before.0 ++ key.0 ∷ [], key.1)

-- first log2(n / 2) rotation keys, then the expansion keys
unfoldable pub key_set_draw : List ℤ → ℕ → Stream → Keys × Stream
key_set_draw secret levels s =
    let rotations =
    keys_draw secret (rotation_element (length secret)) (log2_up (length secret / 2)) s in
    let expansions = keys_draw secret (expansion_element (length secret)) levels rotations.1 in
    (record { rotations = rotations.0; expansions = expansions.0 }, expansions.1)
