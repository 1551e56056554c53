-- Random values drawn from a stream of words: each a function from the stream to the value and the
-- rest of the stream.
use Rattle.std.specs.Prelude.{ℕ, ℤ, zero, suc, pos, ◌+◌, ◌*◌, ◌/◌, ◌%◌, ◌^◌, ◌-ℤ◌, List, [], ◌∷◌, ◌++◌, length, count_ones}
use Rattle.rand_core.specs.Stream.{Stream, next_u64}
use Rattle.co_math.specs.Parameters.{first_modulus, second_modulus, error_bound}
use Rattle.co_rns.specs.Residue_pairs.{composed}
use Rattle.co_bfv.specs.Ciphertexts.{Ciphertext}
use Rattle.co_bfv.specs.Encryptions.{encrypted}

-- n values drawn one after another
abbrev pub drawn : {A : Type 0} → (Stream → A × Stream) → ℕ → Stream → List A × Stream
drawn draw zero s = ([], s)
drawn draw (suc n) s =
    let before = drawn draw n s in let last = draw before.1 in (before.0 ++ last.0 ∷ [], last.1)

-- one word w: (w mod 3) - 1
unfoldable pub ternary_draw : Stream → ℤ × Stream
ternary_draw s = let w = next_u64 s in (pos (w.0 % 3) -ℤ pos 1, w.1)

-- two words, the high one first
unfoldable pub wide_draw : Stream → ℕ × Stream
wide_draw s = let high = next_u64 s in let low = next_u64 high.1 in (high.0 * 2 ^ 64 + low.0, low.1)

-- four words: the number below q with the residues x mod q1 and y mod q2 of two wide numbers x and
-- y
unfoldable pub coefficient_draw : Stream → ℕ × Stream
coefficient_draw s =
    let x = wide_draw s in
    let y = wide_draw x.1 in
    (composed (x.0 % first_modulus) (y.0 % second_modulus), y.1)

-- one word, by the centred binomial distribution: the number of ones in its first 21 bits, the low
-- ones, minus the number of ones in the next 21
unfoldable pub binomial_draw : Stream → ℤ × Stream
binomial_draw s =
    let w = next_u64 s in (
      pos (count_ones (w.0 % 2 ^ error_bound)) -ℤ pos
          (count_ones (w.0 / 2 ^ error_bound % 2 ^ error_bound)),
      w.1,
    )

-- the coefficients of a secret
unfoldable pub secret_draw : ℕ → Stream → List ℤ × Stream
secret_draw n s = drawn ternary_draw n s

-- the coefficients of a uniform polynomial modulo q
unfoldable pub uniform_draw : ℕ → Stream → List ℕ × Stream
uniform_draw n s = drawn coefficient_draw n s

-- the coefficients of an error
unfoldable pub error_draw : ℕ → Stream → List ℤ × Stream
error_draw n s = drawn binomial_draw n s

-- an encryption: first the uniform polynomial, then the error
unfoldable pub encryption_draw : List ℤ → List ℕ → Stream → Ciphertext × Stream
encryption_draw secret message s =
    let a = uniform_draw (length secret) s in
    let e = error_draw (length secret) a.1 in
    (encrypted secret message a.0 e.0, e.1)
