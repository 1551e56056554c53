-- Encryption and decryption, with the random parts given.
-- The scheme: Fan and Vercauteren, Somewhat Practical Fully Homomorphic Encryption, 2012.
use Rattle.std.specs.Prelude.{ℕ, ℤ, ◌+◌, ◌*◌, ◌/◌, ◌%◌, List, map, length}
use Rattle.co_math.specs.Polynomials.{plus, minus, product}
use Rattle.co_math.specs.Coefficients.{coefficients, residues_of, signed_coefficients}
use Rattle.co_math.specs.Meanings.{phase}
use Rattle.co_math.specs.Parameters.{q, plain_modulus}
use Rattle.co_bfv.specs.Ciphertexts.{Ciphertext, ciphertext_degree}

-- m * q / t, rounded
unfoldable pub delta : ℕ → ℕ
delta m = (2 * q * m + plain_modulus) / (2 * plain_modulus)

-- the encryption of a message with the uniform polynomial a and the error e
unfoldable pub encrypted : List ℤ → List ℕ → List ℕ → List ℤ → Ciphertext
encrypted secret message a e = record {
  c0 = residues_of q (length secret)
      (minus (plus (coefficients (map delta message)) (signed_coefficients e))
      (product (length secret) (coefficients a) (signed_coefficients secret)));
  c1 = a;
}

-- p * t / q, rounded, modulo t
unfoldable pub opened : ℕ → ℕ
opened p = (2 * plain_modulus * p + q) / (2 * q) % plain_modulus

-- the message of a ciphertext, by its phase modulo q
unfoldable pub decrypted : List ℤ → Ciphertext → List ℕ
decrypted secret c =
    let n = ciphertext_degree c in
    map opened (residues_of q n (phase n (signed_coefficients secret)
    (coefficients c.c0) (coefficients c.c1)))
