-- The numbers of the scheme, as contracts cite them. Each value stands once, in src/parameters.rt.
use Rattle.std.specs.Prelude.{ℕ, ◌+◌, ◌*◌, ◌/◌}
use Rattle.co_math.specs.declared.parameters.TheConstants.{FIRST_MODULUS, SECOND_MODULUS, CIPHER_MODULUS, PLAIN_MODULUS, INVERSE_OF_FIRST, DIGIT_BITS, DIGIT_BASE, DIGIT_COUNT, ERROR_BOUND, LEAST_EXPONENT, MOST_EXPONENT, LEAST_DEGREE, MOST_DEGREE}

-- q1 = 35 * 2^45 + 1
abbrev pub first_modulus : ℕ
first_modulus = FIRST_MODULUS

-- q2 = 19 * 2^46 + 1
abbrev pub second_modulus : ℕ
second_modulus = SECOND_MODULUS

-- q1 * q2, the modulus of ciphertexts
abbrev pub q : ℕ
q = CIPHER_MODULUS

-- t, the modulus of messages
abbrev pub plain_modulus : ℕ
plain_modulus = PLAIN_MODULUS

-- the greatest absolute value of a centred number modulo t
abbrev pub plain_half : ℕ
plain_half = plain_modulus / 2

-- u, the inverse of q1 modulo q2
abbrev pub inverse_of_first : ℕ
inverse_of_first = INVERSE_OF_FIRST

-- the base of the digits is 2 ^ digit_bits
abbrev pub digit_bits : ℕ
digit_bits = DIGIT_BITS

abbrev pub digit_base : ℕ
digit_base = DIGIT_BASE

-- q is at most digit_base ^ digit_count
abbrev pub digit_count : ℕ
digit_count = DIGIT_COUNT

-- errors lie in -21..21
abbrev pub error_bound : ℕ
error_bound = ERROR_BOUND

-- F, the greatest noise of a fresh ciphertext
abbrev pub fresh_bound : ℕ
fresh_bound = error_bound * plain_modulus + plain_half

-- a degree is 2 to a power between these
abbrev pub least_exponent : ℕ
least_exponent = LEAST_EXPONENT

abbrev pub most_exponent : ℕ
most_exponent = MOST_EXPONENT

abbrev pub least_degree : ℕ
least_degree = LEAST_DEGREE

abbrev pub most_degree : ℕ
most_degree = MOST_DEGREE
