-- How long requests and replies are, as a function of the published numbers.
use Rattle.std.specs.Prelude.{ℕ, ◌+◌, ◌*◌, ◌/◌, max}
use Rattle.co_math.specs.Parameters.{digit_count}
use Rattle.co_noise.specs.Shapes.{Numbers, keyword_blocks, document_blocks, levels}
use Rattle.co_math.specs.Logarithms.{log2_up}
use Rattle.co_bucket.specs.Lists.{bucket_count}
use Rattle.co_bucket.specs.Bytes.{record_chunks}
use Rattle.co_link.specs.declared.messages.Target.{Target}
use Rattle.co_link.specs.declared.messages.Target.TheVariants.{Public, Keys, Score, Meta, Document}

-- the bytes of a ciphertext: two polynomials, two residues a coefficient, seven bytes a residue
abbrev pub cipher_size : ℕ → ℕ
cipher_size degree = 28 * degree

-- the bytes of a key: a pair of polynomials for each digit
abbrev pub key_size : ℕ → ℕ
key_size degree = digit_count * (28 * degree)

-- the rotation keys and the expansion keys
abbrev pub key_count : Numbers → ℕ
key_count s = log2_up (s.degree / 2) + levels s

-- the bytes of a request's body
abbrev pub request_size : Numbers → Target → ℕ
request_size s Public = 0
request_size s Keys = key_count s * key_size s.degree
request_size s Score = keyword_blocks s * cipher_size s.degree
request_size s Meta = bucket_count s.hits * cipher_size s.degree
request_size s Document = cipher_size s.degree

-- the bytes of a reply's body, where it is as asked; those of public bytes depend on the terms, and
-- are not told here
abbrev pub reply_size : Numbers → Target → ℕ
reply_size s Public = 0
reply_size s Keys = 0
reply_size s Score = document_blocks s * cipher_size s.degree
reply_size s Meta = bucket_count s.hits * (record_chunks s.degree * cipher_size s.degree)
reply_size s Document = s.chunks * cipher_size s.degree

-- the most bytes of public bytes: 8 and 32, and 131,072 terms of 64 bytes behind their lengths
abbrev pub most_public : ℕ
most_public = 8519720

-- the most bytes of a reply's body that a client takes: as it is to be, and room for the text of a
-- refusal
abbrev pub reply_limit : Numbers → Target → ℕ
reply_limit s Public = most_public
reply_limit s Keys = 256
reply_limit s Score = max 256 (reply_size s Score)
reply_limit s Meta = max 256 (reply_size s Meta)
reply_limit s Document = max 256 (reply_size s Document)
