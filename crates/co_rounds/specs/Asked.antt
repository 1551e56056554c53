-- What a search asks, drawn from a stream of words.
use Rattle.std.specs.Prelude.{◌≡◌, ℕ, ℤ, ◌<◌, List, [], ◌∷◌, map, length, slice_index_or}
use Rattle.rand_core.specs.Stream.{Stream}
use Rattle.co_noise.specs.Shapes.{Numbers, keyword_blocks, levels}
use Rattle.co_bfv.specs.Ciphertexts.{Ciphertext}
use Rattle.co_bfv.specs.Draws.{secret_draw, encryption_draw}
use Rattle.co_switch.specs.Keys.{Keys}
use Rattle.co_switch.specs.Draws.{key_set_draw}
use Rattle.co_matvec.specs.Weights.{keyword_slot}
use Rattle.co_matvec.specs.Replies.{HasSlots}
use Rattle.co_pir.specs.Messages.{query_polynomial}
use Rattle.co_wire.specs.Bodies.{keys_bytes, ciphers_bytes}

-- messages encrypted one after another
unfoldable pub encryptions_draw : List ℤ → List (List ℕ) → Stream → List Ciphertext × Stream
encryptions_draw secret [] s = ([], s)
encryptions_draw secret (m ∷ ms) s =
    let one = encryption_draw secret m s in
    let others = encryptions_draw secret ms one.1 in
    (one.0 ∷ others.0, others.1)

-- what a search asks: the key set, then the queries for scores, for records and for a bin
pub record Asked : Type 0 where
  pub keys : Keys
  pub scores : List Ciphertext
  pub records : List Ciphertext
  pub document : List Ciphertext

-- the bodies of the requests, after the one for the published parameters
abbrev pub bodies_of : Asked → List (List ℕ)
bodies_of a = keys_bytes a.keys ∷ ciphers_bytes a.scores ∷ ciphers_bytes a.records
    ∷ ciphers_bytes a.document ∷ []

-- the message that asks for a row of so many rows
abbrev pub row_message : ℕ → ℕ → ℕ → List ℕ
row_message n rows row = (query_polynomial n rows row).coeffs

-- the keyword polynomials of the blocks of terms
pub record AreKeywordMessages (s : Numbers) (keywords : List ℕ) (messages : List (List ℕ))
    : Type 0 where
  pub count : length messages ≡ keyword_blocks s
  pub each : (k : ℕ) → k < length messages
      → HasSlots s.degree (keyword_slot s.degree keywords k) (slice_index_or messages k [])

-- the draws of a search, one after another: the secret, the key set, a query for each block of
-- terms, a query for each bucket, and one for a bin; and the rest of the stream
unfoldable pub asked_draw : Numbers → List (List ℕ) → List ℕ → ℕ → Stream → Asked × Stream
asked_draw s messages rows bin stream =
    let secret = secret_draw s.degree stream in
    let keys = key_set_draw secret.0 (levels s) secret.1 in
    let scores = encryptions_draw secret.0 messages keys.1 in
    let records = encryptions_draw secret.0 (map (row_message s.degree s.rows) rows) scores.1 in
    let document = encryptions_draw secret.0 (row_message s.degree s.bins bin ∷ []) records.1 in (
      record { keys = keys.0; scores = scores.0; records = records.0; document = document.0 },
      document.1,
    )

-- a search for these keywords, for a row of each bucket and for a bin, asks this, and leaves the
-- rest of the stream
pub record IsAsked (s : Numbers) (keywords rows : List ℕ) (bin : ℕ) (stream : Stream)
    (asked : Asked) (rest : Stream) : Type 0 where
  pub messages : List (List ℕ)
  pub spelled : AreKeywordMessages s keywords messages
  pub drawn : asked_draw s messages rows bin stream ≡ (asked, rest)
