-- The scoring round: what a client asks, and the scores that it reads from the replies.
use Rattle.std.specs.Prelude.{ℕ, ℤ, ◌/◌, ◌%◌, ◌<◌, List, length, map}
use Rattle.std.specs.List.{range_with_len}
use Rattle.co_math.specs.Parameters.{fresh_bound}
use Rattle.co_math.specs.Coefficients.{signed_coefficients}
use Rattle.co_slots.specs.Slots.{slot}
use Rattle.co_noise.specs.Shapes.{Numbers}
use Rattle.co_bfv.specs.Ciphertexts.{Ciphertext}
use Rattle.co_bfv.specs.Totals.{ciphertext_at}
use Rattle.co_bfv.specs.Encryptions.{decrypted}
use Rattle.co_matvec.specs.Weights.{keyword_slot}
use Rattle.co_matvec.specs.Replies.{MeansSlots}

-- each query is fresh for the keyword polynomial of its block of terms, under the secret
abbrev pub AskScores : ℕ → List ℤ → List ℕ → List Ciphertext → Type 0
AskScores n secret keywords queries =
    (k : ℕ) → k < length queries → MeansSlots n (signed_coefficients secret)
    (ciphertext_at queries k) (keyword_slot n keywords k) fresh_bound

-- the score of a document, as a client reads it: its slot in the reply of its block
abbrev pub score_read : ℕ → List ℤ → List Ciphertext → ℕ → ℕ
score_read n secret replies d = slot (decrypted secret (ciphertext_at replies (d / n))) (d % n)

-- the scores of all documents
abbrev pub scores_read : Numbers → List ℤ → List Ciphertext → List ℕ
scores_read s secret replies =
    map (score_read s.degree secret replies) (range_with_len 0 s.documents)
