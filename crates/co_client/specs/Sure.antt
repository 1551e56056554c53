-- Ciphertexts that are decrypted for sure.
use Rattle.std.specs.Prelude.{ℕ, ℤ, ◌*◌, ◌<◌, List, Option, Ok, All}
use Rattle.co_link.specs.declared.messages.Target.TheVariants.{Score, Meta, Document}
use Rattle.co_link.specs.declared.messages.Exchange.{Exchange}
use Rattle.co_math.specs.Parameters.{q}
use Rattle.co_math.specs.Coefficients.{coefficients, signed_coefficients}
use Rattle.co_noise.specs.Shapes.{Numbers, document_blocks}
use Rattle.co_bfv.specs.Ciphertexts.{Ciphertext, MeansWithin}
use Rattle.co_bfv.specs.Encryptions.{decrypted}
use Rattle.co_bucket.specs.Lists.{bucket_count}
use Rattle.co_bucket.specs.Bytes.{record_chunks}
use Rattle.co_bucket.specs.Placement.{IsPlacement}
use Rattle.co_pack.specs.declared.records.Record.{Record}
use Rattle.co_text.specs.declared.ranks.Ranked.{Ranked}
use Rattle.co_rounds.specs.Placing.{choices_of}
use Rattle.co_client.specs.Causes.{Search, Answered, ReadsHits, ReadsRecords, secret_of}

-- under the secret the ciphertext means the message that it decrypts to, with noise that twice is
-- below q
pub record IsSure (secret : List ℤ) (c : Ciphertext) : Type 0 where
  pub bound : ℕ
  pub means : MeansWithin (signed_coefficients secret) c (coefficients (decrypted secret c)) bound
  pub below : 2 * bound < q

-- each ciphertext that a search decrypts is such a one: those of the scores, those of the records
-- where the hits are placed, and those of the bin where the records are read
pub record AreSure (r : Search) (es : List Exchange) (s : Numbers) (terms : List (List ℕ))
    : Type 0 where
  pub scores : (replies : List Ciphertext) → Answered es s.degree (document_blocks s) Score replies
      → All (IsSure (secret_of r s)) replies
  pub records : (hits : List Ranked) (placed : List (Option ℕ)) (replies : List Ciphertext)
      → ReadsHits r es s terms hits → IsPlacement (choices_of s hits) (bucket_count s.hits) placed
      → Answered es s.degree (bucket_count s.hits * record_chunks s.degree) Meta replies
      → All (IsSure (secret_of r s)) replies
  pub document : (hits : List Ranked) (records : List Record) (replies : List Ciphertext)
      → ReadsRecords r es s terms hits (Ok records)
      → Answered es s.degree s.chunks Document replies → All (IsSure (secret_of r s)) replies
