-- Honest rounds in which records and a document are asked for.
use Rattle.std.specs.Prelude.{ℕ, ℤ, ◌*◌, List, [], ◌∷◌, Some}
use Rattle.co_link.specs.declared.messages.Target.{Target}
use Rattle.co_link.specs.declared.messages.Target.TheVariants.{Meta, Document}
use Rattle.co_link.specs.Exchanges.{exchange_of}
use Rattle.co_bucket.specs.Lists.{bucket_count}
use Rattle.co_bucket.specs.Bytes.{record_chunks}
use Rattle.co_bfv.specs.Ciphertexts.{Ciphertext}
use Rattle.co_switch.specs.Keys.{Keys}
use Rattle.co_wire.specs.Bodies.{SpellsCiphers, SpellsKeys}
use Rattle.co_library.specs.Libraries.{Parts}
use Rattle.co_rounds.specs.Answers.{reply_with}
use Rattle.co_rounds.specs.Honest.{IsHonest}
use Rattle.co_rounds.specs.Recording.{CanBeOpened}

-- whenever `asks` ciphertexts, which are the queries, are asked of a target, and the honest reply
-- spells so many ciphertexts, Fact holds of these
abbrev pub OverRound : Parts → List ℕ → Target → ℕ → List Ciphertext → ℕ
    → (List Ciphertext → Type 0) → Type 0
OverRound l keys_body target asks queries count Fact =
    (asked : List ℕ) → SpellsCiphers l.shape.degree asks queries asked
    → (reply : List ℕ) → IsHonest l (Some keys_body)
    (exchange_of (record { target = target; body = asked }) (reply_with 200 reply))
    → (replies : List Ciphertext) → SpellsCiphers l.shape.degree count replies reply
    → Fact replies

-- under keys that can open the replies, Fact holds of the queries and replies of each round of
-- records
abbrev pub OverRecordRound : Parts → List ℤ → Keys
    → (List Ciphertext → List Ciphertext → Type 0) → Type 0
OverRecordRound l secret keys Fact =
    CanBeOpened l secret keys → (keys_body : List ℕ) → SpellsKeys l.shape keys keys_body
    → (queries : List Ciphertext) → OverRound l keys_body Meta (bucket_count l.shape.hits) queries
    (bucket_count l.shape.hits * record_chunks l.shape.degree) (Fact queries)

-- and of the query and the replies of each round of a document
abbrev pub OverDocumentRound : Parts → List ℤ → Keys
    → (Ciphertext → List Ciphertext → Type 0) → Type 0
OverDocumentRound l secret keys Fact =
    CanBeOpened l secret keys → (keys_body : List ℕ) → SpellsKeys l.shape keys keys_body
    → (query : Ciphertext)
    → OverRound l keys_body Document 1 (query ∷ []) l.shape.chunks (Fact query)
