-- The answer of a search, by what its rounds gave.
use Rattle.std.specs.Prelude.{ℕ, ℤ, List, Option, Some, None, Result, Ok, Err}
use Rattle.co_bfv.specs.Ciphertexts.{Ciphertext}
use Rattle.co_pack.specs.declared.records.Record.{Record}
use Rattle.co_text.specs.declared.found.Found.{Found}
use Rattle.co_client.specs.declared.fault.SearchFault.{SearchFault}
use Rattle.co_client.specs.declared.fault.SearchFault.TheVariants.{NoPlacement}
use Rattle.co_client.specs.declared.ranking.Ranked.{Ranked}
use Rattle.co_client.specs.Placings.{shown_of}
use Rattle.co_client.specs.Records.{◌>>=◌, picked_record, picked_read, hits_shown}

-- the answer where the hits are placed, else that they can't be
abbrev pub concluded : Option (List ℕ × List ℕ) → Found → Result Found SearchFault
concluded None f = Ok f
concluded (Some witness) f = Err (NoPlacement witness.0 witness.1)

-- the same by the ranked hits, their records and the picked document
abbrev pub answer_of : Ranked → List Record → Option (ℕ × List ℕ) → Result Found SearchFault
answer_of ranked records document =
    concluded ranked.refused (record {
      hits = hits_shown (shown_of ranked.refused ranked.hits) records;
      unknown = ranked.unknown;
      document = document;
    })

-- the same where the document is read of its bin's replies, or the first fault there
abbrev pub answer_read : List ℤ → List Ciphertext → Ranked → List Record → ℕ
    → Result Found SearchFault
answer_read secret replies ranked records pick =
    picked_read secret replies (picked_record records pick) >>= answer_of ranked records
