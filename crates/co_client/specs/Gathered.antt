-- The round of the records.
use Rattle.std.specs.Prelude.{◌≡◌, ◌*◌, ℕ, List, Option, Result, Err}
use Rattle.rand_core.specs.Stream.{Stream}
use Rattle.co_link.specs.declared.messages.Target.TheVariants.{Meta}
use Rattle.co_link.specs.declared.messages.Request.{Request}
use Rattle.co_link.specs.declared.messages.Exchange.{Exchange}
use Rattle.co_noise.specs.Shapes.{Numbers}
use Rattle.co_bfv.specs.Ciphertexts.{Ciphertext}
use Rattle.co_bucket.specs.Lists.{bucket_count}
use Rattle.co_bucket.specs.Bytes.{record_chunks}
use Rattle.co_pack.specs.declared.records.Record.{Record}
use Rattle.co_wire.specs.Bodies.{SpellsCiphers}
use Rattle.co_wire.specs.Lengths.{reply_size}
use Rattle.co_rounds.specs.Answers.{reply_with}
use Rattle.co_rounds.specs.Placing.{rows_asked}
use Rattle.co_client.specs.declared.ranking.Ranked.{Ranked}
use Rattle.co_client.specs.declared.fault.SearchFault.{SearchFault}
use Rattle.co_client.specs.declared.fault.SearchFault.TheVariants.{NotByte, BadRecord, WrongRecord, BadPlace}
use Rattle.co_client.specs.Placings.{shown_of}
use Rattle.co_client.specs.Records.{records_read}
use Rattle.co_client.specs.Rounds.{ReaderState, Comes, RoundFails, queries_request, queries_rest, record_messages}

-- the numbers with so many bins, for the measure of a place
abbrev pub with_bins : Numbers → ℕ → Numbers
with_bins s bins =
    record {
      degree = s.degree;
      documents = s.documents;
      terms = s.terms;
      hits = s.hits;
      salt = s.salt;
      rows = s.rows;
      bins = bins;
      chunks = s.chunks;
    }

-- the messages that ask for the records of hits: in each bucket for the row of the hit that is
-- placed there, else for the first
abbrev pub hits_messages : Numbers → Ranked → List (List ℕ)
hits_messages s ranked = record_messages s (rows_asked s ranked.hits ranked.buckets)

-- the request that asks for them
abbrev pub records_request : ReaderState → Ranked → Stream → Request
records_request reader ranked stream =
    queries_request Meta reader.secret (hits_messages reader.shape ranked) stream

-- what its draws leave
abbrev pub records_rest : ReaderState → Ranked → Stream → Stream
records_rest reader ranked stream =
    queries_rest reader.secret (hits_messages reader.shape ranked) stream

-- the exchange gave the replies of the buckets, and of these the records of the hits are read by
-- rank, or the first fault
pub record ReadsReplies (reader : ReaderState) (ranked : Ranked) (bins : ℕ)
    (was now : Option (List Exchange)) (stream : Stream)
    (records : Result (List Record) SearchFault) : Type 0 where
  pub body : List ℕ
  pub comes : Comes was now (records_request reader ranked stream) (reply_with 200 body)
  pub replies : List Ciphertext
  pub spelled : SpellsCiphers reader.shape.degree
      (bucket_count reader.shape.hits * record_chunks reader.shape.degree) replies body
  pub are : records ≡ records_read (with_bins reader.shape bins) reader.secret replies
      ranked.buckets 0 (shown_of ranked.refused ranked.hits)

-- what the round tells where it gives no records: the first fault of those that came, or that of
-- any round
abbrev pub RecordsFail : ReaderState → Ranked → ℕ → Option (List Exchange) → Option (List Exchange)
    → Stream → SearchFault → Type 0
RecordsFail reader ranked bins was now stream (NotByte target reply place) =
    ReadsReplies reader ranked bins was now stream (Err (NotByte target reply place))
RecordsFail reader ranked bins was now stream (BadRecord document place) =
    ReadsReplies reader ranked bins was now stream (Err (BadRecord document place))
RecordsFail reader ranked bins was now stream (WrongRecord wanted found) =
    ReadsReplies reader ranked bins was now stream (Err (WrongRecord wanted found))
RecordsFail reader ranked bins was now stream (BadPlace document) =
    ReadsReplies reader ranked bins was now stream (Err (BadPlace document))
RecordsFail reader ranked bins was now stream fault =
    RoundFails (reply_size reader.shape Meta) was now (records_request reader ranked stream) fault
