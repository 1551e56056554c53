-- When a search refuses, and what it read where it does not: by its exchanges, over any link.
use Rattle.std.specs.Prelude.{◌≡◌, ◌≢◌, ℕ, ℤ, ◌*◌, ◌<◌, min, List, [], ◌∷◌, ◌++◌, length, map, take, slice_get, Option, Some, Result, Ok, Err}
use Rattle.rand_core.specs.Stream.{Stream}
use Rattle.co_link.specs.Causes.{Rose}
use Rattle.co_link.specs.Exchanges.{LinkCall, exchange_of}
use Rattle.co_link.specs.declared.messages.Target.{Target}
use Rattle.co_link.specs.declared.messages.Target.TheVariants.{Public, Score, Meta, Document}
use Rattle.co_link.specs.declared.messages.Request.{Request}
use Rattle.co_link.specs.declared.messages.Reply.{Reply}
use Rattle.co_link.specs.declared.messages.Exchange.{Exchange}
use Rattle.co_noise.specs.Shapes.{Numbers, document_blocks}
use Rattle.co_noise.specs.Bounds.{test_of}
use Rattle.co_noise.specs.declared.testing.TestFault.{TestFault}
use Rattle.co_bfv.specs.Ciphertexts.{Ciphertext}
use Rattle.co_bfv.specs.Draws.{secret_draw}
use Rattle.co_bucket.specs.Lists.{bucket_count}
use Rattle.co_bucket.specs.Bytes.{record_chunks}
use Rattle.co_bucket.specs.Placement.{IsPlacement}
use Rattle.co_pack.specs.declared.records.Record.{Record}
use Rattle.co_text.specs.declared.found.Found.{Found}
use Rattle.co_text.specs.declared.limits.TheConstants.{MOST_KEYWORDS}
use Rattle.co_text.specs.declared.ranks.Ranked.{Ranked}
use Rattle.co_text.specs.Ranking.{ranking}
use Rattle.co_text.specs.Numbers.{numbers_of, unknown_in}
use Rattle.co_text.specs.Terms.{distinct}
use Rattle.co_wire.specs.Public.{public_of}
use Rattle.co_wire.specs.Bodies.{SpellsCiphers}
use Rattle.co_wire.specs.Lengths.{reply_size, reply_limit, most_public}
use Rattle.co_rounds.specs.Answers.{reply_with}
use Rattle.co_rounds.specs.Plans.{targets, IsWholePlan}
use Rattle.co_rounds.specs.Asked.{Asked, IsAsked, bodies_of}
use Rattle.co_rounds.specs.Scoring.{scores_read}
use Rattle.co_rounds.specs.Placing.{choices_of, rows_asked, IsUnplaced}
use Rattle.co_client.specs.Openings.{IsBadReply}
use Rattle.co_client.specs.Records.{records_read, picked_record, picked_read, bin_asked, hits_shown}
use Rattle.co_client.specs.declared.fault.SearchFault.{SearchFault}
use Rattle.co_client.specs.declared.fault.SearchFault.TheVariants.{TooManyKeywords, BadPublic, Test, NoPlacement, Link, Refused, BadReply, WrongRecord, BadPlace, NotByte, BadRecord, OutOfMemory}

-- a search: the terms of the query, with repeats, the pick, the words that it draws from, and the
-- link's count of faults before and after, and its last failed exchange
pub record Search : Type 0 where
  pub query : List (List ℕ)
  pub pick : ℕ
  pub stream : Stream
  pub before : ℕ
  pub now : ℕ
  pub last_failed : Option LinkCall

-- the same of its values in this order
abbrev pub search_by : List (List ℕ) → ℕ → Stream → ℕ → ℕ → Option LinkCall → Search
search_by ts pick words was is last =
    record { query = ts; pick = pick; stream = words; before = was; now = is; last_failed = last }

-- ---- what exchanges show

-- the first exchange published these numbers and terms
pub record Publishes (es : List Exchange) (s : Numbers) (terms : List (List ℕ)) : Type 0 where
  pub first : Exchange
  pub others : List Exchange
  pub are : es ≡ first ∷ others
  pub read : public_of first.reply.body ≡ Ok (s, terms)

-- the last exchange asked for this and had this reply
pub record EndsWith (es : List Exchange) (target : Target) (reply : Reply) : Type 0 where
  pub front : List Exchange
  pub request : Request
  pub are : es ≡ front ++ (exchange_of request reply ∷ [])
  pub target_is : request.target ≡ target

-- an exchange for this was answered 200 with these ciphertexts
pub record Answered (es : List Exchange) (n count : ℕ) (target : Target) (replies : List Ciphertext)
    : Type 0 where
  pub number : ℕ
  pub request : Request
  pub body : List ℕ
  pub is : slice_get es number ≡ Some (exchange_of request (reply_with 200 body))
  pub target_is : request.target ≡ target
  pub spelled : SpellsCiphers n count replies body

-- ---- what is read of them

-- the secret of a search is its first draw
abbrev pub secret_of : Search → Numbers → List ℤ
secret_of r s = (secret_draw s.degree r.stream).0

-- the hits by rank, read from the score replies
pub record ReadsHits (r : Search) (es : List Exchange) (s : Numbers) (terms : List (List ℕ))
    (hits : List Ranked) : Type 0 where
  pub published : Publishes es s terms
  pub passes : test_of s ≡ Ok s
  pub replies : List Ciphertext
  pub scored : Answered es s.degree (document_blocks s) Score replies
  pub are : hits ≡ ranking s.hits (scores_read s (secret_of r s) replies)

-- the records of the hits, or the first fault of them, read from the replies of the buckets in
-- which the hits are placed
pub record ReadsRecords (r : Search) (es : List Exchange) (s : Numbers) (terms : List (List ℕ))
    (hits : List Ranked) (records : Result (List Record) SearchFault) : Type 0 where
  pub ranked : ReadsHits r es s terms hits
  pub placed : List (Option ℕ)
  pub placement : IsPlacement (choices_of s hits) (bucket_count s.hits) placed
  pub replies : List Ciphertext
  pub gathered : Answered es s.degree (bucket_count s.hits * record_chunks s.degree) Meta replies
  pub are : records ≡ records_read s (secret_of r s) replies placed 0 hits

-- the picked document's number and text, or none where the pick is past the hits
pub record ReadsPicked (r : Search) (es : List Exchange) (s : Numbers) (hits : List Ranked)
    (records : List Record) (picked : Result (Option (ℕ × List ℕ)) SearchFault) : Type 0 where
  pub replies : List Ciphertext
  pub fetched : Answered es s.degree s.chunks Document replies
  pub are : picked ≡ picked_read (secret_of r s) replies (picked_record records r.pick)

-- what a search answers where no exchange failed or was refused
pub record IsRead (r : Search) (es : List Exchange) (f : Found) : Type 0 where
  pub shape : Numbers
  pub terms : List (List ℕ)
  pub hits : List Ranked
  pub records : List Record
  pub read : ReadsRecords r es shape terms hits (Ok records)
  pub shown : f.hits ≡ hits_shown hits records
  pub unknown : f.unknown ≡ unknown_in terms (distinct r.query)
  pub picked : ReadsPicked r es shape hits records (Ok f.document)

-- ---- causes of refusals

pub record IsRefusedBy (es : List Exchange) (target : Target) (status : ℕ) : Type 0 where
  pub reply : Reply
  pub ends : EndsWith es target reply
  pub is : reply.status ≡ status
  pub bad : status ≢ 200

pub record HasBadPublic (es : List Exchange) (place : ℕ) : Type 0 where
  pub body : List ℕ
  pub ends : EndsWith es Public (reply_with 200 body)
  pub bad : public_of body ≡ Err place

pub record FailsTest (es : List Exchange) (fault : TestFault) : Type 0 where
  pub shape : Numbers
  pub terms : List (List ℕ)
  pub published : Publishes es shape terms
  pub fails : test_of shape ≡ Err fault
  pub alone : length es ≡ 1

pub record HasBadReply (es : List Exchange) (target : Target) (place : ℕ) : Type 0 where
  pub shape : Numbers
  pub terms : List (List ℕ)
  pub published : Publishes es shape terms
  pub body : List ℕ
  pub ends : EndsWith es target (reply_with 200 body)
  pub later : target ≢ Public
  pub bad : IsBadReply (reply_size shape target) body place

-- the target that is next after some exchanges, and the most bytes of its reply
pub record IsNextCall (es : List Exchange) (call : LinkCall) : Type 0 where
  pub next : slice_get targets (length es) ≡ Some call.target
  pub first : es ≡ [] → call.limit ≡ most_public
  pub later : (s : Numbers) (terms : List (List ℕ)) → Publishes es s terms
      → call.limit ≡ reply_limit s call.target

-- the next exchange failed
pub record IsCutOff (r : Search) (es : List Exchange) : Type 0 where
  pub rose : Rose r.before r.now
  pub call : LinkCall
  pub next : IsNextCall es call
  pub is : r.last_failed ≡ Some call

pub record HasNoPlacement (r : Search) (es : List Exchange) (documents buckets : List ℕ)
    : Type 0 where
  pub shape : Numbers
  pub terms : List (List ℕ)
  pub hits : List Ranked
  pub ranked : ReadsHits r es shape terms hits
  pub unplaced : IsUnplaced shape hits documents buckets

pub record HasBadRecord (r : Search) (es : List Exchange) (fault : SearchFault) : Type 0 where
  pub shape : Numbers
  pub terms : List (List ℕ)
  pub hits : List Ranked
  pub read : ReadsRecords r es shape terms hits (Err fault)

pub record HasBadText (r : Search) (es : List Exchange) (fault : SearchFault) : Type 0 where
  pub shape : Numbers
  pub terms : List (List ℕ)
  pub hits : List Ranked
  pub records : List Record
  pub read : ReadsRecords r es shape terms hits (Ok records)
  pub picked : ReadsPicked r es shape hits records (Err fault)

-- the cause of each refusal; want of memory is free
abbrev pub IsCause : Search → List Exchange → SearchFault → Type 0
IsCause r es (TooManyKeywords found) = (MOST_KEYWORDS < length (distinct r.query))
    × (found ≡ min (length (distinct r.query)) 4294967295) × (es ≡ [])
IsCause r es (BadPublic place) = HasBadPublic es place
IsCause r es (Test fault) = FailsTest es fault
IsCause r es (NoPlacement documents buckets) =
    HasNoPlacement r es documents buckets × IsWholePlan es
IsCause r es Link = IsCutOff r es
IsCause r es (Refused target status) = IsRefusedBy es target status
IsCause r es (BadReply target place) = HasBadReply es target place
IsCause r es (WrongRecord wanted found) = HasBadRecord r es (WrongRecord wanted found)
IsCause r es (BadPlace document) = HasBadRecord r es (BadPlace document)
IsCause r es (NotByte Document reply place) = HasBadText r es (NotByte Document reply place)
IsCause r es (NotByte Meta reply place) = HasBadRecord r es (NotByte Meta reply place)
IsCause r es (NotByte target reply place) = ⊥
IsCause r es (BadRecord document place) = HasBadRecord r es (BadRecord document place)
IsCause r es OutOfMemory = Unit {0}

-- ---- what is asked

-- the answer was found, or the hits can't be placed
abbrev pub IsAnswered : Result Found SearchFault → Type 0
IsAnswered (Ok f) = Unit {0}
IsAnswered (Err (NoPlacement documents buckets)) = Unit {0}
IsAnswered (Err fault) = ⊥

-- the requests behind the first are, in order, the drawn ones. Where records are asked for, the
-- rows are those of the hits that are placed, and where a bin is, it is that of the picked
-- document; the first rows and the first bin where the hits can't be placed. Where all were made,
-- the stream is left behind the draws
pub record Asks (r : Search) (es : List Exchange) (s : Numbers) (terms : List (List ℕ))
    (result : Result Found SearchFault) (left : Stream) : Type 0 where
  pub rows : List ℕ
  pub bin : ℕ
  pub asked : Asked
  pub rest : Stream
  pub drawn : IsAsked s (numbers_of terms (distinct r.query)) rows bin r.stream asked rest
  pub requests : map (λ e. e.request.body) es ≡ take (length es) ([] ∷ bodies_of asked)
  pub placed_rows : 3 < length es → (hits : List Ranked) (placed : List (Option ℕ))
      → ReadsHits r es s terms hits → IsPlacement (choices_of s hits) (bucket_count s.hits) placed
      → rows ≡ rows_asked s hits placed
  pub unplaced_rows : 3 < length es → (hits : List Ranked) (documents buckets : List ℕ)
      → ReadsHits r es s terms hits → IsUnplaced s hits documents buckets
      → rows ≡ rows_asked s hits []
  pub picked_bin : 4 < length es → (hits : List Ranked) (records : List Record)
      → ReadsRecords r es s terms hits (Ok records) → bin ≡ bin_asked (picked_record records r.pick)
  pub unplaced_bin : 4 < length es → (hits : List Ranked) (documents buckets : List ℕ)
      → ReadsHits r es s terms hits → IsUnplaced s hits documents buckets → bin ≡ 0
  pub left_is : IsAnswered result → left ≡ rest
