-- How a client reads the records of hits and the picked document, from what it decrypts.
use Rattle.std.specs.Prelude.{ℕ, ℤ, ◌+◌, ◌-◌, ◌==◌, List, [], ◌∷◌, take, drop, slice_get, Option, Some, None, Bool, false, Result, Ok, Err, if◌then◌else◌}
use Rattle.std.specs.List.{position}
use Rattle.std.specs.Option.{unwrap_or}
use Rattle.co_link.specs.declared.messages.Target.{Target}
use Rattle.co_link.specs.declared.messages.Target.TheVariants.{Meta, Document}
use Rattle.co_noise.specs.Shapes.{Numbers}
use Rattle.co_bfv.specs.Ciphertexts.{Ciphertext}
use Rattle.co_pack.specs.declared.packing.Place.{Place}
use Rattle.co_pack.specs.declared.records.Record.{Record}
use Rattle.co_pack.specs.Records.{record_of}
use Rattle.co_pir.specs.Openings.{opened_reply}
use Rattle.co_text.specs.declared.ranks.Ranked.{Ranked}
use Rattle.co_text.specs.declared.found.Hit.{Hit}
use Rattle.co_rounds.specs.Placing.{document_start}
use Rattle.co_rounds.specs.Recording.{is_within_bins, bytes_of, bucket_replies}
use Rattle.co_client.specs.declared.fault.SearchFault.{SearchFault}
use Rattle.co_client.specs.declared.fault.SearchFault.TheVariants.{NotByte, BadRecord, WrongRecord, BadPlace}

-- one step after another, up to the first fault
infixl 10 ◌>>=◌
abbrev pub ◌>>=◌ : {A B : Type 0} → Result A SearchFault → (A → Result B SearchFault)
    → Result B SearchFault
(Ok x) >>= f = f x
(Err fault) >>= f = Err fault

-- ---- opened replies

-- the bytes of the reply of this number, or the first coefficient that is no two bytes
abbrev pub bytes_or_fault : Target → ℕ → List ℕ → Option ℕ → Result (List ℕ) SearchFault
bytes_or_fault target reply coeffs None = Ok (bytes_of coeffs)
bytes_or_fault target reply coeffs (Some place) = Err (NotByte target reply place)

unfoldable pub opened_bytes : Target → ℕ → List ℕ → Result (List ℕ) SearchFault
opened_bytes target reply coeffs =
    bytes_or_fault target reply coeffs (position (λ x. x == 65536) coeffs)

-- ---- records

-- the record of this document, or what is wrong with it: it is none, it is another document's, or
-- its place is outside
abbrev pub checked : Numbers → ℕ → Result Record ℕ → Result Record SearchFault
checked s document (Err place) = Err (BadRecord document place)
checked s document (Ok r) =
    if r.document == document then
    (if is_within_bins s r.place then Ok r else Err (BadPlace document))
    else Err (WrongRecord document r.document)

-- the record of a document that was asked of a bucket
unfoldable pub record_read : Numbers → List ℤ → List Ciphertext → ℕ → ℕ → Result Record SearchFault
record_read s secret replies bucket document =
    opened_bytes Meta bucket (opened_reply secret (bucket_replies s replies bucket))
    >>= λ bytes. checked s document
    (record_of (take 256 (drop (document_start s bucket document) bytes)))

-- whether the hit of this rank is placed here
abbrev pub is_placed_here : ℕ → Option ℕ → Bool
is_placed_here rank None = false
is_placed_here rank (Some i) = i == rank

-- the bucket in which the hit of a rank is placed
abbrev pub bucket_of : List (Option ℕ) → ℕ → ℕ
bucket_of placed rank = unwrap_or (position (is_placed_here rank) placed) 0

-- the records of the hits by rank, of which the first has this rank, or the first fault
abbrev pub records_read : Numbers → List ℤ → List Ciphertext → List (Option ℕ) → ℕ → List Ranked
    → Result (List Record) SearchFault
records_read s secret replies placed rank [] = Ok []
records_read s secret replies placed rank (h ∷ hs) =
    record_read s secret replies (bucket_of placed rank) h.document
    >>= λ r. records_read s secret replies placed (rank + 1) hs >>= λ rs. Ok (r ∷ rs)

-- ---- the picked document

-- the text at a place, from the opened bin
unfoldable pub text_read : List ℤ → List Ciphertext → Place → Result (List ℕ) SearchFault
text_read secret replies p =
    opened_bytes Document 0 (opened_reply secret replies)
    >>= λ bytes. Ok (take p.length (drop p.offset bytes))

-- the record of the pick-th hit, counted from 1
abbrev pub picked_record : List Record → ℕ → Option Record
picked_record records pick = if pick == 0 then None else slice_get records (pick - 1)

-- the picked document's number and text; where none is picked nothing is read
abbrev pub picked_read : List ℤ → List Ciphertext → Option Record
    → Result (Option (ℕ × List ℕ)) SearchFault
picked_read secret replies None = Ok None
picked_read secret replies (Some r) =
    text_read secret replies r.place >>= λ text. Ok (Some (r.document, text))

-- the bin that is asked: that of the picked document, else the first
abbrev pub bin_asked : Option Record → ℕ
bin_asked None = 0
bin_asked (Some r) = r.place.bin

-- ---- what is shown

-- a hit with the title of its record
abbrev pub hit_shown : Ranked → Record → Hit
hit_shown h r = record { document = h.document; score = h.score; title = r.title }

-- hits with the titles of their records
abbrev pub hits_shown : List Ranked → List Record → List Hit
hits_shown [] rs = []
hits_shown (h ∷ hs) [] = []
hits_shown (h ∷ hs) (r ∷ rs) = hit_shown h r ∷ hits_shown hs rs
