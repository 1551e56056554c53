-- Which faults come of reading records and texts.
use Rattle.std.proofs.Common.{◌≡◌, ℕ, ◌+◌, ◌⊎◌, inl, inr, Bool, true, false, cond, eqb, refl, sym, subst, ⊎_elim, ℤ, List, [], ◌∷◌, take, drop, Option, Some, None, Result, Ok, Err}
use Rattle.std.specs.List.{position}
use Rattle.co_link.specs.declared.messages.Target.{Target}
use Rattle.co_link.specs.declared.messages.Target.TheVariants.{Meta, Document}
use Rattle.co_link.specs.declared.messages.Exchange.{Exchange}
use Rattle.co_noise.specs.Shapes.{Numbers}
use Rattle.co_bfv.specs.Ciphertexts.{Ciphertext}
use Rattle.co_pack.specs.declared.records.Record.{Record}
use Rattle.co_pack.specs.Records.{record_of}
use Rattle.co_pir.specs.Openings.{opened_reply}
use Rattle.co_text.specs.declared.ranks.Ranked.{Ranked}
use Rattle.co_rounds.specs.Placing.{document_start}
use Rattle.co_rounds.specs.Recording.{is_within_bins, bucket_replies}
use Rattle.co_client.specs.declared.fault.SearchFault.{SearchFault}
use Rattle.co_client.specs.declared.fault.SearchFault.TheVariants.{Link, WrongRecord, BadPlace, NotByte, BadRecord, OutOfMemory}
use Rattle.co_client.specs.Causes.{Search, IsCause, IsAnswered, HasBadRecord, HasBadText}
use Rattle.co_client.specs.Earlier.{begun}
use Rattle.co_client.specs.Faults.{is_want}
use Rattle.co_client.specs.Records.{◌>>=◌, bytes_or_fault, opened_bytes, checked, record_read, bucket_of, records_read, text_read, picked_read}

-- the faults that the bytes have which a target's replies open to: those of a record, or that of a text
pub data IsFound : Target → SearchFault → Type 0 where
  not_byte : {target : Target} (reply place : ℕ) → IsFound target (NotByte target reply place)
  wrong_record : (wanted found : ℕ) → IsFound Meta (WrongRecord wanted found)
  bad_place : (document : ℕ) → IsFound Meta (BadPlace document)
  bad_record : (document place : ℕ) → IsFound Meta (BadRecord document place)

-- none of them is the link's
abbrev Unlinked : SearchFault → Type 0
Unlinked Link = ⊥
Unlinked fault = Unit {0}

unlinked : {target : Target} {fault : SearchFault} → IsFound target fault → Unlinked fault
unlinked (not_byte reply place) = tt
unlinked (wrong_record wanted found) = tt
unlinked (bad_place document) = tt
unlinked (bad_record document place) = tt

pub not-link : {target : Target} → IsFound target Link → ⊥
not-link h = unlinked h

-- each fault of a result is such
abbrev Faults : {A : Type 0} → (SearchFault → Type 0) → Result A SearchFault → Type 0
Faults P (Ok x) = Unit {0}
Faults P (Err fault) = P fault

then-faults : {A B : Type 0} (P : SearchFault → Type 0) (r : Result A SearchFault) (f : A → Result B SearchFault) → Faults P r → ((x : A) → Faults P (f x)) → Faults P (r >>= f)
then-faults P (Ok x) f h g = g x
then-faults P (Err fault) f h g = h

opened-faults : (target : Target) (reply : ℕ) (coeffs : List ℕ) → Faults (IsFound target) (opened_bytes target reply coeffs)
unfolding opened_bytes
opened-faults target reply coeffs = step (position (λ x. eqb x 65536) coeffs)
  where
    step : (o : Option ℕ) → Faults (IsFound target) (bytes_or_fault target reply coeffs o)
    step None = tt
    step (Some place) = not_byte reply place

checked-faults : (s : Numbers) (document : ℕ) (r : Result Record ℕ) → Faults (IsFound Meta) (checked s document r)
checked-faults s document (Err place) = bad_record document place
checked-faults s document (Ok r) = step (eqb r.document document) (is_within_bins s r.place)
  where
    step : (b w : Bool) → Faults (IsFound Meta) (cond b (cond w (Ok r) (Err (BadPlace document))) (Err (WrongRecord document r.document)))
    step true true = tt
    step true false = bad_place document
    step false w = wrong_record document r.document

record-faults : (s : Numbers) (secret : List ℤ) (cs : List Ciphertext) (bucket document : ℕ) → Faults (IsFound Meta) (record_read s secret cs bucket document)
unfolding record_read
record-faults s secret cs bucket document =
    then-faults (IsFound Meta) (opened_bytes Meta bucket (opened_reply secret (bucket_replies s cs bucket))) (λ bytes. checked s document (record_of (take 256 (drop (document_start s bucket document) bytes))))
    (opened-faults Meta bucket (opened_reply secret (bucket_replies s cs bucket)))
    (λ bytes. checked-faults s document (record_of (take 256 (drop (document_start s bucket document) bytes))))

records-faults : (s : Numbers) (secret : List ℤ) (cs : List Ciphertext) (placed : List (Option ℕ)) (rank : ℕ) (hits : List Ranked) → Faults (IsFound Meta) (records_read s secret cs placed rank hits)
records-faults s secret cs placed rank [] = tt
records-faults s secret cs placed rank (h ∷ hs) =
    then-faults (IsFound Meta) (record_read s secret cs (bucket_of placed rank) h.document) (λ r. records_read s secret cs placed (rank + 1) hs >>= λ rs. Ok (r ∷ rs)) (record-faults s secret cs (bucket_of placed rank) h.document)
    (λ r. then-faults (IsFound Meta) (records_read s secret cs placed (rank + 1) hs) (λ rs. Ok (r ∷ rs)) (records-faults s secret cs placed (rank + 1) hs) (λ rs. tt))

pub read-fault : (s : Numbers) (secret : List ℤ) (cs : List Ciphertext) (placed : List (Option ℕ)) (hits : List Ranked) (fault : SearchFault) → records_read s secret cs placed 0 hits ≡ Err fault → IsFound Meta fault
read-fault s secret cs placed hits fault is = subst (λ (r : Result (List Record) SearchFault). Faults (IsFound Meta) r) is (records-faults s secret cs placed 0 hits)

picked-faults : (secret : List ℤ) (cs : List Ciphertext) (picked : Option Record) → Faults (IsFound Document) (picked_read secret cs picked)
unfolding text_read
picked-faults secret cs None = tt
picked-faults secret cs (Some r) =
    then-faults (IsFound Document) (text_read secret cs r.place) (λ text. Ok (Some (r.document, text)))
    (then-faults (IsFound Document) (opened_bytes Document 0 (opened_reply secret cs)) (λ bytes. Ok (take r.place.length (drop r.place.offset bytes)))
    (opened-faults Document 0 (opened_reply secret cs)) (λ bytes. tt))
    (λ text. tt)

-- ---- the causes of a search

record-cause : (run : Search) (es : List Exchange) {fault : SearchFault} → IsFound Meta fault → HasBadRecord run es fault → IsCause run es fault
record-cause run es (not_byte reply place) h = h
record-cause run es (wrong_record wanted found) h = h
record-cause run es (bad_place document) h = h
record-cause run es (bad_record document place) h = h

text-cause : (run : Search) (es : List Exchange) {fault : SearchFault} → IsFound Document fault → HasBadText run es fault → IsCause run es fault
text-cause run es (not_byte reply place) h = h

-- no answer comes of such a fault
pub record IsRefusal (run : Search) (es : List Exchange) (fault : SearchFault) : Type 0 where
  pub cause : IsCause run es fault
  pub open_end : IsAnswered (Err fault) → ⊥
  pub begun_is : (n : ℕ) → begun (Err fault) n ≡ n

found-refusal : (run : Search) (es : List Exchange) {target : Target} {fault : SearchFault} → IsFound target fault → IsCause run es fault → IsRefusal run es fault
found-refusal run es (not_byte reply place) cause = record { cause = cause; open_end = λ a. a; begun_is = λ n. refl }
found-refusal run es (wrong_record wanted found) cause = record { cause = cause; open_end = λ a. a; begun_is = λ n. refl }
found-refusal run es (bad_place document) cause = record { cause = cause; open_end = λ a. a; begun_is = λ n. refl }
found-refusal run es (bad_record document place) cause = record { cause = cause; open_end = λ a. a; begun_is = λ n. refl }

-- want of memory is free, and each other fault is the one that reading finds
pub want-or-not : (fault : SearchFault) → (fault ≡ OutOfMemory) ⊎ (is_want fault ≡ false)
want-or-not OutOfMemory = inl refl
want-or-not fault = inr refl

memory-refusal : (run : Search) (es : List Exchange) (fault : SearchFault) → fault ≡ OutOfMemory → IsRefusal run es fault
memory-refusal run es fault e = subst (IsRefusal run es) (sym e) (record { cause = tt; open_end = λ a. a; begun_is = λ n. refl })

pub record-refusal : (run : Search) (es : List Exchange) (s : Numbers) (secret : List ℤ) (cs : List Ciphertext) (placed : List (Option ℕ)) (hits : List Ranked) (fault : SearchFault)
    → (is_want fault ≡ false → records_read s secret cs placed 0 hits ≡ Err fault) → (records_read s secret cs placed 0 hits ≡ Err fault → HasBadRecord run es fault) → IsRefusal run es fault
record-refusal run es s secret cs placed hits fault h bad =
    ⊎_elim (λ e. memory-refusal run es fault e)
    (λ w.
    let is = h w in
    let of = read-fault s secret cs placed hits fault is in
    found-refusal run es of (record-cause run es of (bad is)))
    (want-or-not fault)

pub text-refusal : (run : Search) (es : List Exchange) (secret : List ℤ) (cs : List Ciphertext) (picked : Option Record) (fault : SearchFault)
    → (is_want fault ≡ false → picked_read secret cs picked ≡ Err fault) → (picked_read secret cs picked ≡ Err fault → HasBadText run es fault) → IsRefusal run es fault
text-refusal run es secret cs picked fault h bad =
    ⊎_elim (λ e. memory-refusal run es fault e)
    (λ w.
    let is = h w in
    let of : IsFound Document fault = subst (λ (r : Result (Option (ℕ × List ℕ)) SearchFault). Faults (IsFound Document) r) is (picked-faults secret cs picked) in
    found-refusal run es of (text-cause run es of (bad is)))
    (want-or-not fault)
