-- What is read one step after another, up to the first fault.
use Rattle.std.proofs.Common.{◌≡◌, ℕ, ◌+◌, ◌*◌, ◌<◌, ◌≤◌, refl, sym, ap, subst, ◌∙◌, arith, false, ℤ, List, [], ◌∷◌, ◌++◌, length, get_or, take, drop, append_assoc, Option, Some, None, Result, Ok, Err}
use Rattle.std.proofs.lemmas.List.{append-nil, take_all, drop_all, drop_more}
use Rattle.std.proofs.lemmas.List.FromFn.{length-map-range_with_len, get_or-map-range_with_len}
use Rattle.co_link.specs.declared.messages.Target.TheVariants.{Meta, Document}
use Rattle.co_noise.specs.Shapes.{Numbers}
use Rattle.co_bfv.specs.Ciphertexts.{Ciphertext}
use Rattle.co_bucket.specs.Lists.{bucket_count}
use Rattle.co_bucket.specs.Bytes.{record_chunks}
use Rattle.co_bucket.proofs.Standing.{chunks}
use Rattle.co_pack.specs.declared.packing.Place.{Place}
use Rattle.co_pack.specs.declared.records.Record.{Record}
use Rattle.co_pack.specs.Records.{record_of}
use Rattle.co_pir.specs.Openings.{opened_reply}
use Rattle.co_text.specs.declared.ranks.Ranked.{Ranked}
use Rattle.co_wire.specs.Bodies.{SpellsCiphers}
use Rattle.co_rounds.specs.Placing.{no_hit, document_at, document_start, place_in_bucket}
use Rattle.co_rounds.specs.Recording.{bucket_replies}
use Rattle.co_client.specs.declared.fault.SearchFault.{SearchFault}
use Rattle.co_client.specs.Faults.{is_want, IsReadAs}
use Rattle.co_client.specs.Openings.{part_of}
use Rattle.co_client.specs.Placings.{place_asked, places_asked, HaveBuckets}
use Rattle.co_client.specs.Records.{◌>>=◌, opened_bytes, checked, record_read, records_read, bucket_of, text_read}

-- ---- one step after another

-- a fault of the first step is that of both
pub fault-first : {A B : Type 0} (r : Result A SearchFault) (f : A → Result B SearchFault) (fault : SearchFault) → (is_want fault ≡ false → r ≡ Err fault) → is_want fault ≡ false → (r >>= f) ≡ Err fault
fault-first r f fault h want = ap (λ x. x >>= f) (h want)

-- where the first step is done, both are read as the second
pub then-read : {A B : Type 0} (r : Result A SearchFault) (f : A → Result B SearchFault) (x : A) (result : Result B SearchFault) → r ≡ Ok x → IsReadAs result (f x) → IsReadAs result (r >>= f)
then-read r f x result e h = subst (λ w. IsReadAs result w) (sym (ap (λ y. y >>= f) e)) h

-- ---- the whole of a reply is one part

pub part-whole : (n count from : ℕ) (cs : List Ciphertext) (body : List ℕ) → from ≡ 0 → SpellsCiphers n count cs body → part_of from count cs ≡ cs
part-whole n count from cs body e h = ap (λ (k : ℕ). part_of k count cs) e ∙ take_all count cs (omega (arith, h.ciphers.count_is))

-- the record of a document that was asked of a bucket, where the row is opened to these bytes
pub record-then : (s shape : Numbers) (secret : List ℤ) (cs : List Ciphertext) (bucket document : ℕ) (row bytes : List ℕ) (result : Result Record SearchFault) → shape ≡ s → bytes ≡ take 256 (drop (document_start s bucket document) row)
    → opened_bytes Meta bucket (opened_reply secret (bucket_replies s cs bucket)) ≡ Ok row → IsReadAs result (checked shape document (record_of bytes)) → IsReadAs result (record_read s secret cs bucket document)
unfolding record_read
record-then s shape secret cs bucket document row bytes result a b opened h =
    then-read (opened_bytes Meta bucket (opened_reply secret (bucket_replies s cs bucket))) (λ x. checked s document (record_of (take 256 (drop (document_start s bucket document) x)))) row result opened
    (subst (λ (x : List ℕ). IsReadAs result (checked s document (record_of x))) b (subst (λ (x : Numbers). IsReadAs result (checked x document (record_of bytes))) a h))

pub record-fault : (s : Numbers) (secret : List ℤ) (cs : List Ciphertext) (bucket document : ℕ) (fault : SearchFault)
    → (is_want fault ≡ false → opened_bytes Meta bucket (opened_reply secret (bucket_replies s cs bucket)) ≡ Err fault) → is_want fault ≡ false → record_read s secret cs bucket document ≡ Err fault
unfolding record_read
record-fault s secret cs bucket document fault h =
    fault-first (opened_bytes Meta bucket (opened_reply secret (bucket_replies s cs bucket))) (λ x. checked s document (record_of (take 256 (drop (document_start s bucket document) x)))) fault h

-- the text at a place, where the bin is opened to these bytes
pub text-then : (secret : List ℤ) (cs : List Ciphertext) (p : Place) (bin text : List ℕ) → text ≡ take p.length (drop p.offset bin) → opened_bytes Document 0 (opened_reply secret cs) ≡ Ok bin → text_read secret cs p ≡ Ok text
unfolding text_read
text-then secret cs p bin text e opened =
    ap (λ (o : Result (List ℕ) SearchFault). o >>= (λ bytes. Ok (take p.length (drop p.offset bytes)))) opened ∙ ap (λ (x : List ℕ). Ok x) (sym e)

pub text-fault : (secret : List ℤ) (cs : List Ciphertext) (p : Place) (fault : SearchFault) → (is_want fault ≡ false → opened_bytes Document 0 (opened_reply secret cs) ≡ Err fault) → is_want fault ≡ false → text_read secret cs p ≡ Err fault
unfolding text_read
text-fault secret cs p fault h = fault-first (opened_bytes Document 0 (opened_reply secret cs)) (λ bytes. Ok (take p.length (drop p.offset bytes))) fault h

-- ---- what is opened of a reply, by the reader's own numbers

pub row-read : (result : Result (List ℕ) SearchFault) (s : Numbers) (used secret : List ℤ) (n count bucket : ℕ) (body : List ℕ) → n ≡ s.degree → count ≡ record_chunks s.degree → used ≡ secret
    → ((cs : List Ciphertext) (all : ℕ) → SpellsCiphers n all cs body → IsReadAs result (opened_bytes Meta bucket (opened_reply used (part_of (bucket * count) count cs))))
    → (cs : List Ciphertext) (all : ℕ) → SpellsCiphers s.degree all cs body → IsReadAs result (opened_bytes Meta bucket (opened_reply secret (bucket_replies s cs bucket)))
row-read result s used secret n count bucket body a b c h cs all spelled =
    subst (λ (k : ℕ). IsReadAs result (opened_bytes Meta bucket (opened_reply secret (part_of (bucket * k) k cs)))) b
    (subst (λ (x : List ℤ). IsReadAs result (opened_bytes Meta bucket (opened_reply x (part_of (bucket * count) count cs)))) c
    (h cs all (subst (λ (k : ℕ). SpellsCiphers k all cs body) (sym a) spelled)))

pub bin-read : (result : Result (List ℕ) SearchFault) (s : Numbers) (used secret : List ℤ) (n count : ℕ) (body : List ℕ) → n ≡ s.degree → count ≡ s.chunks → used ≡ secret
    → ((cs : List Ciphertext) (all : ℕ) → SpellsCiphers n all cs body → IsReadAs result (opened_bytes Document 0 (opened_reply used (part_of (0 * count) count cs))))
    → (cs : List Ciphertext) → SpellsCiphers s.degree s.chunks cs body → IsReadAs result (opened_bytes Document 0 (opened_reply secret cs))
bin-read result s used secret n count body a b c h cs spelled =
    let spelled' = subst (λ (k : ℕ). SpellsCiphers n k cs body) (sym b) (subst (λ (k : ℕ). SpellsCiphers k s.chunks cs body) (sym a) spelled) in
    subst (λ (x : List ℤ). IsReadAs result (opened_bytes Document 0 (opened_reply x cs))) c
    (subst (λ (ds : List Ciphertext). IsReadAs result (opened_bytes Document 0 (opened_reply used ds))) (part-whole n count (0 * count) cs body (omega arith) spelled') (h cs count spelled'))

-- ---- the bytes of a row have room for each of its records

-- ---- where the record of a placed hit stands

pub places-long : (s : Numbers) (hits : List Ranked) (placed : List (Option ℕ)) (places : List ℕ) → places ≡ places_asked s hits placed → length places ≡ bucket_count s.hits
places-long s hits placed places e = ap length e ∙ length-map-range_with_len (λ b. place_asked s hits (get_or placed b None) b) 0 (bucket_count s.hits)

pub place-there : (s : Numbers) (hits : List Ranked) (placed : List (Option ℕ)) (places : List ℕ) (rank bucket : ℕ) → HaveBuckets s hits placed → places ≡ places_asked s hits placed → rank < length hits → bucket ≡ bucket_of placed rank
    → get_or places bucket 0 ≡ place_in_bucket s bucket (document_at hits rank)
place-there s hits placed places rank bucket h e l is =
    let within : bucket < bucket_count s.hits = subst (λ (k : ℕ). k < bucket_count s.hits) (sym is) (h.within rank l) in
    let there : get_or placed bucket None ≡ Some rank = ap (λ (k : ℕ). get_or placed k None) is ∙ h.there rank l in
    ap (λ (ps : List ℕ). get_or ps bucket 0) e
    ∙ get_or-map-range_with_len (λ b. place_asked s hits (get_or placed b None) b) 0 (bucket_count s.hits) bucket bucket 0 within (omega arith)
    ∙ ap (λ (o : Option ℕ). place_asked s hits o bucket) there

-- ---- the records of hits by rank

join-front : (r : Result (List Record) SearchFault) (one : Record) (front : List Record)
    → ((r >>= (λ rs. Ok (one ∷ rs))) >>= (λ rs. Ok (front ++ rs))) ≡ (r >>= (λ rs. Ok ((front ++ one ∷ []) ++ rs)))
join-front (Ok rs) one front = ap (λ (x : List Record). Ok x) (sym (append_assoc front (one ∷ []) rs))
join-front (Err fault) one front = refl

module _ (s : Numbers) (secret : List ℤ) (body : List ℕ) (placed : List (Option ℕ)) (hits : List Ranked) where
  -- the records of the first hits are read, and those of the others are left
  abbrev pub AreReadTo : ℕ → List Record → Type 0
  AreReadTo rank front = (cs : List Ciphertext) (all : ℕ) → SpellsCiphers s.degree all cs body
      → records_read s secret cs placed 0 hits ≡ (records_read s secret cs placed rank (drop rank hits) >>= (λ rs. Ok (front ++ rs)))

  -- the record of the hit of a rank
  abbrev pub read-at : List Ciphertext → ℕ → Result Record SearchFault
  read-at cs rank = record_read s secret cs (bucket_of placed rank) (document_at hits rank)

  left-read : (rank : ℕ) (front : List Record) → rank < length hits → AreReadTo rank front → (cs : List Ciphertext) (all : ℕ) → SpellsCiphers s.degree all cs body
      → records_read s secret cs placed 0 hits
      ≡ ((read-at cs rank >>= (λ r. records_read s secret cs placed (rank + 1) (drop (rank + 1) hits) >>= (λ rs. Ok (r ∷ rs)))) >>= (λ rs. Ok (front ++ rs)))
  left-read rank front l h cs all spelled =
      h cs all spelled ∙ ap (λ (xs : List Ranked). records_read s secret cs placed rank xs >>= (λ rs. Ok (front ++ rs))) (drop_more hits rank no_hit l)

  pub more-read : (rank : ℕ) (front next : List Record) (one : Record) → rank < length hits → AreReadTo rank front → next ≡ front ++ one ∷ []
      → ((cs : List Ciphertext) (all : ℕ) → SpellsCiphers s.degree all cs body → read-at cs rank ≡ Ok one) → AreReadTo (rank + 1) next
  more-read rank front next one l h e is cs all spelled =
      left-read rank front l h cs all spelled
      ∙ ap (λ (o : Result Record SearchFault). (o >>= (λ r. records_read s secret cs placed (rank + 1) (drop (rank + 1) hits) >>= (λ rs. Ok (r ∷ rs)))) >>= (λ rs. Ok (front ++ rs))) (is cs all spelled)
      ∙ join-front (records_read s secret cs placed (rank + 1) (drop (rank + 1) hits)) one front
      ∙ ap (λ (x : List Record). records_read s secret cs placed (rank + 1) (drop (rank + 1) hits) >>= (λ rs. Ok (x ++ rs))) (sym e)

  pub all-read : (rank : ℕ) (front : List Record) → length hits ≤ rank → AreReadTo rank front → (cs : List Ciphertext) (all : ℕ) → SpellsCiphers s.degree all cs body → records_read s secret cs placed 0 hits ≡ Ok front
  all-read rank front l h cs all spelled =
      h cs all spelled ∙ ap (λ (xs : List Ranked). records_read s secret cs placed rank xs >>= (λ rs. Ok (front ++ rs))) (drop_all rank hits l) ∙ ap (λ (x : List Record). Ok x) (append-nil front)

  pub fault-read : (rank : ℕ) (front : List Record) (fault : SearchFault) → rank < length hits → AreReadTo rank front
      → ((cs : List Ciphertext) (all : ℕ) → SpellsCiphers s.degree all cs body → is_want fault ≡ false → read-at cs rank ≡ Err fault)
      → (cs : List Ciphertext) (all : ℕ) → SpellsCiphers s.degree all cs body → is_want fault ≡ false → records_read s secret cs placed 0 hits ≡ Err fault
  fault-read rank front fault l h is cs all spelled want =
      left-read rank front l h cs all spelled
      ∙ ap (λ (o : Result Record SearchFault). (o >>= (λ r. records_read s secret cs placed (rank + 1) (drop (rank + 1) hits) >>= (λ rs. Ok (r ∷ rs)))) >>= (λ rs. Ok (front ++ rs))) (is cs all spelled want)
