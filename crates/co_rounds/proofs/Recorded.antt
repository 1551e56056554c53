-- A document's record stands in each of its buckets, and its text where the record says.
use Rattle.std.proofs.Common.{◌≡◌, ℕ, zero, suc, ◌+◌, ◌-◌, ◌*◌, ◌/◌, ◌<◌, ◌≤◌, Bool, true, false, cond, eqb, ◌&&◌, refl, sym, ap, subst, ◌∙◌, arith, List, [], ◌∷◌, ◌++◌, length, get_or, take, drop, map, All, Option, Some, None, Ok}
use Rattle.std.specs.Prelude.{slice_get, position, nat_lt, nat_le}
use Rattle.std.specs.List.{Contains, range_with_len, list_any, position_or_len}
use Rattle.std.specs.Option.{unwrap_or}
use Rattle.std.proofs.lemmas.Bool.{eqb-true, ltb-false}
use Rattle.std.proofs.lemmas.Bool.Decides.{nat_tests}
use Rattle.std.proofs.lemmas.Option.{slice_get_within, get_or_from_slice_get, slice_get-get_or}
use Rattle.std.proofs.lemmas.List.{length-map, get_or-map, take_at, drop_at, drop-drop, take-take, drop-take, length-take, length-drop}
use Rattle.std.proofs.lemmas.List.Elements.{All-filter}
use Rattle.std.proofs.lemmas.List.FromFn.{length-range_with_len, get_or-range_with_len, length-map-range_with_len}
use Rattle.std.proofs.lemmas.List.Quantifiers.{position-Some}
use Rattle.std.proofs.lemmas.List.Folds.{list_any_none}
use Rattle.std.proofs.lemmas.List.Sums.{fails_before_first}
use Rattle.std.proofs.lemmas.Map.Keys.{any_passes_from_place}
use Rattle.std.proofs.Math.Nat.{mul-div_cancel}
use Rattle.co_noise.specs.Shapes.{Numbers, HasRanges}
use Rattle.co_noise.proofs.Ranges.{ranges}
use Rattle.co_bucket.specs.Lists.{bucket_count, candidates_of, listed, lists_of, may_stand}
use Rattle.co_bucket.specs.Rows.{records_a_row, rows_of}
use Rattle.co_bucket.specs.Bytes.{AreHeld, bucket_bytes}
use Rattle.co_bucket.proofs.Standing.{members, list_at, fewest_rows, row_within, there, chunks}
use Rattle.co_corpus.specs.declared.documents.Document.{Document}
use Rattle.co_text.specs.Titles.{IsTitle}
use Rattle.co_pack.specs.declared.packing.Place.{Place}
use Rattle.co_pack.specs.Packing.{place_at}
use Rattle.co_pack.specs.Records.{record_bytes, record_of}
use Rattle.co_pack.proofs.Spelling.{length-record_bytes, spelled_record}
use Rattle.co_pack.proofs.Inside.{inside_bin}
use Rattle.co_pir.specs.Tables.{piece, row_bytes}
use Rattle.co_library.specs.declared.settings.Settings.{Settings}
use Rattle.co_library.specs.Libraries.{Parts, IsLibrary}
use Rattle.co_library.specs.Publishing.{records_from, texts_of, start_of, IsLibraryOf}
use Rattle.co_rounds.specs.Serving.{record_at, bucket_documents, bucket_table}
use Rattle.co_rounds.specs.Placing.{place_in_bucket, document_row, document_start}
use Rattle.co_rounds.specs.Recording.{IsLibraryFor, ShowsDocument}

abbrev nil : Document
nil = record { title = []; text = [] }

-- ---- pieces of bytes

-- the record of a document, among those of all
record-at : (number : ℕ) (ds : List Document) (ps : List Place) (i : ℕ) → length ps ≡ length ds → All (λ d. length d.title ≤ 200) ds → i < length ds
    → record_at (records_from number ds ps) i ≡ record_bytes (number + i) (place_at ps i) (get_or ds i nil).title
record-at number [] ps i len short l = absurd (omega arith)
record-at number (d ∷ ds) [] i len short l = absurd (omega arith)
record-at number (d ∷ ds) (p ∷ ps) zero len short l =
    let none : 0 * 256 ≡ 0 = refl in
    let same : number ≡ number + 0 = omega arith in
    take_at (record_bytes number p d.title) (records_from (number + 1) ds ps) 256 (length-record_bytes number p d.title (short 0 nil (omega arith))) ∙ ap (λ (k : ℕ). record_bytes k p d.title) same
record-at number (d ∷ ds) (p ∷ ps) (suc i) len short l =
    let first = record_bytes number p d.title in
    let rest = records_from (number + 1) ds ps in
    let more : suc i * 256 ≡ 256 + i * 256 = omega arith in
    let same : (number + 1) + i ≡ number + suc i = omega arith in
    ap (λ (k : ℕ). take 256 (drop k (first ++ rest))) more ∙ ap (take 256) (sym (drop-drop (i * 256) 256 (first ++ rest)))
    ∙ ap (λ (ys : List ℕ). take 256 (drop (i * 256) ys)) (drop_at first rest 256 (length-record_bytes number p d.title (short 0 nil (omega arith))))
    ∙ record-at (number + 1) ds ps i (omega arith) (λ k x u. short (suc k) x (omega arith)) (omega arith)
    ∙ ap (λ (k : ℕ). record_bytes k (place_at ps i) (get_or ds i nil).title) same

-- a part of a piece is a part of the whole
part-of-piece : (size r at n : ℕ) (bytes : List ℕ) → at + n ≤ size → take n (drop at (piece size r bytes)) ≡ take n (drop (r * size + at) bytes)
part-of-piece size r at n bytes room =
    let rest : at + (size - at) ≡ size = omega arith in
    ap (λ (k : ℕ). take n (drop at (take k (drop (r * size) bytes)))) (sym rest)
    ∙ ap (take n) (drop-take at (size - at) (drop (r * size) bytes))
    ∙ take-take n (size - at) (drop at (drop (r * size) bytes)) (omega arith)
    ∙ ap (take n) (drop-drop at (r * size) bytes)

-- ---- the list of a bucket

-- where a number stands that is there
not_there : (p : ℕ → Bool) (xs : List ℕ) (b : Bool) → nat_lt (position_or_len p xs) (length xs) ≡ b → cond b (Some (position_or_len p xs)) None ≡ None → list_any p xs ≡ false
not_there p xs true less is = absurd cc
not_there p xs false over is = list_any_none p xs (λ k d h. fails_before_first p xs k d (omega (arith, ltb-false _ _ over)))

record Stands (xs : List ℕ) (d : ℕ) : Type 0 where
  pub within : unwrap_or (position (λ x. eqb x d) xs) 0 < length xs
  pub is : get_or xs (unwrap_or (position (λ x. eqb x d) xs) 0) 0 ≡ d

stands : (xs : List ℕ) (d : ℕ) → Contains xs d → Stands xs d
stands xs d has = step (position (λ x. eqb x d) xs) refl
  where
    itself : eqb d d ≡ true
    itself = grind (arith, nat_tests)

    any : list_any (λ x. eqb x d) xs ≡ true
    any = any_passes_from_place (λ x. eqb x d) xs has.0 d (slice_get-get_or xs has.0 d has.1 ∙ ap Some has.2) itself

    differ : false ≡ true → ⊥
    differ h = absurd cc

    step : (o : Option ℕ) → position (λ x. eqb x d) xs ≡ o → Stands xs d
    step None e = absurd (differ (sym (not_there (λ x. eqb x d) xs (nat_lt (position_or_len (λ x. eqb x d) xs) (length xs)) refl e) ∙ any))
    step (Some i) e =
        let at = position-Some (λ x. eqb x d) xs i 0 e in
        record {
          within = subst (λ (o : Option ℕ). unwrap_or o 0 < length xs) (sym e) at.0;
          is = subst (λ (o : Option ℕ). get_or xs (unwrap_or o 0) 0 ≡ d) (sym e) (eqb-true (get_or xs i 0) d at.1);
        }

all_range : (n : ℕ) → All (λ x. x < n) (range_with_len 0 n)
all_range n = λ i d u. let low : i < n = omega (arith, length-range_with_len 0 n) in subst (λ (x : ℕ). x < n) (sym (get_or-range_with_len 0 n i d low)) (omega arith)

-- a bucket lists documents that there are
pub listed_below : (s : Numbers) (bucket : ℕ) → All (λ d. d < s.documents) (bucket_documents s bucket)
listed_below s bucket = All-filter (may_stand s.salt (bucket_count s.hits) bucket) (λ x. x < s.documents) (range_with_len 0 s.documents) (all_range s.documents)

pub long_record : (i : ℕ) (records : List ℕ) → i * 256 + 256 ≤ length records → length (record_at records i) ≡ 256
long_record i records room = omega (arith, length-take 256 (drop (i * 256) records), length-drop (i * 256) records)

-- the records that a bucket lists fit its rows
pub are-held : (l : Parts) → IsLibrary l → (bucket : ℕ) → bucket < bucket_count l.shape.hits → AreHeld l.shape.degree l.shape.rows (record_at l.records) (bucket_documents l.shape bucket)
are-held l h bucket b =
    let s = l.shape in
    let has = ranges s h.published.good.ranges in
    let rows = fewest_rows s.degree s.documents s.hits s.salt in
    let inside : bucket < length (lists_of s.salt (bucket_count s.hits) s.documents) = omega (arith, b, length-map-range_with_len (listed s.salt (bucket_count s.hits) s.documents) 0 (bucket_count s.hits)) in
    record {
      exponent = has.degree.exponent;
      least = has.degree.least;
      most = has.degree.most;
      is = has.degree.is;
      each = λ i d u. long_record (get_or (bucket_documents s bucket) i d) l.records (omega (arith, listed_below s bucket i d u, h.records_full));
      few = subst (λ (r : ℕ). length (bucket_documents s bucket) ≤ r * records_a_row s.degree) (sym h.published.good.rows)
          (subst (λ (xs : List ℕ). length xs ≤ rows_of s.degree s.documents s.hits s.salt * records_a_row s.degree) (list_at s.salt (bucket_count s.hits) s.documents bucket b) (rows.holds bucket [] inside));
    }

module _ (documents : List Document) (settings : Settings) (l : Parts) (h : IsLibraryFor documents settings l) (bucket number : ℕ) (e : Document)
    (b : bucket < bucket_count l.shape.hits) (at : slice_get documents number ≡ Some e) (may : Contains (candidates_of l.shape.salt (bucket_count l.shape.hits) number) bucket) where
  is : IsLibraryOf documents settings l
  is = h.built.is

  has : HasRanges l.shape
  has = ranges l.shape h.built.good.published.good.ranges

  count : l.shape.documents ≡ length documents
  count = ap (λ (s : Numbers). s.documents) is.shape

  degree_is : l.shape.degree ≡ settings.degree
  degree_is = ap (λ (s : Numbers). s.degree) is.shape

  bins_are : l.shape.bins ≡ is.bin_count
  bins_are = ap (λ (s : Numbers). s.bins) is.shape

  inside : number < length documents
  inside = slice_get_within documents number e at

  document_is : get_or documents number nil ≡ e
  document_is = get_or_from_slice_get documents number e nil at

  -- ---- the row

  held : AreHeld l.shape.degree l.shape.rows (record_at l.records) (bucket_documents l.shape bucket)
  held = are-held l h.built.good bucket b

  found : Stands (bucket_documents l.shape bucket) number
  found = stands (bucket_documents l.shape bucket) number ((members l.shape.salt (bucket_count l.shape.hits) l.shape.documents bucket number).1 (omega (arith, count, inside), may))

  -- the record in its row is that of the document
  record_there : take 256 (drop (document_start l.shape bucket number) (row_bytes (bucket_table l bucket) (document_row l.shape bucket number))) ≡ record_at l.records number
  unfolding row_bytes
  record_there =
      let s = l.shape in
      let list = bucket_documents s bucket in
      let p = place_in_bucket s bucket number in
      ap (λ (size : ℕ). take 256 (drop (document_start s bucket number) (piece size (document_row s bucket number) (bucket_bytes s.degree s.rows (record_at l.records) list))))
      (sym (chunks s.degree s.rows (record_at l.records) list held))
      ∙ there s.degree s.rows (record_at l.records) list held p found.within
      ∙ ap (record_at l.records) found.is

  -- ---- the record

  texts : length (texts_of documents) ≡ length documents
  texts = length-map documents (λ d. d.text)

  text_at : get_or (texts_of documents) number [] ≡ e.text
  text_at = get_or-map (λ d. d.text) documents number nil [] inside ∙ ap (λ (d : Document). d.text) document_is

  packed_lengths : length (map length (texts_of documents)) ≡ length documents
  packed_lengths = length-map (texts_of documents) length ∙ texts

  length_is : (place_at is.places number).length ≡ length e.text
  length_is =
      is.packed.lengths_are number (omega (arith, packed_lengths, inside))
      ∙ get_or-map length (texts_of documents) number [] 0 (omega (arith, texts, inside))
      ∙ ap length text_at

  size_is : l.shape.chunks * (2 * l.shape.degree) ≡ is.size
  size_is =
      let chunks_are : l.shape.chunks ≡ is.size / (2 * settings.degree) = ap (λ (s : Numbers). s.chunks) is.shape in
      let some : 0 < 2 * settings.degree = omega (arith, degree_is, has.degree_low) in
      whole l.shape.chunks l.shape.degree settings.degree is.sized.pieces is.size degree_is some (chunks_are ∙ ap (λ (k : ℕ). k / (2 * settings.degree)) is.sized.multiple) is.sized.multiple
    where
      whole : (c n m k size : ℕ) → n ≡ m → 0 < 2 * m → c ≡ k * (2 * m) / (2 * m) → size ≡ k * (2 * m) → c * (2 * n) ≡ size
      whole c n m k size e z f g = (λ t. (f ∙ mul-div_cancel k z) t * (2 * e t)) ∙ sym g

  in_bin : (place_at is.places number).offset + (place_at is.places number).length ≤ is.size
  in_bin = inside_bin (map length (texts_of documents)) is.size is.places is.bin_count is.packed number (omega (arith, packed_lengths, inside))

  bin_below : (place_at is.places number).bin < l.shape.bins
  bin_below = subst (λ (m : ℕ). (place_at is.places number).bin < m) (sym bins_are) (is.packed.count.within number (omega (arith, is.packed.many, packed_lengths, inside)))

  read : record_of (record_at l.records number) ≡ Ok (record { document = number; place = place_at is.places number; title = e.title })
  read =
      let p = place_at is.places number in
      let none : 0 + number ≡ number = omega arith in
      let bytes : record_at l.records number ≡ record_bytes number p e.title =
      ap (λ (xs : List ℕ). record_at xs number) is.records
      ∙ record-at 0 documents is.places number (is.packed.many ∙ packed_lengths) (λ i d u. (h.corpus.each i d u).title.short) inside
      ∙ (λ t. record_bytes (none t) p (document_is t).title) in
      spelled_record (record_at l.records number) (record { document = number; place = p; title = e.title })
      (record {
        document = omega (arith, count, inside, has.documents_high);
        bin = omega (arith, bin_below, has.bins_high);
        offset = omega (arith, in_bin, size_is, has.bin_high);
        long = omega (arith, in_bin, size_is, has.bin_high);
        titled = subst (λ (d : Document). IsTitle d.title) document_is (h.corpus.each number nil inside).title;
      })
      bytes

  pub shows_document : ShowsDocument l bucket number e
  unfolding row_bytes
  shows_document =
      let s = l.shape in
      let p = place_at is.places number in
      record {
        row = row_within s.degree s.rows (record_at l.records) (bucket_documents s bucket) held (place_in_bucket s bucket number) found.within;
        place = p;
        read = ap record_of record_there ∙ read;
        within = tests p.bin s.bins (p.offset + p.length) (s.chunks * (2 * s.degree)) bin_below (omega (arith, in_bin, size_is));
        text =
            part-of-piece (s.chunks * (2 * s.degree)) p.bin p.offset p.length l.bins (omega (arith, in_bin, size_is))
            ∙ ap (λ (k : ℕ). take p.length (drop (p.bin * k + p.offset) l.bins)) size_is
            ∙ ap (λ (k : ℕ). take k (drop (start_of is.size p) l.bins)) (length_is ∙ sym (ap length text_at))
            ∙ is.bins.each number (omega (arith, texts, inside))
            ∙ text_at;
      }
    where
      tests : (a b c d : ℕ) → a < b → c ≤ d → (nat_lt a b && nat_le c d) ≡ true
      tests a b c d u v = grind (arith, nat_tests)
