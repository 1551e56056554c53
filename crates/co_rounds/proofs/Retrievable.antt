-- What a client opens of a bucket or of the bins is the row that it asked.
use Rattle.std.proofs.Common.{◌≡◌, ℕ, zero, suc, ◌+◌, ◌-◌, ◌*◌, ◌/◌, ◌%◌, ◌<◌, ◌≤◌, Bool, true, false, cond, eqb, refl, sym, ap, subst, ◌∙◌, arith, ℤ, List, [], ◌∷◌, length, get_or, take, drop, replicate, All}
use Rattle.std.specs.List.{flat_map, range_with_len}
use Rattle.std.proofs.lemmas.List.{length-replicate, get_or-replicate, take_at, drop_at, drop-drop}
use Rattle.std.proofs.lemmas.List.Concat.{flat_map-cons}
use Rattle.std.proofs.lemmas.List.Elements.{All-head, All-tail}
use Rattle.std.proofs.lemmas.List.FromFn.{length-range_with_len, get_or-range_with_len, length-map-range_with_len, get_or-map-range_with_len}
use Rattle.co_math.specs.Parameters.{q, fresh_bound}
use Rattle.co_math.specs.Polynomials.{IsWrapped}
use Rattle.co_math.specs.Coefficients.{AreBelow, signed_coefficients}
use Rattle.co_math.specs.Logarithms.{log2_up}
use Rattle.co_ring.specs.Polynomials.{polynomial_of}
use Rattle.co_noise.specs.Shapes.{HasRanges, levels}
use Rattle.co_noise.specs.Bounds.{HasRoom, retrieve_bound}
use Rattle.co_noise.proofs.Ranges.{ranges}
use Rattle.co_bucket.specs.Lists.{bucket_count}
use Rattle.co_bucket.specs.Bytes.{row_size, record_chunks, bucket_bytes}
use Rattle.co_bucket.proofs.Standing.{long, chunks}
use Rattle.co_slots.specs.Payloads.{IsPayload}
use Rattle.co_slots.proofs.Spelling.{payload-bytes_unique}
use Rattle.co_bfv.specs.Ciphertexts.{Ciphertext, MeansWithin}
use Rattle.co_bfv.specs.Totals.{ciphertext_at}
use Rattle.co_bfv.proofs.Ternary.{secret-IsTernary}
use Rattle.co_switch.specs.Keys.{Keys}
use Rattle.co_pir.specs.Messages.{query_polynomial}
use Rattle.co_pir.specs.Tables.{Table, IsTable, row_bytes}
use Rattle.co_pir.specs.Replies.{retrieved}
use Rattle.co_pir.specs.Expansions.{expanded}
use Rattle.co_pir.specs.Meanings.{AsksRow, CanRetrieve, MeansBytes}
use Rattle.co_pir.specs.Openings.{opened_reply}
use Rattle.co_pir.proofs.Retrieved.{retrieved_means}
use Rattle.co_pir.proofs.Gathering.{table_reply-degrees, length-table_reply, piece-below}
use Rattle.co_pir.proofs.Revealing.{opened-means, below-append}
use Rattle.co_library.specs.Libraries.{Parts, IsLibrary}
use Rattle.co_rounds.specs.Serving.{record_at, bucket_documents, bucket_table, bin_table, gathered}
use Rattle.co_rounds.specs.Recording.{CanBeOpened, AsksFor, byte_of, bytes_of, bucket_replies}
use Rattle.co_rounds.proofs.Recorded.{are-held, listed_below, long_record}

-- ---- payloads

pub payload_small : (bytes coeffs : List ℕ) → IsPayload bytes coeffs → AreBelow 65536 coeffs
payload_small bytes coeffs h k l = omega (arith, h.each k l, h.below (2 * k) (omega (arith, h.len)), h.below (2 * k + 1) (omega (arith, h.len)))

-- the bytes that are read are those of a payload
are_payload : (coeffs : List ℕ) → AreBelow 65536 coeffs → IsPayload (bytes_of coeffs) coeffs
are_payload coeffs small = record {
  len = length-map-range_with_len (byte_of coeffs) 0 (2 * length coeffs);
  below = λ i l.
      let low : i < 2 * length coeffs = omega (arith, length-map-range_with_len (byte_of coeffs) 0 (2 * length coeffs)) in
      subst (λ (x : ℕ). x < 256) (sym (get_or-map-range_with_len (byte_of coeffs) 0 (2 * length coeffs) i i 0 low (omega arith)))
      (either (eqb (i % 2) 0) (get_or coeffs (i / 2) 0) (small (i / 2) (omega arith)));
  each = λ k l.
      let even = get_or-map-range_with_len (byte_of coeffs) 0 (2 * length coeffs) (2 * k) (2 * k) 0 (omega arith) (omega arith) in
      let odd = get_or-map-range_with_len (byte_of coeffs) 0 (2 * length coeffs) (2 * k + 1) (2 * k + 1) 0 (omega arith) (omega arith) in
      parted (get_or coeffs k 0) ∙ (λ t. 256 * sym (even ∙ first k) t + sym (odd ∙ second k) t);
}
  where
    either : (b : Bool) (x : ℕ) → x < 65536 → cond b (x / 256) (x % 256) < 256
    either true x l = omega arith
    either false x l = omega arith

    parted : (x : ℕ) → x ≡ 256 * (x / 256) + x % 256
    parted x = omega arith

    first : (k : ℕ) → byte_of coeffs (2 * k) ≡ get_or coeffs k 0 / 256
    first k =
        let even : 2 * k % 2 ≡ 0 = omega arith in
        let half : 2 * k / 2 ≡ k = omega arith in
        (λ t. cond (eqb (even t) 0) (get_or coeffs (half t) 0 / 256) (get_or coeffs (half t) 0 % 256))

    second : (k : ℕ) → byte_of coeffs (2 * k + 1) ≡ get_or coeffs k 0 % 256
    second k =
        let odd : (2 * k + 1) % 2 ≡ 1 = omega arith in
        let half : (2 * k + 1) / 2 ≡ k = omega arith in
        (λ t. cond (eqb (odd t) 0) (get_or coeffs (half t) 0 / 256) (get_or coeffs (half t) 0 % 256))

pub bytes_read : (bytes coeffs : List ℕ) → IsPayload bytes coeffs → bytes_of coeffs ≡ bytes
bytes_read bytes coeffs h = payload-bytes_unique (bytes_of coeffs) bytes coeffs (are_payload coeffs (payload_small bytes coeffs h)) h

-- ---- tables

records-below : (records xs : List ℕ) (documents : ℕ) → AreBelow 256 records → All (λ d. d < documents) xs → length records ≡ documents * 256 → AreBelow 256 (flat_map (record_at records) xs)
records-below records [] documents h below full = λ i l. absurd (omega arith)
records-below records (x ∷ xs) documents h below full =
    let room : x * 256 + 256 ≤ length records = omega (arith, All-head (λ d. d < documents) x xs below, full) in
    subst (AreBelow 256) (sym (flat_map-cons (record_at records) x xs))
    (below-append 256 (record_at records x) (flat_map (record_at records) xs)
    (λ i l. piece-below 256 x i records h room (long_enough x i room l))
    (records-below records xs documents h (All-tail (λ d. d < documents) x xs below) full))
  where
    long_enough : (x i : ℕ) → x * 256 + 256 ≤ length records → i < length (record_at records x) → i < 256
    long_enough x i room l = omega (arith, l, long_record x records room)

zeros-below : (n : ℕ) → AreBelow 256 (replicate n 0)
zeros-below n i l = subst (λ (x : ℕ). x < 256) (sym (get_or-replicate n i 0 0 (omega (arith, length-replicate {A = ℕ} n 0)))) (omega arith)

module _ (l : Parts) (library : IsLibrary l) (room : HasRoom l.shape) where
  has_ranges : HasRanges l.shape
  has_ranges = ranges l.shape library.published.good.ranges

  pub is-bucket_table : (bucket : ℕ) → bucket < bucket_count l.shape.hits → IsTable (bucket_table l bucket)
  unfolding bucket_bytes
  is-bucket_table bucket b =
      let s = l.shape in
      let xs = bucket_documents s bucket in
      let held = are-held l library bucket b in
      record {
        degree = has_ranges.degree;
        some = has_ranges.rows_low;
        few = room.rows;
        len = long s.degree s.rows (record_at l.records) xs held ∙ ap (λ (k : ℕ). s.rows * k) (chunks s.degree s.rows (record_at l.records) xs held);
        below = below-append 256 (flat_map (record_at l.records) xs) (replicate (s.rows * row_size s.degree - length (flat_map (record_at l.records) xs)) 0)
            (records-below l.records xs s.documents library.record_bytes (listed_below s bucket) library.records_full) (zeros-below (s.rows * row_size s.degree - length (flat_map (record_at l.records) xs)));
      }

  pub is-bin_table : IsTable (bin_table l)
  is-bin_table = record {
    degree = has_ranges.degree;
    some = has_ranges.bins_low;
    few = room.bins;
    len = library.bins_full ∙ regrouped l.shape.bins l.shape.chunks (2 * l.shape.degree);
    below = library.bin_bytes;
  }
    where
      regrouped : (a b c : ℕ) → a * b * c ≡ a * (b * c)
      regrouped a b c = omega arith

-- ---- replies of buckets, one after another

-- the values of one of some numbers, among those of all
part-at : {A : Type 0} (f : ℕ → List A) (size : ℕ) (xs : List ℕ) (i : ℕ) → ((x : ℕ) → length (f x) ≡ size) → i < length xs → take size (drop (i * size) (flat_map f xs)) ≡ f (get_or xs i 0)
part-at f size [] i len l = absurd (omega arith)
part-at {A = A} f size (x ∷ xs) zero len l =
    let none : 0 * size ≡ 0 = omega arith in
    ap (λ (k : ℕ). take size (drop k (flat_map f (x ∷ xs)))) none ∙ ap (take size) (flat_map-cons f x xs) ∙ take_at (f x) (flat_map f xs) size (len x)
part-at {A = A} f size (x ∷ xs) (suc i) len l =
    let more : suc i * size ≡ size + i * size = omega arith in
    ap (λ (k : ℕ). take size (drop k (flat_map f (x ∷ xs)))) more ∙ ap (take size) (sym (drop-drop (i * size) size (flat_map f (x ∷ xs))))
    ∙ ap (λ (ys : List A). take size (drop (i * size) (drop size ys))) (flat_map-cons f x xs)
    ∙ ap (λ (ys : List A). take size (drop (i * size) ys)) (drop_at (f x) (flat_map f xs) size (len x))
    ∙ part-at f size xs i len (omega arith)

pub gathered-at : (l : Parts) (keys : Keys) (queries : List Ciphertext) (bucket : ℕ) → bucket < bucket_count l.shape.hits
    → bucket_replies l.shape (gathered l keys queries) bucket ≡ retrieved (bucket_table l bucket) keys (ciphertext_at queries bucket)
unfolding gathered
gathered-at l keys queries bucket b =
    let count = bucket_count l.shape.hits in
    let f = λ (x : ℕ). retrieved (bucket_table l x) keys (ciphertext_at queries x) in
    part-at f (record_chunks l.shape.degree) (range_with_len 0 count) bucket (λ x. length-table_reply (bucket_table l x) (expanded keys (ciphertext_at queries x) (log2_up l.shape.rows))) (omega (arith, b, length-range_with_len 0 count))
    ∙ ap f (get_or-range_with_len 0 count bucket 0 b ∙ omega arith)

-- ---- what is opened

module _ (l : Parts) (secret : List ℤ) (keys : Keys) (h : CanBeOpened l secret keys) where
  wrapped : IsWrapped l.shape.degree (signed_coefficients secret)
  wrapped = subst (λ (n : ℕ). IsWrapped n (signed_coefficients secret)) h.degree (secret-IsTernary secret h.is_secret).wrapped

  module _ (t : Table) (query : Ciphertext) (row : ℕ) (table : IsTable t) (degree : t.degree ≡ l.shape.degree) (enough : log2_up t.rows ≤ length keys.expansions)
      (asks : AsksFor l.shape.degree secret query t.rows row) where
    -- what a table's reply means
    pub table_means : MeansBytes t.degree (signed_coefficients secret) (retrieved t keys query) (row_bytes t row) (retrieve_bound t.degree t.rows)
    table_means =
        let s = signed_coefficients secret in
        let can : CanRetrieve t keys query = record {
          table = table;
          key_set = h.keys_for.set;
          whole = asks.cipher;
          query_degree = asks.degree ∙ sym degree;
          keys_of_degree = h.keys_for.degree ∙ sym degree;
          enough_keys = enough;
        } in
        let asks_row : AsksRow s keys query t.rows row = record {
          secret = subst (λ (k : ℕ). IsWrapped k s) (sym asks.degree) wrapped;
          good = h.good.expansions;
          within = asks.within;
          asks = subst (λ (k : ℕ). MeansWithin s query (polynomial_of (query_polynomial k t.rows row)) fresh_bound) (sym asks.degree) asks.fresh;
        } in
        retrieved_means t keys query can s row asks_row

    -- what it opens to
    opened : 2 * retrieve_bound t.degree t.rows < q → IsPayload (row_bytes t row) (opened_reply secret (retrieved t keys query))
    opened fits =
        opened-means secret (retrieved t keys query) t.degree (retrieve_bound t.degree t.rows) (row_bytes t row) (table_reply-degrees t (expanded keys query (log2_up t.rows)) (retrieved t keys query) refl)
        table_means fits

  rows_keys : log2_up l.shape.rows ≤ length keys.expansions
  unfolding levels
  rows_keys = omega (arith, h.keys_for.level_count)

  bins_keys : log2_up l.shape.bins ≤ length keys.expansions
  unfolding levels
  bins_keys = omega (arith, h.keys_for.level_count)

  pub bucket_opened : (queries : List Ciphertext) (bucket row : ℕ) → bucket < bucket_count l.shape.hits → AsksFor l.shape.degree secret (ciphertext_at queries bucket) l.shape.rows row
      → IsPayload (row_bytes (bucket_table l bucket) row) (opened_reply secret (bucket_replies l.shape (gathered l keys queries) bucket))
  bucket_opened queries bucket row b asks =
      subst (λ (cs : List Ciphertext). IsPayload (row_bytes (bucket_table l bucket) row) (opened_reply secret cs)) (sym (gathered-at l keys queries bucket b))
      (opened (bucket_table l bucket) (ciphertext_at queries bucket) row (is-bucket_table l h.library h.room bucket b) refl rows_keys asks h.room.records_fit)

  pub bin_opened : (query : Ciphertext) (bin : ℕ) → AsksFor l.shape.degree secret query l.shape.bins bin → IsPayload (row_bytes (bin_table l) bin) (opened_reply secret (retrieved (bin_table l) keys query))
  bin_opened query bin asks = opened (bin_table l) query bin (is-bin_table l h.library h.room) refl bins_keys asks h.room.bins_fit
