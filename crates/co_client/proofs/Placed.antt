-- Where the records of placed hits stand.
use Rattle.std.proofs.Common.{◌≡◌, ℕ, ◌*◌, ◌<◌, ◌≤◌, refl, sym, subst, arith, eqb, List, [], ◌∷◌, length, get_or, map, replicate, Option, Some, None}
use Rattle.std.specs.List.{position, range_with_len}
use Rattle.std.specs.Option.{unwrap_or}
use Rattle.std.proofs.lemmas.List.{length-replicate}
use Rattle.std.proofs.lemmas.List.FromFn.{length-map-range_with_len}
use Rattle.std.proofs.lemmas.List.Quantifiers.{position-Some}
use Rattle.co_math.specs.Degrees.{IsDegree}
use Rattle.co_noise.specs.Shapes.{Numbers}
use Rattle.co_text.specs.declared.ranks.Ranked.{Ranked}
use Rattle.co_bucket.specs.Lists.{bucket_count, listed, lists_of}
use Rattle.co_bucket.specs.Rows.{records_a_row, rows_of}
use Rattle.co_bucket.specs.Bytes.{record_row, AreHeld}
use Rattle.co_bucket.proofs.Standing.{fewest_rows, list_at, row_within}
use Rattle.co_rounds.specs.Serving.{bucket_documents}
use Rattle.co_rounds.specs.Placing.{row_asked, rows_asked, place_in_bucket}
use Rattle.co_client.specs.Placings.{AreFree, place_asked, places_asked}

-- the rows hold the list of each bucket
held : (s : Numbers) (bucket : ℕ) → IsDegree s.degree → bucket < bucket_count s.hits → s.rows ≡ rows_of s.degree s.documents s.hits s.salt → AreHeld s.degree s.rows (λ d. replicate 256 0) (bucket_documents s bucket)
held s bucket d b is =
    let rows = fewest_rows s.degree s.documents s.hits s.salt in
    let inside : bucket < length (lists_of s.salt (bucket_count s.hits) s.documents) = omega (arith, b, length-map-range_with_len (listed s.salt (bucket_count s.hits) s.documents) 0 (bucket_count s.hits)) in
    record {
      exponent = d.exponent;
      least = d.least;
      most = d.most;
      is = d.is;
      each = λ i x u. length-replicate {A = ℕ} 256 0;
      few = subst (λ (r : ℕ). length (bucket_documents s bucket) ≤ r * records_a_row s.degree) (sym is)
          (subst (λ (xs : List ℕ). length xs ≤ rows_of s.degree s.documents s.hits s.salt * records_a_row s.degree) (list_at s.salt (bucket_count s.hits) s.documents bucket b) (rows.holds bucket [] inside));
    }

some_rows : (s : Numbers) → s.rows ≡ rows_of s.degree s.documents s.hits s.salt → 0 < s.rows
some_rows s is = omega (arith, is, (fewest_rows s.degree s.documents s.hits s.salt).some)

first_row : (n : ℕ) → record_row n 0 ≡ 0
first_row n = omega arith

pub row-none : (s : Numbers) → s.rows ≡ rows_of s.degree s.documents s.hits s.salt → record_row s.degree 0 < s.rows
row-none s is = subst (λ (r : ℕ). r < s.rows) (sym (first_row s.degree)) (some_rows s is)

pub row-there : (s : Numbers) (bucket document : ℕ) → IsDegree s.degree → bucket < bucket_count s.hits → s.rows ≡ rows_of s.degree s.documents s.hits s.salt → record_row s.degree (place_in_bucket s bucket document) < s.rows
row-there s bucket document d b is = step (position (λ x. eqb x document) (bucket_documents s bucket)) refl
  where
    step : (o : Option ℕ) → position (λ x. eqb x document) (bucket_documents s bucket) ≡ o → record_row s.degree (unwrap_or o 0) < s.rows
    step None e = row-none s is
    step (Some i) e = row_within s.degree s.rows (λ x. replicate 256 0) (bucket_documents s bucket) (held s bucket d b is) i (position-Some (λ x. eqb x document) (bucket_documents s bucket) i 0 e).0

-- the rows of the places are those that are asked
row-asked : (s : Numbers) (hits : List Ranked) (o : Option ℕ) (bucket : ℕ) → record_row s.degree (place_asked s hits o bucket) ≡ row_asked s hits o bucket
row-asked s hits None bucket = first_row s.degree
row-asked s hits (Some rank) bucket = refl

map-same : (f : ℕ → ℕ) (g h : ℕ → ℕ) → ((x : ℕ) → f (g x) ≡ h x) → (xs : List ℕ) → map f (map g xs) ≡ map h xs
map-same f g h e [] = refl
map-same f g h e (x ∷ xs) = λ t. e x t ∷ map-same f g h e xs t

pub rows-are : (s : Numbers) (hits : List Ranked) (placed : List (Option ℕ)) → map (record_row s.degree) (places_asked s hits placed) ≡ rows_asked s hits placed
rows-are s hits placed =
    map-same (record_row s.degree) (λ b. place_asked s hits (get_or placed b None) b) (λ b. row_asked s hits (get_or placed b None) b) (λ b. row-asked s hits (get_or placed b None) b) (range_with_len 0 (bucket_count s.hits))

pub rows-long : (s : Numbers) (hits : List Ranked) (placed : List (Option ℕ)) → length (rows_asked s hits placed) ≡ bucket_count s.hits
rows-long s hits placed = length-map-range_with_len (λ b. row_asked s hits (get_or placed b None) b) 0 (bucket_count s.hits)

-- where no bucket has a hit, the first row of each is asked
pub free-rows : (s : Numbers) (hits others : List Ranked) (placed : List (Option ℕ)) → AreFree (bucket_count s.hits) placed → rows_asked s hits placed ≡ rows_asked s others []
free-rows s hits others placed h = λ t. map (λ b. row_asked s hits (h.free b t) b) (range_with_len 0 (bucket_count s.hits))
