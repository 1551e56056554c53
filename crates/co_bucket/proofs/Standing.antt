-- Which documents a list has, and where their records stand.
use Rattle.std.proofs.Common.{◌≡◌, ◌+◌, ◌-◌, ◌*◌, ◌/◌, ◌%◌, ◌^◌, ◌<◌, ◌≤◌, ◌↔◌, ◌&&◌, ◌||◌, ℕ, zero, suc, Bool, true, false, eqb, List, [], ◌∷◌, ◌++◌, length, length-append, get_or, take, drop, replicate, refl, sym, ap, ◌∙◌, subst, ⊎_elim, arith, append_assoc}
use Rattle.std.specs.List.{All, Contains, flat_map, list_any, range_with_len}
use Rattle.std.specs.List.Sorted.{IsStrictlyIncreasing}
use Rattle.std.proofs.lemmas.Bool.{eqb-true, cases_lt}
use Rattle.std.proofs.lemmas.Bool.Decides.{nat_tests}
use Rattle.std.proofs.lemmas.Cmp.{nat_eq_equiv}
use Rattle.std.proofs.lemmas.List.{take_at, drop_at, drop-drop, take-take, drop-take, length-replicate}
use Rattle.std.proofs.lemmas.List.Concat.{flat_map-cons}
use Rattle.std.proofs.lemmas.List.Elements.{Contains-get_or, All-head, All-tail}
use Rattle.std.proofs.lemmas.List.FromFn.{length-range_with_len, get_or-range_with_len, get_or-map-range_with_len}
use Rattle.std.proofs.lemmas.List.Kept.{IsStrictlyIncreasing-filter}
use Rattle.std.proofs.lemmas.Map.Made.{is_member-filter}
use Rattle.std.proofs.lemmas.Map.Views.{Contains-from_any, list_any-from_Contains}
use Rattle.std.proofs.Math.Nat.{div-add-mod', mod-lt, mul-le-mul_right, div-mul-le_self}
use Rattle.co_bucket.specs.Lists.{is_in, may_stand, candidates_of, listed, lists_of}
use Rattle.co_bucket.specs.Rows.{records_a_row, row_count, rows_of, IsRowCount}
use Rattle.co_bucket.specs.Bytes.{row_size, record_chunks, bucket_bytes, row_of, record_row, record_start, AreHeld}
use Rattle.co_bucket.proofs.Counting.{fewest}
use Rattle.co_bucket.specs.Lists.{bucket_count}

-- ---- lists

flipped : (row : List ℕ) (b : ℕ) → is_in row b ≡ list_any (eqb b) row
flipped [] b = refl
flipped (x ∷ row) b = let turned : eqb x b ≡ eqb b x = grind (arith, nat_tests) in ap (λ t. t || is_in row b) turned ∙ ap (λ t. eqb b x || t) (flipped row b)

both_true : (a b : Bool) → (a && b) ≡ true → (a ≡ true) × (b ≡ true)
both_true true b is = (refl, is)
both_true false b is = absurd cc

any_listed : (salt buckets documents bucket d : ℕ) → list_any (eqb d) (listed salt buckets documents bucket) ≡ (list_any (eqb d) (range_with_len 0 documents) && may_stand salt buckets bucket d)
any_listed salt buckets documents bucket d =
    is_member-filter nat_eq_equiv (may_stand salt buckets bucket) d (λ x e. ap (may_stand salt buckets bucket) (eqb-true d x e)) (range_with_len 0 documents)

in_range : (documents d : ℕ) → Contains (range_with_len 0 documents) d → d < documents
in_range documents d has =
    let low : has.0 < documents = omega (arith, has.1, length-range_with_len 0 documents) in
    omega (arith, low, has.2, get_or-range_with_len 0 documents has.0 d low)

has_all : (documents d : ℕ) → d < documents → Contains (range_with_len 0 documents) d
has_all documents d low =
    let at : get_or (range_with_len 0 documents) d 0 ≡ d = get_or-range_with_len 0 documents d 0 low ∙ omega arith in
    subst (Contains (range_with_len 0 documents)) at (Contains-get_or (range_with_len 0 documents) d 0 (omega (arith, length-range_with_len 0 documents)))

pub members : (salt buckets documents bucket d : ℕ) → Contains (listed salt buckets documents bucket) d ↔ ((d < documents) × Contains (candidates_of salt buckets d) bucket)
members salt buckets documents bucket d = (
  (λ has.
      let both = both_true (list_any (eqb d) (range_with_len 0 documents)) (may_stand salt buckets bucket d)
      (sym (any_listed salt buckets documents bucket d) ∙ list_any-from_Contains nat_eq_equiv d (listed salt buckets documents bucket) has) in (
        in_range documents d (Contains-from_any eqb-true d (range_with_len 0 documents) both.0),
        Contains-from_any eqb-true bucket (candidates_of salt buckets d) (sym (flipped (candidates_of salt buckets d) bucket) ∙ both.1),
      )),
  (λ p.
      let there : list_any (eqb d) (range_with_len 0 documents) ≡ true = list_any-from_Contains nat_eq_equiv d (range_with_len 0 documents) (has_all documents d p.0) in
      let may : may_stand salt buckets bucket d ≡ true = flipped (candidates_of salt buckets d) bucket ∙ list_any-from_Contains nat_eq_equiv bucket (candidates_of salt buckets d) p.1 in
      Contains-from_any eqb-true d (listed salt buckets documents bucket) (any_listed salt buckets documents bucket d ∙ (λ t. there t && may t))),
)

range_rises : (n : ℕ) → IsStrictlyIncreasing (range_with_len 0 n)
range_rises n k below =
    let low : k + 1 < n = omega (arith, below, length-range_with_len 0 n) in
    omega (arith, get_or-range_with_len 0 n k 0 (omega arith), get_or-range_with_len 0 n (k + 1) 0 low)

pub ascends : (salt buckets documents bucket : ℕ) → IsStrictlyIncreasing (listed salt buckets documents bucket)
ascends salt buckets documents bucket = IsStrictlyIncreasing-filter (may_stand salt buckets bucket) (range_with_len 0 documents) (range_rises documents)

pub list_at : (salt buckets documents bucket : ℕ) → bucket < buckets → get_or (lists_of salt buckets documents) bucket [] ≡ listed salt buckets documents bucket
list_at salt buckets documents bucket below = get_or-map-range_with_len (listed salt buckets documents) 0 buckets bucket bucket [] below (omega arith)

-- ---- rows

pub fewest_rows : (degree documents hits salt : ℕ) → IsRowCount (lists_of salt (bucket_count hits) documents) (records_a_row degree) (rows_of degree documents hits salt)
unfolding rows_of row_count
fewest_rows degree documents hits salt = fewest (lists_of salt (bucket_count hits) documents) (records_a_row degree) _ (omega arith) refl

-- ---- pieces of one size, one after another

first_piece : {A : Type 0} (size : ℕ) (x rest : List A) → length x ≡ size → take size (drop (0 * size) (x ++ rest)) ≡ x
first_piece size x rest len =
    let none : 0 * size ≡ 0 = omega arith in
    ap (λ (k : ℕ). take size (drop k (x ++ rest))) none ∙ take_at x rest size len

later_piece : {A : Type 0} (size i : ℕ) (x rest : List A) → length x ≡ size → take size (drop (suc i * size) (x ++ rest)) ≡ take size (drop (i * size) rest)
later_piece {A = A} size i x rest len =
    let more : suc i * size ≡ size + i * size = omega arith in
    ap (λ (k : ℕ). take size (drop k (x ++ rest))) more ∙ ap (take size) (sym (drop-drop (i * size) size (x ++ rest)))
    ∙ ap (λ (ys : List A). take size (drop (i * size) ys)) (drop_at x rest size len)

piece : {A : Type 0} (f : ℕ → List A) (size : ℕ) (xs : List ℕ) (tail : List A) (i : ℕ) → All (λ x. length (f x) ≡ size) xs → i < length xs
    → take size (drop (i * size) (flat_map f xs ++ tail)) ≡ f (get_or xs i 0)
piece f size [] tail i len below = absurd (omega arith)
piece {A = A} f size (x ∷ xs) tail zero len below =
    ap (λ (ys : List A). take size (drop (0 * size) ys)) (ap (λ (ys : List A). ys ++ tail) (flat_map-cons f x xs) ∙ append_assoc (f x) (flat_map f xs) tail)
    ∙ first_piece size (f x) (flat_map f xs ++ tail) (All-head (λ y. length (f y) ≡ size) x xs len)
piece {A = A} f size (x ∷ xs) tail (suc i) len below =
    ap (λ (ys : List A). take size (drop (suc i * size) ys)) (ap (λ (ys : List A). ys ++ tail) (flat_map-cons f x xs) ∙ append_assoc (f x) (flat_map f xs) tail)
    ∙ later_piece size i (f x) (flat_map f xs ++ tail) (All-head (λ y. length (f y) ≡ size) x xs len)
    ∙ piece f size xs tail i (All-tail (λ y. length (f y) ≡ size) x xs len) (omega arith)

pieces_long : {A : Type 0} (f : ℕ → List A) (size : ℕ) (xs : List ℕ) → All (λ x. length (f x) ≡ size) xs → length (flat_map f xs) ≡ length xs * size
pieces_long f size [] len = omega arith
pieces_long f size (x ∷ xs) len =
    ap length (flat_map-cons f x xs) ∙ length-append (f x) (flat_map f xs)
    ∙ (λ t. All-head (λ y. length (f y) ≡ size) x xs len t + pieces_long f size xs (All-tail (λ y. length (f y) ≡ size) x xs len) t) ∙ omega arith

part_of_row : (size r at n : ℕ) (bytes : List ℕ) → at + n ≤ size → take n (drop at (take size (drop (r * size) bytes))) ≡ take n (drop (r * size + at) bytes)
part_of_row size r at n bytes room =
    let rest : at + (size - at) ≡ size = omega arith in
    ap (λ (k : ℕ). take n (drop at (take k (drop (r * size) bytes)))) (sym rest)
    ∙ ap (take n) (drop-take at (size - at) (drop (r * size) bytes))
    ∙ take-take n (size - at) (drop at (drop (r * size) bytes)) (omega arith)
    ∙ ap (take n) (drop-drop at (r * size) bytes)

-- ---- records in rows

-- a row has the bytes of its records, and of its payloads
record AreWhole (degree : ℕ) : Type 0 where
  pub records : row_size degree ≡ records_a_row degree * 256
  pub chunks : row_size degree ≡ record_chunks degree * (2 * degree)

whole_at : (e : ℕ) → 4 ≤ e → e ≤ 12 → AreWhole (2 ^ e)
whole_at zero a b = absurd (omega arith)
whole_at (suc zero) a b = absurd (omega arith)
whole_at (suc (suc zero)) a b = absurd (omega arith)
whole_at (suc (suc (suc zero))) a b = absurd (omega arith)
whole_at (suc (suc (suc (suc zero)))) a b = record { records = refl; chunks = refl }
whole_at (suc (suc (suc (suc (suc zero))))) a b = record { records = refl; chunks = refl }
whole_at (suc (suc (suc (suc (suc (suc zero)))))) a b = record { records = refl; chunks = refl }
whole_at (suc (suc (suc (suc (suc (suc (suc zero))))))) a b = record { records = refl; chunks = refl }
whole_at (suc (suc (suc (suc (suc (suc (suc (suc zero)))))))) a b = record { records = refl; chunks = refl }
whole_at (suc (suc (suc (suc (suc (suc (suc (suc (suc zero))))))))) a b = record { records = refl; chunks = refl }
whole_at (suc (suc (suc (suc (suc (suc (suc (suc (suc (suc zero)))))))))) a b = record { records = refl; chunks = refl }
whole_at (suc (suc (suc (suc (suc (suc (suc (suc (suc (suc (suc zero))))))))))) a b = record { records = refl; chunks = refl }
whole_at (suc (suc (suc (suc (suc (suc (suc (suc (suc (suc (suc (suc zero)))))))))))) a b = record { records = refl; chunks = refl }
whole_at (suc (suc (suc (suc (suc (suc (suc (suc (suc (suc (suc (suc (suc x))))))))))))) a b = absurd (omega arith)

below_rows : (p n rows : ℕ) → p < rows * n → p / n < rows
below_rows p n rows u = ⊎_elim (λ v. v) (λ v. absurd (omega (arith, mul-le-mul_right n v, div-mul-le_self p n))) (cases_lt (p / n) rows)

module _ (degree rows : ℕ) (spelled : ℕ → List ℕ) (list : List ℕ) (h : AreHeld degree rows spelled list) where
  whole : AreWhole degree
  whole = subst AreWhole (sym h.is) (whole_at h.exponent h.least h.most)

  pub chunks : row_size degree ≡ record_chunks degree * (2 * degree)
  chunks = whole.chunks

  pub long : length (bucket_bytes degree rows spelled list) ≡ rows * row_size degree
  unfolding bucket_bytes
  long =
      let records = pieces_long spelled 256 list h.each in
      let zeros = length-replicate {A = ℕ} (rows * row_size degree - length (flat_map spelled list)) 0 in
      let size : rows * row_size degree ≡ rows * records_a_row degree * 256 = ap (λ (k : ℕ). rows * k) whole.records ∙ omega arith in
      let room : length list * 256 ≤ rows * records_a_row degree * 256 = mul-le-mul_right 256 h.few in
      length-append (flat_map spelled list) (replicate (rows * row_size degree - length (flat_map spelled list)) 0) ∙ omega (arith, records, zeros, size, room)

  pub row_within : (p : ℕ) → p < length list → record_row degree p < rows
  row_within p below = below_rows p (records_a_row degree) rows (omega (arith, below, h.few))

  pub there : (p : ℕ) → p < length list → take 256 (drop (record_start degree p) (row_of degree (record_row degree p) (bucket_bytes degree rows spelled list))) ≡ spelled (get_or list p 0)
  unfolding bucket_bytes
  there p below =
      let n = records_a_row degree in
      let some : 0 < records_a_row degree = omega arith in
      let last = mod-lt p some in
      part_of_row (row_size degree) (p / records_a_row degree) (256 * (p % records_a_row degree)) 256 (bucket_bytes degree rows spelled list) (omega (arith, whole.records, last))
      ∙ ap (λ (k : ℕ). take 256 (drop k (bucket_bytes degree rows spelled list)))
      (ap (λ (k : ℕ). p / records_a_row degree * k + 256 * (p % records_a_row degree)) whole.records ∙ gathered p (records_a_row degree) (p / records_a_row degree) (p % records_a_row degree) (div-add-mod' p (records_a_row degree)))
      ∙ piece spelled 256 list (replicate (rows * row_size degree - length (flat_map spelled list)) 0) p h.each below
    where
      gathered : (p n q r : ℕ) → q * n + r ≡ p → q * (n * 256) + 256 * r ≡ p * 256
      gathered p n q r e = omega (arith, ap (λ (k : ℕ). k * 256) e)
