-- How many rows the lists need, and how many documents each bucket lists.
use Rattle.std.proofs.Common.{◌≡◌, ◌+◌, ◌*◌, ◌<◌, ◌≤◌, ◌^◌, ℕ, Bool, true, false, cond, List, [], ◌∷◌, length, length-append, ◌++◌, max, get_or, map, take, drop, drop-cons, replicate, add-one, zero, suc, refl, sym, ap, ◌∙◌, ⊎_elim, arith, if◌then◌else◌}
use Rattle.std.proofs.Math.Nat.{mul-le-mul_right}
use Rattle.std.specs.Int.{div_ceil}
use Rattle.std.specs.List.{All, filter, fold, range_with_len}
use Rattle.std.proofs.lemmas.Bool.{cases_lt}
use Rattle.std.proofs.lemmas.Grind.{div_ceil_times}
use Rattle.std.proofs.lemmas.List.{get_or_default, get_or-map, get_or-take, length-map, length-take, length-replicate, get_or-replicate, ext_get_or}
use Rattle.std.proofs.lemmas.List.FromFn.{length-range_with_len, length-map-range_with_len, get_or-map-range_with_len}
use Rattle.co_bucket.specs.Lists.{candidates_of, lists_of, listed, may_stand}
use Rattle.co_bucket.specs.Rows.{longest, IsRowCount}
use Rattle.co_bucket.specs.Filling.{contents, AreShort, IsStepped, IsCounted}
use Rattle.co_bucket.proofs.Stepping.{listed_more}
use Rattle.std.specs.declared.vec.Vec.{Vec}
use Rattle.std.specs.declared.alloc.Global.{Global}

-- ---- the greatest of some numbers

pub greatest_above : (a : ℕ) (xs : List ℕ) → a ≤ fold max a xs
greatest_above a [] = omega arith
greatest_above a (x ∷ xs) = omega (arith, greatest_above (max a x) xs)

pub greatest_within : (a : ℕ) (xs : List ℕ) (k : ℕ) → k < length xs → get_or xs k 0 ≤ fold max a xs
greatest_within a [] k below = absurd (omega arith)
greatest_within a (x ∷ xs) zero below = omega (arith, greatest_above (max a x) xs)
greatest_within a (x ∷ xs) (suc k) below = greatest_within (max a x) xs k (omega arith)

-- it is reached: what bounds a and each number bounds it
pub greatest_least : (a : ℕ) (xs : List ℕ) (bound : ℕ) → a ≤ bound → ((k : ℕ) → k < length xs → get_or xs k 0 ≤ bound) → fold max a xs ≤ bound
greatest_least a [] bound first each = first
greatest_least a (x ∷ xs) bound first each =
    let here : x ≤ bound = each 0 (omega arith) in
    greatest_least (max a x) xs bound (omega arith) (λ k below. each (suc k) (omega arith))

-- ---- the rows

-- so many rows are the fewest
pub fewest : (lists : List (List ℕ)) (per rows : ℕ) → 0 < per → rows ≡ max 1 (div_ceil (longest lists) per) → IsRowCount lists per rows
fewest lists per rows positive is =
    let most : ℕ = longest lists in
    let whole : ℕ = div_ceil most per in
    let both : (most ≤ whole * per) × (whole * per < most + per) = div_ceil_times most per positive in
    let over : whole ≤ rows = omega arith in
    let size : length (map length lists) ≡ length lists = length-map lists length in
    let read : (k : ℕ) → k < length lists → get_or (map length lists) k 0 ≡ length (get_or lists k []) = λ k below. get_or-map length lists k [] 0 below in
    record {
      some = omega arith;
      holds = λ k d below. rw (get_or_default lists k d [] below)
          (omega (arith, read k below, greatest_within 0 (map length lists) k (omega arith), both.0, mul-le-mul_right per over));
      least = λ fewer some holds.
          let enough : most ≤ fewer * per = greatest_least 0 (map length lists) (fewer * per) (omega arith) (λ k below. omega (arith, read k (omega arith), holds k [] (omega arith))) in
          ⊎_elim (λ (past : fewer < whole). let more : fewer + 1 ≤ whole = omega arith in absurd (omega (arith, both.1, enough, mul-le-mul_right per more)))
          (λ (within : whole ≤ fewer). omega arith)
          (cases_lt fewer whole);
    }

-- ---- the longest of some vectors

pub content_length : (vs : List (Vec ℕ Global)) (i : ℕ) (w : Vec ℕ Global) → i < length vs → w ≡ get_or vs i w → length (get_or (contents vs) i []) ≡ length w.items
content_length vs i w in_vs is = ap length (get_or-map (λ (v : Vec ℕ Global). v.items) vs i w [] in_vs ∙ ap (λ (v : Vec ℕ Global). v.items) (sym is))

pub short_at : (vs : List (Vec ℕ Global)) (i : ℕ) (w : Vec ℕ Global) → AreShort (contents vs) → i < length vs → w ≡ get_or vs i w → length w.items < 2 ^ 32
short_at vs i w short in_vs is =
    let size : length (contents vs) ≡ length vs = length-map vs (λ (v : Vec ℕ Global). v.items) in
    let few : length (get_or (contents vs) i []) < 2 ^ 32 = short i (omega arith) in
    omega (arith, content_length vs i w in_vs is)

pub longest_more : (vs : List (Vec ℕ Global)) (i most most' n : ℕ) (w : Vec ℕ Global) → i < length vs → w ≡ get_or vs i w → n ≡ length w.items → most' ≡ max most n
    → fold max most (drop i (map length (contents vs))) ≡ fold max most' (drop (i + 1) (map length (contents vs)))
longest_more vs i most most' n w in_vs is n_is most_is =
    let lengths : List ℕ = map length (contents vs) in
    let size : length (map length (contents vs)) ≡ length vs = length-map (contents vs) length ∙ length-map vs (λ (v : Vec ℕ Global). v.items) in
    let in_contents : i < length (contents vs) = omega (arith, length-map vs (λ (v : Vec ℕ Global). v.items)) in
    let here : get_or (map length (contents vs)) i 0 ≡ n = get_or-map length (contents vs) i [] 0 in_contents ∙ content_length vs i w in_vs is ∙ sym n_is in
    ap (fold max most) (drop-cons lengths i 0 (omega arith)) ∙ ap (λ x. fold max (max most x) (drop (suc i) lengths)) here
    ∙ ap (λ x. fold max x (drop (suc i) lengths)) (sym most_is) ∙ ap (λ j. fold max most' (drop j lengths)) (sym (add-one i))

-- ---- the lists are short

shorter : (b : Bool) (x : ℕ) (ys xs : List ℕ) → length ys ≤ length xs → length (cond b (x ∷ ys) ys) ≤ length (x ∷ xs)
shorter true x ys xs h = omega arith
shorter false x ys xs h = omega arith

filter_short : (p : ℕ → Bool) (xs : List ℕ) → length (filter p xs) ≤ length xs
filter_short p [] = omega arith
filter_short p (x ∷ xs) = shorter (p x) x (filter p xs) xs (filter_short p xs)

pub listed_few : (salt buckets documents bucket : ℕ) → length (listed salt buckets documents bucket) ≤ documents
listed_few salt buckets documents bucket = omega (arith, filter_short (may_stand salt buckets bucket) (range_with_len 0 documents), length-range_with_len 0 documents)

pub lists_short : (salt buckets documents : ℕ) → documents < 2 ^ 32 → AreShort (lists_of salt buckets documents)
lists_short salt buckets documents few k below =
    let size : length (lists_of salt buckets documents) ≡ buckets = length-map-range_with_len (listed salt buckets documents) 0 buckets in
    rw (get_or-map-range_with_len (listed salt buckets documents) 0 buckets k k [] (omega arith) (omega arith))
    (omega (arith, listed_few salt buckets documents k))

-- ---- counts

chosen_length : (b : Bool) (xs : List ℕ) (n : ℕ) → length (if b then xs ++ n ∷ [] else xs) ≡ (if b then length xs + 1 else length xs)
chosen_length true xs n = length-append xs (n ∷ [])
chosen_length false xs n = refl

-- before the first document nothing is counted
pub counted_none : (salt buckets n : ℕ) → buckets ≤ n → IsCounted salt buckets 0 (replicate n 0)
counted_none salt buckets n few = record {
  within = let long : length (replicate n 0) ≡ n = length-replicate {A = ℕ} n 0 in omega arith;
  each = λ k below. get_or-replicate n k 0 0 (omega arith);
}

pub counted_more : (salt buckets n : ℕ) (now now' : List ℕ) → IsCounted salt buckets n now → IsStepped 0 (λ k. k + 1) now (candidates_of salt buckets n) now' → IsCounted salt buckets (n + 1) now'
counted_more salt buckets n now now' is step = record {
  within = omega (arith, is.within, step.many);
  each = λ k below. step.each k (omega (arith, is.within)) ∙ ap (λ (x : ℕ). if may_stand salt buckets k n then x + 1 else x) (is.each k below)
      ∙ sym (ap length (listed_more salt buckets n k) ∙ chosen_length (may_stand salt buckets k n) (listed salt buckets n k) n);
}

-- a count before some documents is at most their number
pub counted_few : (salt buckets n : ℕ) (now row : List ℕ) → IsCounted salt buckets n now → All (λ b. b < buckets) row → All (λ b. get_or now b 0 ≤ n) row
counted_few salt buckets n now row is within k d below =
    let bucket : ℕ = get_or row k d in
    let in_buckets : get_or row k d < buckets = within k d below in
    omega (arith, is.each (get_or row k d) in_buckets, listed_few salt buckets n (get_or row k d))

pub counted_all : (salt buckets n : ℕ) (now : List ℕ) → IsCounted salt buckets n now → take buckets now ≡ map length (lists_of salt buckets n)
counted_all salt buckets n now is =
    let lists : List (List ℕ) = lists_of salt buckets n in
    let many : length (lists_of salt buckets n) ≡ buckets = length-map-range_with_len (listed salt buckets n) 0 buckets in
    let many' : length (map length (lists_of salt buckets n)) ≡ buckets = length-map (lists_of salt buckets n) length ∙ many in
    let front : length (take buckets now) ≡ buckets = length-take buckets now ∙ (let within : buckets ≤ length now = is.within in omega arith) in
    ext_get_or 0 (take buckets now) (map length (lists_of salt buckets n)) (front ∙ sym many') (λ k below.
    let in_buckets : k < buckets = omega arith in
    get_or-take buckets now k 0 in_buckets ∙ is.each k in_buckets
    ∙ sym (get_or-map length (lists_of salt buckets n) k [] 0 (omega arith) ∙ ap length (get_or-map-range_with_len (listed salt buckets n) 0 buckets k k [] in_buckets (omega arith))))
