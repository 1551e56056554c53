-- The order of hits: documents by their scores.
use Rattle.std.specs.Prelude.{◌≡◌, ℕ, ◌+◌, ◌<◌, ◌==◌, min, nat_lt, if◌then◌else◌, false, List, [], ◌∷◌, length, take, count_by, slice_get, Some, All}
use Rattle.std.specs.List.{list_any}
use Rattle.std.specs.List.Sorted.{IsStrictlySortedBy}
use Rattle.std.specs.Ordering.{nat_cmp, ordering_then}
use Rattle.std.specs.declared.cmp.Ordering.{Ordering}
use Rattle.std.specs.declared.cmp.Ordering.TheVariants.{Less}
use Rattle.co_text.specs.Order.{in_order}
use Rattle.co_text.specs.declared.ranks.Ranked.{Ranked}

-- higher scores first, and of equal scores the lower number
abbrev pub hit_cmp : Ranked → Ranked → Ordering
hit_cmp a b = ordering_then (nat_cmp b.score a.score) (nat_cmp a.document b.document)

-- the documents of score at least 1, where the first score is that of the document with this number
abbrev pub scored : ℕ → List ℕ → List Ranked
scored number [] = []
scored number (s ∷ ss) =
    if nat_lt 0 s then record { document = number; score = s } ∷ scored (number + 1) ss
    else scored (number + 1) ss

-- the first so many of the documents of score at least 1, in the order of hits
unfoldable pub ranking : ℕ → List ℕ → List Ranked
ranking most scores = take most (in_order hit_cmp (scored 0 scores))

-- the document has this score, which is at least 1
pub record IsScored (scores : List ℕ) (r : Ranked) : Type 0 where
  pub score : slice_get scores r.document ≡ Some r.score
  pub some : 0 < r.score

-- what makes a list the ranking by these scores, of at most so many documents
pub record IsRanking (most : ℕ) (scores : List ℕ) (hits : List Ranked) : Type 0 where
  -- each has its score, which is at least 1
  pub scored : All (IsScored scores) hits
  -- by score downwards, then by number, so no document stands twice
  pub ordered : IsStrictlySortedBy hit_cmp hits
  -- there are as many as there may be, or all of score at least 1
  pub count : length hits ≡ min most (count_by (nat_lt 0) scores)
  -- a document of score at least 1 that is left out comes after each
  pub best : (r : Ranked) → IsScored scores r → list_any (λ h. h.document == r.document) hits
      ≡ false → All (λ h. hit_cmp h r ≡ Less) hits
