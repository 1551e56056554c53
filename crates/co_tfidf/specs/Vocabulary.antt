-- The vocabulary of a corpus.
use Rattle.std.specs.Prelude.{◌≡◌, ℕ, Bool, true, false, min, List, length, flat_map, take}
use Rattle.std.specs.List.{list_any}
use Rattle.std.specs.List.Sorted.{IsStrictlySortedBy}
use Rattle.std.specs.Str.{bytes_eq}
use Rattle.std.specs.Ordering.{nat_cmp, ordering_then}
use Rattle.std.specs.declared.cmp.Ordering.{Ordering}
use Rattle.std.specs.declared.cmp.Ordering.TheVariants.{Less}
use Rattle.std.specs.Cmp.Lexicographic.{slice_cmp}
use Rattle.co_text.specs.Terms.{terms}
use Rattle.co_corpus.specs.declared.documents.Document.{Document}
use Rattle.co_tfidf.specs.Counts.{document_frequency}
use Rattle.co_text.specs.Order.{in_order}

-- the distinct terms of a corpus, in the order of their bytes
unfoldable pub corpus_terms : List Document → List (List ℕ)
corpus_terms documents = in_order (slice_cmp nat_cmp) (flat_map (λ d. terms d.text) documents)

-- terms of more documents first, and of equally many the lower in bytes
abbrev pub rank_cmp : List Document → List ℕ → List ℕ → Ordering
rank_cmp documents v w =
    ordering_then (nat_cmp (document_frequency w documents) (document_frequency v documents))
    (slice_cmp nat_cmp v w)

-- the vocabulary of at most so many terms: the first of the terms by rank, in the order of their
-- bytes
unfoldable pub vocabulary : ℕ → List Document → List (List ℕ)
vocabulary most documents = in_order (slice_cmp nat_cmp)
    (take most (in_order (rank_cmp documents) (corpus_terms documents)))

-- the term is in the vocabulary
abbrev pub is_kept : ℕ → List Document → List ℕ → Bool
is_kept most documents w = list_any (bytes_eq w) (vocabulary most documents)

-- what makes a list of terms the vocabulary of at most so many terms
pub record IsVocabulary (most : ℕ) (documents : List Document) (ws : List (List ℕ)) : Type 0 where
  -- it ascends in bytes, so no term stands twice
  pub ascending : IsStrictlySortedBy (slice_cmp nat_cmp) ws
  -- its terms are terms of the corpus
  pub terms : (w : List ℕ) → list_any (bytes_eq w) ws ≡ true
      → list_any (bytes_eq w) (corpus_terms documents) ≡ true
  -- there are as many as there may be, or all
  pub count : length ws ≡ min most (length (corpus_terms documents))
  -- a term of the corpus outside comes after each term inside
  pub first : (v w : List ℕ) → list_any (bytes_eq v) ws ≡ true
      → list_any (bytes_eq w) (corpus_terms documents) ≡ true → list_any (bytes_eq w) ws ≡ false
      → rank_cmp documents v w ≡ Less
