-- Where the hit of a rank is placed.
use Rattle.std.proofs.Common.{◌≡◌, ℕ, ◌<◌, refl, sym, ap, subst, ◌∙◌, arith, Bool, true, false, cond, eqb, List, [], length, get_or, Option, Some, None}
use Rattle.std.specs.Prelude.{nat_lt, slice_index, slice_index_or}
use Rattle.std.specs.List.{position, position_or_len, Contains}
use Rattle.std.specs.Option.{unwrap_or}
use Rattle.std.proofs.lemmas.Bool.{ltb-false, eqb-true}
use Rattle.std.proofs.lemmas.Bool.Decides.{nat_tests}
use Rattle.std.proofs.lemmas.Option.{none-some}
use Rattle.std.proofs.lemmas.List.{length-map, get_or-map, get_or_past}
use Rattle.std.proofs.lemmas.List.Sums.{fails_before_first}
use Rattle.std.proofs.lemmas.List.Quantifiers.{position-Some}
use Rattle.std.proofs.lemmas.List.FromFn.{get_or-map-range_with_len}
use Rattle.co_noise.specs.Shapes.{Numbers}
use Rattle.co_text.specs.declared.ranks.Ranked.{Ranked}
use Rattle.co_bucket.specs.Lists.{bucket_count, candidates_of}
use Rattle.co_bucket.specs.Placement.{IsPlacement}
use Rattle.co_rounds.specs.Placing.{choices_of, CanBePlaced, no_hit, document_at, document_row, row_asked, rows_asked}
use Rattle.co_client.specs.Records.{is_placed_here, bucket_of}

-- nothing passes where nothing is found
none-here : (p : Option ℕ → Bool) (xs : List (Option ℕ)) (b : Bool) → nat_lt (position_or_len p xs) (length xs) ≡ b → cond b (Some (position_or_len p xs)) None ≡ None
    → (k : ℕ) → k < length xs → p (get_or xs k None) ≡ false
none-here p xs true less is k l = absurd cc
none-here p xs false over is k l = fails_before_first p xs k None (omega (arith, ltb-false _ _ over))

differ : (b : Bool) → b ≡ true → b ≡ false → ⊥
differ b e f = absurd cc

itself : (n : ℕ) → eqb n n ≡ true
itself n = grind (arith, nat_tests)

here_is : (rank : ℕ) (o : Option ℕ) → is_placed_here rank o ≡ true → o ≡ Some rank
here_is rank None e = absurd cc
here_is rank (Some i) e = ap (λ (k : ℕ). Some k) (eqb-true i rank e)

some_inside : (placed : List (Option ℕ)) (b rank : ℕ) → slice_index_or placed b None ≡ Some rank → b < length placed
some_inside placed b rank e = step (nat_lt b (length placed)) refl
  where
    step : (t : Bool) → nat_lt b (length placed) ≡ t → b < length placed
    step true u = grind (arith, nat_tests)
    step false u = absurd (none-some rank (sym (get_or_past placed b None (ltb-false b (length placed) u)) ∙ e))

module _ (s : Numbers) (hits : List Ranked) (placed : List (Option ℕ)) (p : IsPlacement (choices_of s hits) (bucket_count s.hits) placed) (rank : ℕ) (within : rank < length hits) where
  many : length (choices_of s hits) ≡ length hits
  many = length-map hits (λ (h : Ranked). candidates_of s.salt (bucket_count s.hits) h.document)

  low : rank < length (choices_of s hits)
  low = omega (arith, many, within)

  abbrev bucket : ℕ
  bucket = slice_index p.choices rank

  pub placed_there : slice_index_or placed (bucket_of placed rank) None ≡ Some rank
  placed_there = step (position (is_placed_here rank) placed) refl
    where
      there : slice_index_or placed bucket None ≡ Some rank
      there = p.places.each rank low

      step : (o : Option ℕ) → position (is_placed_here rank) placed ≡ o → slice_index_or placed (bucket_of placed rank) None ≡ Some rank
      step None e =
          absurd (differ (is_placed_here rank (get_or placed bucket None)) (ap (is_placed_here rank) there ∙ itself rank)
          (none-here (is_placed_here rank) placed (nat_lt (position_or_len (is_placed_here rank) placed) (length placed)) refl e bucket (some_inside placed bucket rank there)))
      step (Some i) e =
          let at = position-Some (is_placed_here rank) placed i None e in
          ap (λ (o : Option ℕ). slice_index_or placed (unwrap_or o 0) None) e ∙ here_is rank (get_or placed i None) at.1

  pub bucket_is : bucket_of placed rank ≡ slice_index p.choices rank
  bucket_is = sym (p.places.only (bucket_of placed rank) rank placed_there).1

  pub bucket_within : bucket_of placed rank < bucket_count s.hits
  bucket_within = omega (arith, some_inside placed (bucket_of placed rank) rank placed_there, p.each_bucket)

  -- it is one of the hit's buckets
  pub bucket_lists : Contains (candidates_of s.salt (bucket_count s.hits) (document_at hits rank)) (bucket_of placed rank)
  bucket_lists =
      subst (λ (b : ℕ). Contains (candidates_of s.salt (bucket_count s.hits) (document_at hits rank)) b) (sym bucket_is)
      (subst (λ (xs : List ℕ). Contains xs bucket) (get_or-map (λ (h : Ranked). candidates_of s.salt (bucket_count s.hits) h.document) hits rank no_hit [] within) (p.is_least.assigns.candidate rank low))

  -- and the row that is asked there is that of the hit's record
  pub row_is : get_or (rows_asked s hits placed) (bucket_of placed rank) 0 ≡ document_row s (bucket_of placed rank) (document_at hits rank)
  row_is =
      get_or-map-range_with_len (λ (b : ℕ). row_asked s hits (slice_index_or placed b None) b) 0 (bucket_count s.hits) (bucket_of placed rank) (bucket_of placed rank) 0 bucket_within (omega arith)
      ∙ ap (λ (o : Option ℕ). row_asked s hits o (bucket_of placed rank)) placed_there

-- hits that are placed can be placed
pub can_be_placed : (s : Numbers) (hits : List Ranked) (placed : List (Option ℕ)) → IsPlacement (choices_of s hits) (bucket_count s.hits) placed → CanBePlaced s hits
can_be_placed s hits placed p = record {
  choices = p.choices;
  assigns = record {
    candidate = λ i u. p.is_least.assigns.candidate i (omega (arith, u, length-map hits (λ (h : Ranked). candidates_of s.salt (bucket_count s.hits) h.document)));
    apart = λ i j u v. p.is_least.assigns.apart i j u (omega (arith, v, length-map hits (λ (h : Ranked). candidates_of s.salt (bucket_count s.hits) h.document)));
  };
}
