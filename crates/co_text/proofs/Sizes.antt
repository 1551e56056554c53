-- Each term of a text has 1 to 64 bytes.
use Rattle.std.proofs.Common.{◌≡◌, ℕ, zero, suc, ◌≤◌, ◌<◌, Bool, true, false, cond, List, [], ◌∷◌, ◌++◌, length, map, refl, ap, inl, inr, arith}
use Rattle.std.specs.Prelude.{filter, chars, encode_utf8_all}
use Rattle.std.specs.List.{All, list_any}
use Rattle.std.proofs.lemmas.Bool.{leb-true, cases_lt}
use Rattle.std.proofs.lemmas.List.{length-append}
use Rattle.std.proofs.lemmas.Str.{length-le-encodes}
use Rattle.caseless.specs.Caseless.{default_case_fold}
use Rattle.caseless.proofs.CaselessLemmas.{default_case_fold-cons, full_fold-none, full_fold-some}
use Rattle.unicode_segmentation.specs.Segments.{has_alphanumeric, is_alphanumeric}
use Rattle.unicode_segmentation.specs.Word.{word_bounds}
use Rattle.co_text.specs.Terms.{HasSize, folded, is_short, terms}

-- ---- one term

one_of : (c : ℕ) (table full : List ℕ) → (length table < 1 → full ≡ c ∷ []) → (1 ≤ length table → full ≡ table) → 1 ≤ length full
one_of c table full none some = elim (cases_lt (length table) 1) [
  | inl less ↦ omega (arith, ap length (none less))
  | inr more ↦ omega (arith, ap length (some more))
]

longer : (xs ys zs : List ℕ) → zs ≡ xs ++ ys → 1 ≤ length xs → 1 ≤ length zs
longer xs ys zs is some = omega (arith, ap length is, length-append xs ys)

fold_some : (c : ℕ) (cs : List ℕ) → 1 ≤ length (default_case_fold (c ∷ cs))
fold_some c cs = longer _ _ _ (default_case_fold-cons c cs) (one_of c _ _ (full_fold-none c _ refl) (full_fold-some c _ refl))

folded_some : (w : List ℕ) → has_alphanumeric w ≡ true → 1 ≤ length (folded w)
unfolding has_alphanumeric folded
folded_some w is = step (chars w) is
  where
    step : (cs : List ℕ) → list_any is_alphanumeric cs ≡ true → 1 ≤ length (encode_utf8_all (default_case_fold cs))
    step [] h = absurd cc
    step (c ∷ cs) h = omega (arith, fold_some c cs, length-le-encodes (default_case_fold (c ∷ cs)))

-- ---- the terms of a text

sized_cons : (t : List ℕ) (ts : List (List ℕ)) → HasSize t → All HasSize ts → All HasSize (t ∷ ts)
sized_cons t ts here rest zero d h = here
sized_cons t ts here rest (suc i) d h = rest i d (omega arith)

keep_short : (t : List ℕ) (ts : List (List ℕ)) → 1 ≤ length t → All HasSize ts → (b : Bool) → is_short t ≡ b → All HasSize (cond b (t ∷ ts) ts)
keep_short t ts some all true is = sized_cons t ts (record { some = some; few = leb-true (length t) 64 is }) all
keep_short t ts some all false is = all

keep_word : (w : List ℕ) (ws : List (List ℕ)) → All HasSize (filter is_short (map folded ws)) → (b : Bool) → has_alphanumeric w ≡ b → All HasSize (filter is_short (map folded (cond b (w ∷ ws) ws)))
keep_word w ws all true is = keep_short (folded w) (filter is_short (map folded ws)) (folded_some w is) all (is_short (folded w)) refl
keep_word w ws all false is = all

words_sized : (ws : List (List ℕ)) → All HasSize (filter is_short (map folded (filter has_alphanumeric ws)))
words_sized [] = (λ i d h. absurd (omega arith))
words_sized (w ∷ ws) = keep_word w (filter has_alphanumeric ws) (words_sized ws) (has_alphanumeric w) refl

pub terms_sized : (text : List ℕ) → All HasSize (terms text)
terms_sized text = words_sized (word_bounds text)
