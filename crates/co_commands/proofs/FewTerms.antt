-- How many terms there are in words of a letter and digits with single spaces between them: at most one a word.
use Rattle.std.proofs.Common.{◌≡◌, ◌<◌, ◌≤◌, ℕ, zero, suc, ◌+◌, ◌-◌, Bool, true, false, not, if◌then◌else◌, ◌||◌, List, [], ◌∷◌, ◌++◌, length, map, ◌⊎◌, inl, inr, filter, refl, sym, ap, subst, ◌∙◌, arith, unwrap_or}
use Rattle.std.specs.Prelude.{encode_utf8_all, chars}
use Rattle.std.specs.List.{list_any, AllByRecursion}
use Rattle.std.specs.Str.{IsAscii}
use Rattle.std.specs.Str.Parse.{AllDigits}
use Rattle.std.specs.Char.{is_ascii_alphanumeric}
use Rattle.std.proofs.lemmas.Str.{chars-IsAscii, encodes-IsAscii}
use Rattle.std.proofs.lemmas.Str.Parse.{tells_digits}
use Rattle.std.proofs.lemmas.List.{length-map}
use Rattle.ucd_breaks.specs.WordBreak.{word_break}
use Rattle.ucd_breaks.specs.declared.WordBreak.{WordBreak}
use Rattle.ucd_breaks.specs.declared.WordBreak.TheVariants.{ALetter, Numeric}
use Rattle.ucd_emoji.specs.Binary.{is_extended_pictographic}
use Rattle.unicode_segmentation.specs.Segments.{prepend, cut, segments, is_alphanumeric, has_alphanumeric}
use Rattle.unicode_segmentation.specs.Word.{words, is_word_break, is_ignored, is_ah_letter, is_hebrew_letter, break_by_pair, joins, joins_flag, significant, value_at}
use Rattle.unicode_segmentation.proofs.AsciiLemmas.{word_break-ASCII, is_alphanumeric_ascii}
use Rattle.unicode_segmentation.proofs.BoolLemmas.{and-false}
use Rattle.unicode_segmentation.proofs.SegmentsLemmas.{length-filter-le}
use Rattle.unicode_segmentation.proofs.WordLemmas.{is_word_break-inside, value_at-kept}
use Rattle.co_text.specs.Terms.{terms, folded, is_short}
use Rattle.co_commands.specs.Words.{spaced, joined}
use Rattle.co_commands.proofs.Generated.{IsWord, ascii_more, joined_ascii}

-- ---- characters

digit_break : (d : ℕ) → d < 10 → word_break (48 + d) ≡ Numeric
digit_break zero below = sym (word_break-ASCII 48 (omega arith))
digit_break (suc zero) below = sym (word_break-ASCII 49 (omega arith))
digit_break (suc (suc zero)) below = sym (word_break-ASCII 50 (omega arith))
digit_break (suc (suc (suc zero))) below = sym (word_break-ASCII 51 (omega arith))
digit_break (suc (suc (suc (suc zero)))) below = sym (word_break-ASCII 52 (omega arith))
digit_break (suc (suc (suc (suc (suc zero))))) below = sym (word_break-ASCII 53 (omega arith))
digit_break (suc (suc (suc (suc (suc (suc zero)))))) below = sym (word_break-ASCII 54 (omega arith))
digit_break (suc (suc (suc (suc (suc (suc (suc zero))))))) below = sym (word_break-ASCII 55 (omega arith))
digit_break (suc (suc (suc (suc (suc (suc (suc (suc zero)))))))) below = sym (word_break-ASCII 56 (omega arith))
digit_break (suc (suc (suc (suc (suc (suc (suc (suc (suc zero))))))))) below = sym (word_break-ASCII 57 (omega arith))
digit_break n below = absurd (omega (arith, below))

-- the letter of a word, or a digit
pub record IsPart (c : ℕ) : Type 0 where
  pub alphanumeric : is_alphanumeric c ≡ true
  pub kept : is_ignored (word_break c) ≡ false
  pub kind : (word_break c ≡ ALetter) ⊎ (word_break c ≡ Numeric)

letter_part : IsPart 119
letter_part =
    let is : word_break 119 ≡ ALetter = sym (word_break-ASCII 119 (omega arith)) in
    record { alphanumeric = sym (is_alphanumeric_ascii 119 (omega arith)); kept = ap is_ignored is; kind = inl is }

digit_is : (c : ℕ) → 48 ≤ c → c ≤ 57 → word_break c ≡ Numeric
digit_is c least most =
    let from : 48 + (c - 48) ≡ c = omega (arith, least) in
    subst (λ (x : ℕ). word_break x ≡ Numeric) from (digit_break (c - 48) (omega (arith, least, most)))

digit_alphanumeric : (c : ℕ) → 48 ≤ c → c ≤ 57 → is_ascii_alphanumeric c ≡ true
digit_alphanumeric c least most = grind arith

digit_part : (c : ℕ) → 48 ≤ c → c ≤ 57 → IsPart c
digit_part c least most =
    let is = digit_is c least most in
    record {
      alphanumeric = sym (is_alphanumeric_ascii c (omega (arith, most))) ∙ digit_alphanumeric c least most;
      kept = ap is_ignored is;
      kind = inr is;
    }

-- ---- no break before a digit of a word

letter_digit : (far far_right : WordBreak) → joins far ALetter Numeric far_right ≡ true
letter_digit far far_right = rw (and-false (is_ah_letter far), and-false (is_hebrew_letter far)) refl

digit_digit : (far far_right : WordBreak) → joins far Numeric Numeric far_right ≡ true
digit_digit far far_right = rw (and-false (is_ah_letter far), and-false (is_hebrew_letter far)) refl

-- in a text of these two before this place
abbrev breaks : WordBreak → List ℕ → ℕ → List ℕ → Bool
breaks left before d after =
    unwrap_or (break_by_pair left Numeric (is_extended_pictographic d))
    (not (joins (value_at (significant before) 1) left Numeric (value_at (significant after) 0) || joins_flag before d))

no_break : (left : WordBreak) (before : List ℕ) (d : ℕ) (after : List ℕ) → (left ≡ ALetter) ⊎ (left ≡ Numeric) → breaks left before d after ≡ false
no_break left before d after (inl is) =
    ap (λ (b : WordBreak). breaks b before d after) is
    ∙ ap (λ (b : Bool). not (b || joins_flag before d)) (letter_digit (value_at (significant before) 1) (value_at (significant after) 0))
no_break left before d after (inr is) =
    ap (λ (b : WordBreak). breaks b before d after) is
    ∙ ap (λ (b : Bool). not (b || joins_flag before d)) (digit_digit (value_at (significant before) 1) (value_at (significant after) 0))

unbroken : (before after : List ℕ) (c d : ℕ) → IsPart c → 48 ≤ d → d ≤ 57 → is_word_break (c ∷ before) (d ∷ after) ≡ false
unbroken before after c d part least most =
    let left : value_at (significant (c ∷ before)) 0 ≡ word_break c = sym (value_at-kept (c ∷ before) (omega arith) part.kept) in
    let right : word_break d ≡ Numeric = digit_is d least most in
    is_word_break-inside (c ∷ before) d after (omega arith)
    ∙ (λ i. unwrap_or (break_by_pair (word_break c) (right i) (is_extended_pictographic d))
    (not (joins (value_at (significant (c ∷ before)) 1) (left i) (right i) (value_at (significant after) 0) || joins_flag (c ∷ before) d)))
    ∙ no_break (word_break c) (c ∷ before) d after part.kind

-- ---- pieces

-- how many pieces have a letter or a digit
abbrev counted : List (List ℕ) → ℕ
counted ps = length (filter (list_any is_alphanumeric) ps)

-- a part before the pieces, as a piece of its own or as the front of the first
abbrev attached : Bool → List ℕ → List (List ℕ) → List (List ℕ)
attached is_break part ps = if is_break then part ∷ ps else prepend part ps

filter_kept : (p : List ℕ) (ps : List (List ℕ)) → list_any is_alphanumeric p ≡ true → counted (p ∷ ps) ≡ counted ps + 1
filter_kept p ps is = rw (is) (omega arith)

filter_left : (p : List ℕ) (ps : List (List ℕ)) → list_any is_alphanumeric p ≡ false → counted (p ∷ ps) ≡ counted ps
filter_left p ps is = rw (is) refl

one_more : (p : List ℕ) (ps : List (List ℕ)) → counted (p ∷ ps) ≤ counted ps + 1
one_more p ps = step (list_any is_alphanumeric p) refl
  where
    step : (b : Bool) → list_any is_alphanumeric p ≡ b → counted (p ∷ ps) ≤ counted ps + 1
    step true is = omega (arith, filter_kept p ps is)
    step false is = omega (arith, filter_left p ps is)

no_fewer : (p : List ℕ) (ps : List (List ℕ)) → counted ps ≤ counted (p ∷ ps)
no_fewer p ps = step (list_any is_alphanumeric p) refl
  where
    step : (b : Bool) → list_any is_alphanumeric p ≡ b → counted ps ≤ counted (p ∷ ps)
    step true is = omega (arith, filter_kept p ps is)
    step false is = omega (arith, filter_left p ps is)

-- a part in front adds at most one
attach_few : (b : Bool) (c : ℕ) (ps : List (List ℕ)) → counted (attached b (c ∷ []) ps) ≤ counted ps + 1
attach_few true c ps = one_more (c ∷ []) ps
attach_few false c [] = one_more (c ∷ []) []
attach_few false c (p ∷ ps) = omega (arith, one_more (c ∷ p) ps, no_fewer p ps)

-- a space in front adds none
any_other : (c : ℕ) (p : List ℕ) → is_alphanumeric c ≡ false → list_any is_alphanumeric (c ∷ p) ≡ list_any is_alphanumeric p
any_other c p is = rw (is) refl

same_count : (p r : List ℕ) (ps : List (List ℕ)) → list_any is_alphanumeric p ≡ list_any is_alphanumeric r → counted (p ∷ ps) ≡ counted (r ∷ ps)
same_count p r ps same = step (list_any is_alphanumeric r) refl
  where
    step : (b : Bool) → list_any is_alphanumeric r ≡ b → counted (p ∷ ps) ≡ counted (r ∷ ps)
    step true is = omega (arith, filter_kept p ps (same ∙ is), filter_kept r ps is)
    step false is = omega (arith, filter_left p ps (same ∙ is), filter_left r ps is)

attach_space : (b : Bool) (c : ℕ) (ps : List (List ℕ)) → is_alphanumeric c ≡ false → counted (attached b (c ∷ []) ps) ≤ counted ps
attach_space true c ps is = omega (arith, filter_left (c ∷ []) ps (any_other c [] is))
attach_space false c [] is = omega (arith, filter_left (c ∷ []) [] (any_other c [] is))
attach_space false c (p ∷ ps) is = omega (arith, same_count (c ∷ p) p ps (any_other c p is))

-- ---- cut

-- the first piece begins with the first character
pub record BeginsWith (c : ℕ) (ps : List (List ℕ)) : Type 0 where
  pub front : List ℕ
  pub others : List (List ℕ)
  pub is : ps ≡ (c ∷ front) ∷ others

begins : (b : Bool) (c : ℕ) (ps : List (List ℕ)) → BeginsWith c (attached b (c ∷ []) ps)
begins true c ps = record { front = []; others = ps; is = refl }
begins false c [] = record { front = []; others = []; is = refl }
begins false c (p ∷ ps) = record { front = p; others = ps; is = refl }

cut_begins : (before cs : List ℕ) (c : ℕ) → BeginsWith c (cut is_word_break before (c ∷ cs) [])
unfolding cut
cut_begins before cs c = begins (is_word_break (c ∷ before) (cs ++ [])) c (cut is_word_break (c ∷ before) cs [])

any_part : (c : ℕ) (p : List ℕ) → is_alphanumeric c ≡ true → list_any is_alphanumeric (c ∷ p) ≡ true
any_part c p is = rw (is) refl

-- a part joined to a piece that has a digit adds none
join_count : (c d : ℕ) (ps : List (List ℕ)) → is_alphanumeric c ≡ true → is_alphanumeric d ≡ true → BeginsWith d ps → counted (prepend (c ∷ []) ps) ≤ counted ps
join_count c d ps one other b =
    let all : counted (prepend (c ∷ []) ((d ∷ b.front) ∷ b.others)) ≤ counted ((d ∷ b.front) ∷ b.others) =
    omega (arith, filter_kept (c ∷ (d ∷ b.front)) b.others (any_part c (d ∷ b.front) one), filter_kept (d ∷ b.front) b.others (any_part d b.front other)) in
    subst (λ (qs : List (List ℕ)). counted (prepend (c ∷ []) qs) ≤ counted qs) (sym b.is) all

-- the characters of cs in reverse, and then `before`
abbrev onto : List ℕ → List ℕ → List ℕ
onto [] before = before
onto (c ∷ cs) before = onto cs (c ∷ before)

-- a word adds at most one
word_count : (ds : List ℕ) (before rest : List ℕ) (c : ℕ) → IsPart c → AllDigits 10 ds
    → counted (cut is_word_break before (c ∷ (ds ++ rest)) []) ≤ counted (cut is_word_break (onto ds (c ∷ before)) rest []) + 1
unfolding cut
word_count [] before rest c part all = attach_few (is_word_break (c ∷ before) (rest ++ [])) c (cut is_word_break (c ∷ before) rest [])
word_count (d ∷ ds) before rest c part all =
    let range = (tells_digits.parts d ds all).0 in
    let digit = digit_part d range.0 range.1 in
    let others = cut is_word_break (c ∷ before) (d ∷ (ds ++ rest)) [] in
    let whole : is_word_break (c ∷ before) (d ∷ ((ds ++ rest) ++ [])) ≡ false = unbroken before ((ds ++ rest) ++ []) c d part range.0 range.1 in
    let first : counted (attached (is_word_break (c ∷ before) (d ∷ ((ds ++ rest) ++ []))) (c ∷ []) others) ≤ counted others =
    subst (λ (b : Bool). counted (attached b (c ∷ []) others) ≤ counted others) (sym whole)
    (join_count c d others part.alphanumeric digit.alphanumeric (cut_begins (c ∷ before) (ds ++ rest) d)) in
    omega (arith, first, word_count ds (c ∷ before) rest d digit all.1)

space_other : is_alphanumeric 32 ≡ false
space_other = sym (is_alphanumeric_ascii 32 (omega arith))

word_first : (w : List ℕ) (before rest : List ℕ) → (i : IsWord w)
    → counted (cut is_word_break before (w ++ rest) []) ≤ counted (cut is_word_break (onto w before) rest []) + 1
word_first w before rest i =
    subst (λ (v : List ℕ). counted (cut is_word_break before (v ++ rest) []) ≤ counted (cut is_word_break (onto v before) rest []) + 1) (sym i.is)
    (word_count i.digits before rest 119 letter_part i.all)

spaced_count : (ws : List (List ℕ)) (before : List ℕ) → AllByRecursion IsWord ws → counted (cut is_word_break before (spaced ws) []) ≤ length ws
unfolding cut
spaced_count [] before all = omega arith
spaced_count (w ∷ ws) before all =
    omega (
      arith,
      attach_space (is_word_break (32 ∷ before) ((w ++ spaced ws) ++ [])) 32 (cut is_word_break (32 ∷ before) (w ++ spaced ws) []) space_other,
      word_first w (32 ∷ before) (spaced ws) all.0,
      spaced_count ws (onto w (32 ∷ before)) all.1,
    )

joined_count : (ws : List (List ℕ)) → AllByRecursion IsWord ws → counted (cut is_word_break [] (joined ws) []) ≤ length ws
unfolding cut
joined_count [] all = omega arith
joined_count (w ∷ ws) all = omega (arith, word_first w [] (spaced ws) all.0, spaced_count ws (onto w []) all.1)

-- ---- pieces of ASCII

attach_ascii : (b : Bool) (c : ℕ) (ps : List (List ℕ)) → c < 128 → AllByRecursion IsAscii ps → AllByRecursion IsAscii (attached b (c ∷ []) ps)
attach_ascii true c ps below all = (ascii_more c [] below (λ i. omega arith), all)
attach_ascii false c [] below all = (ascii_more c [] below (λ i. omega arith), tt)
attach_ascii false c (p ∷ ps) below all = (ascii_more c p below all.0, all.1)

cut_ascii : (cs before : List ℕ) → IsAscii cs → AllByRecursion IsAscii (cut is_word_break before cs [])
unfolding cut
cut_ascii [] before ascii = tt
cut_ascii (c ∷ cs) before ascii =
    attach_ascii (is_word_break (c ∷ before) (cs ++ [])) c (cut is_word_break (c ∷ before) cs []) (ascii 0) (cut_ascii cs (c ∷ before) (λ i. ascii (suc i)))

ascii_letters : (p : List ℕ) → IsAscii p → has_alphanumeric (encode_utf8_all p) ≡ list_any is_alphanumeric p
unfolding has_alphanumeric
ascii_letters p ascii = ap (λ (t : List ℕ). list_any is_alphanumeric (chars t)) (encodes-IsAscii p ascii) ∙ ap (list_any is_alphanumeric) (chars-IsAscii p ascii)

piece_count : (p : List ℕ) (ps : List (List ℕ)) (b : Bool) → has_alphanumeric (encode_utf8_all p) ≡ list_any is_alphanumeric p → list_any is_alphanumeric p ≡ b
    → length (filter has_alphanumeric (map encode_utf8_all ps)) ≡ counted ps → length (filter has_alphanumeric (map encode_utf8_all (p ∷ ps))) ≡ counted (p ∷ ps)
piece_count p ps true same is rest = rw (same ∙ is, is) (ap suc rest)
piece_count p ps false same is rest = rw (same ∙ is, is) rest

pieces_count : (ps : List (List ℕ)) → AllByRecursion IsAscii ps → length (filter has_alphanumeric (map encode_utf8_all ps)) ≡ counted ps
pieces_count [] all = refl
pieces_count (p ∷ ps) all = piece_count p ps (list_any is_alphanumeric p) (ascii_letters p all.0) refl (pieces_count ps all.1)

words_few : (text : List ℕ) → IsAscii text → length (words text) ≡ counted (cut is_word_break [] text [])
unfolding segments
words_few text ascii =
    ap (λ (cs : List ℕ). length (filter has_alphanumeric (map encode_utf8_all (cut is_word_break [] cs [])))) (chars-IsAscii text ascii)
    ∙ pieces_count (cut is_word_break [] text []) (cut_ascii text [] ascii)

-- a text of words has at most one term a word
pub terms_few : (ws : List (List ℕ)) → AllByRecursion IsWord ws → length (terms (joined ws)) ≤ length ws
terms_few ws all =
    omega (arith, length-filter-le is_short (map folded (words (joined ws))), length-map (words (joined ws)) folded, words_few (joined ws) (joined_ascii ws all), joined_count ws all)
