-- The texts that the generator makes: their bytes and their sizes.
use Rattle.std.proofs.Common.{◌≡◌, ◌<◌, ◌≤◌, ◌^◌, ℕ, zero, suc, ◌+◌, ◌*◌, ◌/◌, List, [], ◌∷◌, ◌++◌, length, true, refl, sym, ap, subst, arith, length-append, min, ◌&&◌}
use Rattle.std.specs.Prelude.{codes, decimal, All}
use Rattle.std.specs.List.{list_all, AllByRecursion}
use Rattle.std.specs.Str.{IsAscii}
use Rattle.std.specs.Str.Parse.{AllDigits}
use Rattle.std.proofs.Math.Nat.{mod-lt}
use Rattle.std.proofs.lemmas.Fmt.{length-decimal-le, decimal_is_IsNumeral, IsAscii-decimal, IsAscii-from_digits}
use Rattle.std.proofs.lemmas.Str.{IsUtf8-from_ascii, IsAscii-append}
use Rattle.std.proofs.lemmas.Str.Parse.{tells_digits}
use Rattle.std.proofs.lemmas.List.{length_push}
use Rattle.std.proofs.lemmas.List.Elements.{All-nil, All-push, All-from_recursion}
use Rattle.std.proofs.lemmas.Str.Ascii.{IsAscii-from_all}
use Rattle.co_text.specs.Titles.{is_plain, IsTitle}
use Rattle.co_corpus.specs.Documents.{IsDocument, IsCorpus}
use Rattle.co_commands.specs.Words.{spaced, joined}
use Rattle.co_commands.specs.Generator.{next_state, draw, word_draw, words_draw, document_draw, documents_draw, queries_draw, documents_of, queries_of}

-- a letter, and at most three digits
pub record IsWord (w : List ℕ) : Type 0 where
  pub digits : List ℕ
  pub is : w ≡ 119 ∷ digits
  pub few : length digits ≤ 3
  pub all : AllDigits 10 digits

below_bound : (bound x : ℕ) → 0 < bound → (draw bound x).0 < bound
below_bound bound x some = mod-lt (next_state x / 2 ^ 33) some

word_is : (x : ℕ) → IsWord (word_draw x).0
word_is x =
    let n = min (draw 300 x).0 (draw 300 (draw 300 x).1).0 in
    let below : n < 300 = omega (arith, below_bound 300 x (omega arith)) in
    record {
      digits = decimal n;
      is = refl;
      few = length-decimal-le 3 n (omega arith) (omega (arith, below)) (omega (arith, below));
      all = (decimal_is_IsNumeral n (omega (arith, below))).0.1;
    }

-- ---- lists of words

every_push : {X : Type 0} (P : X → Type 0) (xs : List X) (x : X) → AllByRecursion P xs → P x → AllByRecursion P (xs ++ x ∷ [])
every_push P [] x all one = (one, tt)
every_push P (y ∷ ys) x all one = (all.0, every_push P ys x all.1 one)

pub words_are : (n x : ℕ) → AllByRecursion IsWord (words_draw n x).0
unfolding words_draw
words_are zero x = tt
words_are (suc n) x = every_push IsWord (words_draw n x).0 (word_draw (words_draw n x).1).0 (words_are n x) (word_is (words_draw n x).1)

pub words_count : (n x : ℕ) → length (words_draw n x).0 ≡ n
unfolding words_draw
words_count zero x = refl
words_count (suc n) x = omega (arith, length_push (words_draw n x).0 (word_draw (words_draw n x).1).0, words_count n x)

word_size : (w : List ℕ) → IsWord w → length w ≤ 4
word_size w i = omega (arith, i.few, ap length i.is)

spaced_size : (ws : List (List ℕ)) → AllByRecursion IsWord ws → length (spaced ws) ≤ 5 * length ws
spaced_size [] all = omega arith
spaced_size (w ∷ ws) all = omega (arith, length-append w (spaced ws), word_size w all.0, spaced_size ws all.1)

joined_size : (ws : List (List ℕ)) → AllByRecursion IsWord ws → length (joined ws) ≤ 5 * length ws
joined_size [] all = omega arith
joined_size (w ∷ ws) all = omega (arith, length-append w (spaced ws), word_size w all.0, spaced_size ws all.1)

-- ---- ASCII

pub ascii_more : (b : ℕ) (bs : List ℕ) → b < 128 → IsAscii bs → IsAscii (b ∷ bs)
ascii_more b bs below ascii zero = below
ascii_more b bs below ascii (suc i) = ascii i

word_ascii : (w : List ℕ) → IsWord w → IsAscii w
word_ascii w i = subst IsAscii (sym i.is) (ascii_more 119 i.digits (omega arith) (IsAscii-from_digits i.digits i.all))

pub spaced_ascii : (ws : List (List ℕ)) → AllByRecursion IsWord ws → IsAscii (spaced ws)
spaced_ascii [] all = λ i. omega arith
spaced_ascii (w ∷ ws) all = ascii_more 32 (w ++ spaced ws) (omega arith) (IsAscii-append w (spaced ws) (word_ascii w all.0) (spaced_ascii ws all.1))

pub joined_ascii : (ws : List (List ℕ)) → AllByRecursion IsWord ws → IsAscii (joined ws)
joined_ascii [] all = λ i. omega arith
joined_ascii (w ∷ ws) all = IsAscii-append w (spaced ws) (word_ascii w all.0) (spaced_ascii ws all.1)

-- ---- documents

digits_plain : (ds : List ℕ) → AllDigits 10 ds → list_all is_plain ds ≡ true
digits_plain [] all = refl
digits_plain (d ∷ ds) all =
    let range = (tells_digits.parts d ds all).0 in
    rw (digits_plain ds all.1) (plain_digit d range.0 range.1)
  where
    plain_digit : (d : ℕ) → 48 ≤ d → d ≤ 57 → (is_plain d && true) ≡ true
    plain_digit d least most = grind arith

paper : IsAscii (codes "Paper ")
paper = IsAscii-from_all (codes "Paper ")
    (All-from_recursion (λ b. b < 128) (codes "Paper ") (omega arith, (omega arith, (omega arith, (omega arith, (omega arith, (omega arith, tt)))))))

pub title_is : (number : ℕ) → number < 600 → IsTitle (codes "Paper " ++ decimal number)
title_is number below =
    let few : length (decimal number) ≤ 3 = length-decimal-le 3 number (omega arith) (omega (arith, below)) (omega (arith, below)) in
    let ascii : IsAscii (codes "Paper " ++ decimal number) =
    IsAscii-append (codes "Paper ") (decimal number) paper (IsAscii-decimal number (omega (arith, below))) in
    record {
      short = omega (arith, few);
      text = IsUtf8-from_ascii _ ascii;
      plain = digits_plain (decimal number) (decimal_is_IsNumeral number (omega (arith, below))).0.1;
    }

document_is : (number x : ℕ) → number < 600 → IsDocument (document_draw number x).0
unfolding document_draw
document_is number x below =
    let more = draw 41 x in
    let ws = words_draw (20 + more.0) more.1 in
    let all = words_are (20 + more.0) more.1 in
    record {
      title = title_is number below;
      utf8 = IsUtf8-from_ascii (joined ws.0) (joined_ascii ws.0 all);
      fits = omega (arith, joined_size ws.0 all, words_count (20 + more.0) more.1, below_bound 41 x (omega arith));
    }

documents_count : (n x : ℕ) → length (documents_draw n x).0 ≡ n
unfolding documents_draw
documents_count zero x = refl
documents_count (suc n) x = omega (arith, length_push (documents_draw n x).0 (document_draw n (documents_draw n x).1).0, documents_count n x)

documents_are : (n x : ℕ) → n ≤ 600 → All IsDocument (documents_draw n x).0
unfolding documents_draw
documents_are zero x few = All-nil IsDocument
documents_are (suc n) x few =
    All-push IsDocument (documents_draw n x).0 (document_draw n (documents_draw n x).1).0 (documents_are n x (omega (arith, few)))
    (document_is n (documents_draw n x).1 (omega (arith, few)))

-- the documents of a number are a corpus
pub corpus_is : (number : ℕ) → IsCorpus (documents_of number)
corpus_is number = record {
  some = omega (arith, documents_count 600 number);
  many = omega (arith, documents_count 600 number);
  each = documents_are 600 number (omega arith);
}

-- ---- queries

-- a query of at most nine words
pub record IsQuery (ws : List (List ℕ)) : Type 0 where
  pub few : length ws ≤ 9
  pub all : AllByRecursion IsWord ws

queries_are : (n x : ℕ) → n ≤ 8 → All IsQuery (queries_draw n x).0
unfolding queries_draw
queries_are zero x few = All-nil IsQuery
queries_are (suc n) x few =
    let before = queries_draw n x in
    All-push IsQuery before.0 (words_draw (2 + n) before.1).0 (queries_are n x (omega (arith, few)))
    (record { few = omega (arith, few, words_count (2 + n) before.1); all = words_are (2 + n) before.1 })

queries_count : (n x : ℕ) → length (queries_draw n x).0 ≡ n
unfolding queries_draw
queries_count zero x = refl
queries_count (suc n) x = omega (arith, length_push (queries_draw n x).0 (words_draw (2 + n) (queries_draw n x).1).0, queries_count n x)

-- the queries of a number are eight, each of at most nine words
pub queries_few : (number : ℕ) → All IsQuery (queries_of number)
queries_few number = queries_are 8 (documents_draw 600 number).1 (omega arith)

pub queries_eight : (number : ℕ) → length (queries_of number) ≡ 8
queries_eight number = queries_count 8 (documents_draw 600 number).1
