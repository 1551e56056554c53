-- The generator of the command `rehearse`: the documents and queries that are made from a number.
use Rattle.std.specs.Prelude.{ℕ, zero, suc, ◌+◌, ◌*◌, ◌/◌, ◌%◌, ◌^◌, min, List, [], ◌∷◌, ◌++◌, codes, decimal}
use Rattle.co_corpus.specs.declared.documents.Document.{Document}
use Rattle.co_commands.specs.Words.{joined}

-- Each draw gives a value, and the state that it leaves. The first state is the number itself.

-- the state that follows a state
abbrev pub next_state : ℕ → ℕ
next_state x = (x * 6364136223846793005 + 1442695040888963407) % 2 ^ 64

-- a number below a bound: the state moves first
abbrev pub draw : ℕ → ℕ → ℕ × ℕ
draw bound x = (next_state x / 2 ^ 33 % bound, next_state x)

-- a word, by the lesser of two draws below 300
abbrev pub word_draw : ℕ → List ℕ × ℕ
word_draw x =
    let one = draw 300 x in
    let other = draw 300 one.1 in
    (codes "w" ++ decimal (min one.0 other.0), other.1)

-- so many words, one after another
unfoldable pub words_draw : ℕ → ℕ → List (List ℕ) × ℕ
words_draw zero x = ([], x)
words_draw (suc n) x =
    let before = words_draw n x in
    let word = word_draw before.1 in
    (before.0 ++ word.0 ∷ [], word.1)

-- the document of a number: twenty words, and as many more as a draw below 41 says
unfoldable pub document_draw : ℕ → ℕ → Document × ℕ
document_draw number x =
    let more = draw 41 x in
    let words = words_draw (20 + more.0) more.1 in
    (record { title = codes "Paper " ++ decimal number; text = joined words.0 }, words.1)

-- so many documents, numbered from 0
unfoldable pub documents_draw : ℕ → ℕ → List Document × ℕ
documents_draw zero x = ([], x)
documents_draw (suc n) x =
    let before = documents_draw n x in
    let document = document_draw n before.1 in
    (before.0 ++ document.0 ∷ [], document.1)

-- so many queries, each by its words: the first has two, and each other one more than the one
-- before
unfoldable pub queries_draw : ℕ → ℕ → List (List (List ℕ)) × ℕ
queries_draw zero x = ([], x)
queries_draw (suc n) x =
    let before = queries_draw n x in
    let words = words_draw (2 + n) before.1 in
    (before.0 ++ words.0 ∷ [], words.1)

-- the six hundred documents of a number
abbrev pub documents_of : ℕ → List Document
documents_of number = (documents_draw 600 number).0

-- and its eight queries, which are drawn behind the documents
abbrev pub queries_of : ℕ → List (List (List ℕ))
queries_of number = (queries_draw 8 (documents_draw 600 number).1).0
