-- The command `rehearse`: what it prints, and when it refuses.
use Rattle.std.specs.Prelude.{◌≡◌, ℕ, ◌+◌, Bool, true, false, if◌then◌else◌, List, [], ◌∷◌, ◌++◌, length, map, codes, decimal, Result, Ok, Err}
use Rattle.std.specs.Str.{bytes_eq}
use Rattle.sha2.specs.Sha256.{sha256}
use Rattle.hex.specs.Hex.{encode_lower}
use Rattle.rand_core.specs.Stream.{Stream}
use Rattle.co_text.specs.Terms.{terms}
use Rattle.co_text.specs.Printed.{printed}
use Rattle.co_text.specs.declared.found.Found.{Found}
use Rattle.co_tfidf.specs.Found.{found}
use Rattle.co_library.specs.Libraries.{Parts}
use Rattle.co_library.specs.Refusals.{IsPublished, IsRefused}
use Rattle.co_library.specs.declared.settings.Settings.{Settings}
use Rattle.co_client.specs.Causes.{IsAnswered}
use Rattle.co_client.specs.declared.fault.SearchFault.{SearchFault}
use Rattle.co_client.specs.declared.fault.SearchFault.TheVariants as searching
use Rattle.co_commands.specs.Words.{LocalWords, joined}
use Rattle.co_commands.specs.Refusals.{flat}
use Rattle.co_commands.specs.Generator.{documents_of, queries_of}
use Rattle.co_commands.specs.Locals.{IsSearched}
use Rattle.co_commands.specs.declared.words.RehearseCommand.{RehearseCommand}
use Rattle.co_commands.specs.declared.refusals.Refusal.{Refusal}
use Rattle.co_commands.specs.declared.refusals.Refusal.TheVariants as refusals

-- ---- the library

-- how the made documents are published
abbrev pub rehearse_settings : RehearseCommand → Settings
rehearse_settings p =
    record { degree = p.degree; terms = 256; hits = 16; salt = 0; chunks = 2 }

-- the library of the made documents
abbrev pub IsMadeLibrary : RehearseCommand → Parts → Type 0
IsMadeLibrary p library = IsPublished (documents_of p.number) (rehearse_settings p) library

-- ---- one query

-- a query, as the words of a search
abbrev pub words_asked : RehearseCommand → ℕ → List (List ℕ) → LocalWords
words_asked p pick query =
    record { library = []; pick = pick; workers = p.workers; query = query }

-- the plain answer, as it is printed
abbrev pub plain_text : RehearseCommand → ℕ → List (List ℕ) → List ℕ
plain_text p pick query = printed (found 256 (documents_of p.number) 16 (terms (joined query)) pick)

-- a query that was answered in both ways: the plain answer as it is printed, and the result of a
-- search
pub record Trial : Type 0 where
  pub plain : List ℕ
  pub result : Result Found SearchFault

-- whether what a search found is printed as this text
abbrev pub is_printed_as : List ℕ → Result Found SearchFault → Bool
is_printed_as text (Ok f) = bytes_eq (printed f) text
is_printed_as text (Err fault) = false

-- whether both answers are equal
abbrev pub agrees : Trial → Bool
agrees t = is_printed_as t.plain t.result

abbrev pub has_no_placement : Result Found SearchFault → Bool
has_no_placement (Err (searching.NoPlacement documents buckets)) = true
has_no_placement result = false

-- whether the search was refused, as its hits can't be placed
abbrev pub is_unplaced : Trial → Bool
is_unplaced t = has_no_placement t.result

-- the trial is of this query: a search in the library over a link of its own, which drew these
-- random words and had an answer, or hits that can't be placed; and the plain answer
pub record IsTrial (p : RehearseCommand) (library : Parts) (pick : ℕ) (query : List (List ℕ))
    (was is : Stream) (t : Trial) : Type 0 where
  pub searched : IsSearched (words_asked p pick query) library was is t.result
  pub answered : IsAnswered t.result
  pub plain : t.plain ≡ plain_text p pick query

-- trials of these queries, one after another, the first with this pick and each other with the
-- next; each draws from what the one before left of the random words
abbrev pub AreTrials : RehearseCommand → Parts → ℕ → List (List (List ℕ)) → Stream → Stream
    → List Trial → Type 0
AreTrials p library pick [] was is [] = is ≡ was
AreTrials p library pick (query ∷ queries) was is (t ∷ ts) =
    (left : Stream) × IsTrial p library pick query was left t
    × AreTrials p library (pick + 1) queries left is ts
AreTrials p library pick queries was is ts = ⊥

-- ---- all of them

-- how many trials pass a test
abbrev pub passing : (Trial → Bool) → List Trial → ℕ
passing test [] = 0
passing test (t ∷ ts) = (if test t then 1 else 0) + passing test ts

-- the plain answers, one after another
abbrev pub plain_texts : List Trial → List ℕ
plain_texts ts = flat (map (λ t. t.plain) ts)

-- a line, and what stands behind it
abbrev pub line_before : List ℕ → List ℕ → List ℕ
line_before text others = text ++ (10 ∷ others)

-- the lines: how many documents and queries there are, how many queries agree, how many hits can't
-- be placed, and the digest of the plain answers
abbrev pub rehearse_lines : ℕ → ℕ → List ℕ → List ℕ
rehearse_lines agree unplaced plain =
    line_before (codes "documents 600") (line_before (codes "queries 8")
    (codes "agree " ++ line_before (decimal agree)
    (codes "unplaced " ++ line_before (decimal unplaced)
    (codes "plain " ++ line_before (encode_lower (sha256 plain)) []))))

-- ---- the command

-- the lines of eight trials over the library of the made documents. Each of them agrees, or has
-- hits that can't be placed
pub record RehearseAnswer (p : RehearseCommand) (was is : Stream) (text : List ℕ) : Type 0 where
  pub library : Parts
  pub published : IsMadeLibrary p library
  pub trials : List Trial
  pub are : AreTrials p library 1 (queries_of p.number) was is trials
  pub all : passing agrees trials + passing is_unplaced trials ≡ 8
  pub text_is : text ≡ rehearse_lines (passing agrees trials) (passing is_unplaced trials)
      (plain_texts trials)

-- a search was refused, and not as its hits can't be placed; the queries before it were tried
pub record StopsAt (p : RehearseCommand) (was is : Stream) (fault : SearchFault) : Type 0 where
  pub library : Parts
  pub published : IsMadeLibrary p library
  pub before : List (List (List ℕ))
  pub query : List (List ℕ)
  pub others : List (List (List ℕ))
  pub queries_are : queries_of p.number ≡ before ++ query ∷ others
  pub trials : List Trial
  pub left : Stream
  pub are : AreTrials p library 1 before was left trials
  pub refused : IsSearched (words_asked p (length before + 1) query) library left is (Err fault)

-- when `rehearse` refuses, but by the output; want of memory has no cause, and its links never fail
abbrev pub RehearseCause : RehearseCommand → Stream → Stream → Refusal → Type 0
RehearseCause p was is (refusals.Publish fault) =
    IsRefused (documents_of p.number) (rehearse_settings p) fault
RehearseCause p was is (refusals.Search searching.Link) = ⊥
RehearseCause p was is (refusals.Search (searching.NoPlacement documents buckets)) = ⊥
RehearseCause p was is (refusals.Search fault) = StopsAt p was is fault
RehearseCause p was is refusals.Memory = Unit {0}
RehearseCause p was is refusal = ⊥

-- a rehearsal that can be made: the made documents are published with its degree
pub record CanBeRehearsed (p : RehearseCommand) : Type 0 where
  pub library : Parts
  pub published : IsMadeLibrary p library
