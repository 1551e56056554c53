-- The command `local`: what it prints, and when it refuses.
use Rattle.std.specs.Prelude.{◌≡◌, ◌≤◌, ℕ, List, length, Option, None, Result, Ok, Err, IfOk, IfErr}
use Rattle.rand_core.specs.Stream.{Stream}
use Rattle.co_link.specs.Files.{Folder}
use Rattle.co_link.specs.declared.messages.Exchange.{Exchange}
use Rattle.co_noise.specs.Bounds.{test_of}
use Rattle.co_noise.specs.declared.testing.TestFault.{TestFault}
use Rattle.co_text.specs.Terms.{terms}
use Rattle.co_text.specs.Numbers.{numbers_of}
use Rattle.co_text.specs.Printed.{printed}
use Rattle.co_text.specs.declared.found.Found.{Found}
use Rattle.co_text.specs.declared.limits.TheConstants.{MOST_KEYWORDS}
use Rattle.co_corpus.specs.declared.documents.Document.{Document}
use Rattle.co_bucket.specs.Lists.{bucket_count}
use Rattle.co_library.specs.declared.settings.Settings.{Settings}
use Rattle.co_library.specs.Libraries.{Parts}
use Rattle.co_library.specs.Files.{library_in}
use Rattle.co_rounds.specs.Honest.{AreHonest}
use Rattle.co_rounds.specs.Asked.{Asked, IsAsked}
use Rattle.co_rounds.specs.Placing.{CanBePlaced}
use Rattle.co_rounds.specs.Recording.{IsLibraryFor}
use Rattle.co_client.specs.Causes.{Search, IsAnswered}
use Rattle.co_client.specs.Telling.{Tells}
use Rattle.co_client.specs.Plain.{AnswersPlainly, plain_hits}
use Rattle.co_client.specs.declared.fault.SearchFault.{SearchFault}
use Rattle.co_client.specs.declared.fault.SearchFault.TheVariants as searching
use Rattle.co_commands.specs.declared.limits.TheConstants.{LARGEST_LIBRARY}
use Rattle.co_commands.specs.Words.{LocalWords, joined}
use Rattle.co_commands.specs.Outside.{FilesState}
use Rattle.co_commands.specs.Access.{HasLongFile, HasReading, UnreadCause}
use Rattle.co_commands.specs.Searches.{query_of}
use Rattle.co_commands.specs.Imports.{HasImport}
use Rattle.co_commands.specs.declared.refusals.Refusal.{Refusal}
use Rattle.co_commands.specs.declared.refusals.Refusal.TheVariants as refusals

-- ---- the library of a file

-- the file of a library
abbrev pub HasLibraryFile : Option Folder → List ℕ → Parts → Type 0
HasLibraryFile held name library = HasReading LARGEST_LIBRARY held name library_in (Ok library)

-- the file isn't a library: the first field that is wrong or not whole is at this place
abbrev pub HasWrongFile : Option Folder → List ℕ → ℕ → Type 0
HasWrongFile held name place = HasReading LARGEST_LIBRARY held name library_in (Err place)

-- the file of a library that passes the test
pub record CanBeServed (held : Option Folder) (name : List ℕ) (library : Parts) : Type 0 where
  pub file : HasLibraryFile held name library
  pub passes : test_of library.shape ≡ Ok library.shape

-- the file of a library that fails the test
pub record HasNoRoom (held : Option Folder) (name : List ℕ) (fault : TestFault) : Type 0 where
  pub library : Parts
  pub file : HasLibraryFile held name library
  pub fails : test_of library.shape ≡ Err fault

-- why the library of a file isn't read, or isn't served; want of memory has no cause
abbrev pub OpenCause : List ℕ → FilesState → FilesState → Refusal → Type 0
OpenCause name was is (refusals.Test fault) = HasNoRoom was.held name fault
OpenCause name was is (refusals.Library place) = HasWrongFile was.held name place
OpenCause name was is refusals.LibraryTooLong = HasLongFile LARGEST_LIBRARY was.held name
OpenCause name was is refusal = UnreadCause name was is refusal

-- ---- the search

-- a search for the terms of the query words, over a link that never fails
abbrev pub search_for : LocalWords → Stream → Search
search_for p random = record {
  query = terms (joined p.query);
  pick = p.pick;
  stream = random;
  before = 0;
  now = 0;
  last_failed = None;
}

-- a search was drawn by a library's numbers: the secret, the keys, a query for each block of terms,
-- one for each bucket and one for a bin; and this is left of the random words
pub record IsDrawn (p : LocalWords) (library : Parts) (was is : Stream) : Type 0 where
  pub rows : List ℕ
  pub count : length rows ≡ bucket_count library.shape.hits
  pub bin : ℕ
  pub asked : Asked
  pub drawn : IsAsked library.shape (numbers_of library.terms (query_of p.query)) rows bin was
      asked is

-- a search over exchanges that are honest to a library has this result: for more than sixteen terms
-- only that they are too many, or want of memory; number, order and lengths of its requests are
-- planned by the published numbers, and one follows another only where few terms are asked, the
-- numbers pass the test and the reply was taken; what it answers is read from them, and nothing
-- that it went past was a cause of another refusal; they are the drawn ones, and after an answer or
-- a refused placement the random words are left where the draws of one search leave them. If the
-- library is that of a corpus, the result is the plain answer, or that its hits can't be placed
pub record IsSearched (p : LocalWords) (library : Parts) (was is : Stream)
    (result : Result Found SearchFault) : Type 0 where
  pub exchanges : List Exchange
  pub honest : AreHonest library None exchanges
  pub tells : Tells (search_for p was) exchanges result is
  pub drawn : IsAnswered result → IsDrawn p library was is
  pub plain : (documents : List Document) (settings : Settings)
      → IsLibraryFor documents settings library
      → AnswersPlainly documents settings library (terms (joined p.query)) p.pick result

-- the library of the file passes the test, and a search in it has this result: of a file that
-- `import` wrote, the plain answer of its corpus, exactly where the plain hits can be placed
pub record Searched (p : LocalWords) (held : Option Folder) (was is : Stream)
    (result : Result Found SearchFault) : Type 0 where
  pub library : Parts
  pub served : CanBeServed held p.library library
  pub search : IsSearched p library was is result
  pub plain : (documents : List Document) (settings : Settings) (imported : Parts)
      → HasImport held p.library documents settings imported
      → AnswersPlainly documents settings imported (terms (joined p.query)) p.pick result

-- the text of what is found in a library
pub record HasFound (p : LocalWords) (library : Parts) (was is : Stream)
    (text : List ℕ) : Type 0 where
  pub found : Found
  pub search : IsSearched p library was is (Ok found)
  pub text_is : text ≡ printed found

-- why there is no such text; want of memory has no cause
abbrev pub FindCause : LocalWords → Parts → Stream → Stream → Refusal → Type 0
FindCause p library was is (refusals.Search fault) = IsSearched p library was is (Err fault)
FindCause p library was is refusals.Memory = Unit {0}
FindCause p library was is refusal = ⊥

-- the text, or why there is none
pub record Finds (p : LocalWords) (library : Parts) (was is : Stream)
    (result : Result (List ℕ) Refusal) : Type 0 where
  pub ok : IfOk result (HasFound p library was is)
  pub cause : IfErr result (FindCause p library was is)

-- the text of a result, where there is memory for it, and its fault is a refusal
abbrev pub IsShown : Result Found SearchFault → Result (List ℕ) Refusal → Type 0
IsShown (Ok found) (Ok text) = text ≡ printed found
IsShown (Ok found) (Err refusals.Memory) = Unit {0}
IsShown (Err fault) (Err (refusals.Search one)) = one ≡ fault
IsShown found result = ⊥

-- ---- the command

-- the text of what is found
pub record LocalAnswer (p : LocalWords) (held : Option Folder) (was is : Stream)
    (text : List ℕ) : Type 0 where
  pub found : Found
  pub searched : Searched p held was is (Ok found)
  pub text_is : text ≡ printed found

-- when `local` refuses, but by the output; its link never fails
abbrev pub LocalCause : LocalWords → FilesState → FilesState → Stream → Stream → Refusal → Type 0
LocalCause p was is random left (refusals.Search searching.Link) = ⊥
LocalCause p was is random left (refusals.Search fault) =
    Searched p was.held random left (Err fault)
LocalCause p was is random left refusal = OpenCause p.library was is refusal

-- the status of a search that can be answered: the file is told and was written by `import`, its
-- library passes the test, and the query has few terms. It is 0 where the plain hits can be placed,
-- and 6 where they can't
pub record LocalDue (p : LocalWords) (held : Option Folder) (status : ℕ) : Type 0 where
  pub documents : List Document
  pub settings : Settings
  pub library : Parts
  pub file : HasImport held p.library documents settings library
  pub passes : test_of library.shape ≡ Ok library.shape
  pub few : length (query_of p.query) ≤ MOST_KEYWORDS
  pub placed : CanBePlaced library.shape (plain_hits documents settings (terms (joined p.query)))
      → status ≡ 0
  pub unplaced : (¬ CanBePlaced library.shape
      (plain_hits documents settings (terms (joined p.query)))) → status ≡ 6
