-- The command `plain`: what it prints, and when it refuses.
use Rattle.std.specs.Prelude.{◌≡◌, ◌<◌, ◌≤◌, ℕ, min, List, length, Option, Some, None, Ok, Err, IsSome}
use Rattle.co_link.specs.Files.{Folder}
use Rattle.co_text.specs.Terms.{terms, distinct}
use Rattle.co_text.specs.Printed.{printed}
use Rattle.co_text.specs.declared.limits.TheConstants.{MOST_KEYWORDS}
use Rattle.co_corpus.specs.Reading.{corpus_of}
use Rattle.co_corpus.specs.declared.documents.Document.{Document}
use Rattle.co_corpus.specs.declared.reading.CorpusFault.{CorpusFault}
use Rattle.co_tfidf.specs.Found.{found}
use Rattle.co_library.specs.Settings.{wrong_setting}
use Rattle.co_library.specs.declared.settings.Settings.{Settings}
use Rattle.co_library.specs.declared.publishing.PublishFault.TheVariants.{Setting}
use Rattle.co_commands.specs.declared.limits.TheConstants.{LARGEST_CORPUS, DEFAULT_DEGREE, DEFAULT_SALT, DEFAULT_CHUNKS}
use Rattle.co_commands.specs.Words.{PlainWords, joined}
use Rattle.co_commands.specs.Outside.{FilesState}
use Rattle.co_commands.specs.Access.{HasLongFile, HasReading, UnreadCause}
use Rattle.co_commands.specs.declared.refusals.Refusal.{Refusal}
use Rattle.co_commands.specs.declared.refusals.Refusal.TheVariants.{Corpus, CorpusTooLong, Publish, Keywords, Memory}

-- ---- the corpus of a file

-- the file of a corpus, with the documents that it reads as
abbrev pub HasCorpus : Option Folder → List ℕ → List Document → Type 0
HasCorpus held name documents = HasReading LARGEST_CORPUS held name corpus_of (Ok documents)

-- the file isn't a corpus, by this fault
abbrev pub HasFault : Option Folder → List ℕ → CorpusFault → Type 0
HasFault held name fault = HasReading LARGEST_CORPUS held name corpus_of (Err fault)

-- why the corpus of a file isn't given; want of memory has no cause
abbrev pub ReadCause : List ℕ → FilesState → FilesState → Refusal → Type 0
ReadCause name was is (Corpus fault) = HasFault was.held name fault
ReadCause name was is CorpusTooLong = HasLongFile LARGEST_CORPUS was.held name
ReadCause name was is refusal = UnreadCause name was is refusal

-- the file is told, and is a corpus
pub record IsToldCorpus (held : Option Folder) (name : List ℕ)
    (documents : List Document) : Type 0 where
  pub told : IsSome held
  pub corpus : HasCorpus held name documents

-- ---- the plain answer

-- the distinct terms of the query words
abbrev pub query_of : List (List ℕ) → List (List ℕ)
query_of words = distinct (terms (joined words))

-- the settings that `plain` is checked by
abbrev pub plain_settings : PlainWords → Settings
plain_settings p = record {
  degree = DEFAULT_DEGREE;
  terms = p.terms;
  hits = p.hits;
  salt = DEFAULT_SALT;
  chunks = DEFAULT_CHUNKS;
}

-- the text of what is found in these documents, by good settings and at most sixteen keywords
pub record HasText (p : PlainWords) (documents : List Document) (text : List ℕ) : Type 0 where
  pub settings : wrong_setting (plain_settings p) ≡ None
  pub few : length (query_of p.query) ≤ MOST_KEYWORDS
  pub is : text ≡ printed (found p.terms documents p.hits (query_of p.query) p.pick)

-- by good settings the query has so many terms, which are too many
pub record HasManyKeywords (p : PlainWords) (number : ℕ) : Type 0 where
  pub settings : wrong_setting (plain_settings p) ≡ None
  pub many : MOST_KEYWORDS < length (query_of p.query)
  pub number_is : number ≡ min (length (query_of p.query)) 4294967295

-- why there is no such text; want of memory has no cause
abbrev pub TextCause : PlainWords → Refusal → Type 0
TextCause p (Publish (Setting which)) = wrong_setting (plain_settings p) ≡ Some which
TextCause p (Keywords number) = HasManyKeywords p number
TextCause p Memory = Unit {0}
TextCause p refusal = ⊥

-- the text of the plain answer
pub record PlainAnswer (p : PlainWords) (held : Option Folder) (text : List ℕ) : Type 0 where
  pub documents : List Document
  pub corpus : HasCorpus held p.corpus documents
  pub found : HasText p documents text

-- of a corpus that is read there is no text
pub record PlainSearchCause (p : PlainWords) (held : Option Folder)
    (refusal : Refusal) : Type 0 where
  pub documents : List Document
  pub corpus : HasCorpus held p.corpus documents
  pub cause : TextCause p refusal

-- when `plain` refuses, but by the output
abbrev pub PlainCause : PlainWords → FilesState → FilesState → Refusal → Type 0
PlainCause p was is (Publish fault) = PlainSearchCause p was.held (Publish fault)
PlainCause p was is (Keywords number) = PlainSearchCause p was.held (Keywords number)
PlainCause p was is refusal = ReadCause p.corpus was is refusal

-- a plain search that can be answered: the file is told and a corpus, the settings are good, and
-- the query has few terms
pub record CanBeSearched (p : PlainWords) (held : Option Folder) : Type 0 where
  pub documents : List Document
  pub corpus : IsToldCorpus held p.corpus documents
  pub settings : wrong_setting (plain_settings p) ≡ None
  pub few : length (query_of p.query) ≤ MOST_KEYWORDS
