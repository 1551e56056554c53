-- Why the program refuses, with which status, and what it says.
use Rattle.std.specs.Prelude.{◌≡◌, ℕ, Result, Ok, Err, ◌==◌, if◌then◌else◌, List, [], ◌∷◌, ◌++◌, map, codes, decimal}
use Rattle.co_link.specs.Causes.{Rose}
use Rattle.co_link.specs.declared.files.FileKind.{FileKind}
use Rattle.co_link.specs.declared.files.FileKind.TheVariants.{Read, Write}
use Rattle.co_corpus.specs.declared.reading.CorpusFault.{CorpusFault}
use Rattle.co_corpus.specs.declared.reading.CorpusFault.TheVariants.{Empty, BadJson, NotObject, NoText, TitleNotText, TextTooLong, TooMany, OutOfMemory}
use Rattle.co_noise.specs.declared.testing.TestFault.{TestFault}
use Rattle.co_noise.specs.declared.testing.TestFault.TheVariants.{RowsOverDegree, Score, Records, Bins}
use Rattle.co_library.specs.declared.settings.SettingName.{SettingName}
use Rattle.co_library.specs.declared.settings.SettingName.TheVariants.{Degree, Terms, Hits, Chunks}
use Rattle.co_library.specs.declared.publishing.PublishFault.{PublishFault}
use Rattle.co_library.specs.declared.publishing.PublishFault.TheVariants as publishing
use Rattle.co_link.specs.declared.messages.Target.{Target}
use Rattle.co_link.specs.declared.messages.Target.TheVariants as rounds
use Rattle.co_client.specs.declared.fault.SearchFault.{SearchFault}
use Rattle.co_client.specs.declared.fault.SearchFault.TheVariants as searching
use Rattle.co_commands.specs.declared.refusals.Refusal.{Refusal}
use Rattle.co_commands.specs.declared.refusals.Refusal.TheVariants.{Words, Corpus, CorpusTooLong, Publish, LibraryTooLong, Library, Test, Keywords, Search, Dial, Port, File, Output, Memory}
use Rattle.co_commands.specs.Words.{spaced}
use Rattle.co_commands.specs.Outside.{SinkState, Took}

-- ---- statuses

abbrev pub status_of_corpus : CorpusFault → ℕ
status_of_corpus OutOfMemory = 10
status_of_corpus fault = 3

abbrev pub status_of_publishing : PublishFault → ℕ
status_of_publishing (publishing.Test fault) = 4
status_of_publishing publishing.OutOfMemory = 10
status_of_publishing fault = 3

-- a server without memory counts as want of memory
abbrev pub status_of_refused : ℕ → ℕ
status_of_refused status = if status == 503 then 10 else 8

abbrev pub status_of_search : SearchFault → ℕ
status_of_search (searching.TooManyKeywords found) = 5
status_of_search (searching.BadPublic place) = 8
status_of_search (searching.Test fault) = 4
status_of_search (searching.NoPlacement documents buckets) = 6
status_of_search searching.Link = 7
status_of_search (searching.Refused target status) = status_of_refused status
status_of_search (searching.BadReply target place) = 8
status_of_search (searching.WrongRecord wanted found) = 8
status_of_search (searching.BadPlace document) = 8
status_of_search (searching.NotByte target reply place) = 8
status_of_search (searching.BadRecord document place) = 8
status_of_search searching.OutOfMemory = 10

abbrev pub status_of : Refusal → ℕ
status_of Words = 2
status_of (Corpus fault) = status_of_corpus fault
status_of CorpusTooLong = 3
status_of (Publish fault) = status_of_publishing fault
status_of LibraryTooLong = 3
status_of (Library place) = 3
status_of (Test fault) = 4
status_of (Keywords found) = 5
status_of (Search fault) = status_of_search fault
status_of Dial = 7
status_of Port = 7
status_of (File kind) = 9
status_of Output = 9
status_of Memory = 10

-- ---- lines

-- the word that names the file that is read, or the one that is written
abbrev pub name_of : FileKind → List (List ℕ) → List ℕ
name_of Read (command ∷ name ∷ others) = name
name_of Write (command ∷ corpus ∷ name ∷ others) = name
name_of kind others = []

-- parts of a text, one after another
abbrev pub flat : List (List ℕ) → List ℕ
flat [] = []
flat (part ∷ parts) = part ++ flat parts

-- a text with a number in it
abbrev pub with_number : List ℕ → ℕ → List ℕ → List ℕ
with_number before number after = flat (before ∷ decimal number ∷ after ∷ [])

abbrev pub line_text : ℕ → List ℕ → List ℕ
line_text line what = flat (codes "corpus line " ∷ decimal line ∷ codes ": " ∷ what ∷ [])

abbrev pub corpus_text : CorpusFault → List ℕ
corpus_text Empty = codes "corpus: no document"
corpus_text (BadJson line) = line_text line (codes "not JSON")
corpus_text (NotObject line) = line_text line (codes "not an object")
corpus_text (NoText line) = line_text line (codes "no text")
corpus_text (TitleNotText line) = line_text line (codes "title is not text")
corpus_text (TextTooLong line) = line_text line (codes "text too long")
corpus_text (TooMany line) = line_text line (codes "too many documents")
corpus_text OutOfMemory = codes "memory"

abbrev pub test_text : TestFault → List ℕ
test_text (RowsOverDegree rows degree) =
    flat (codes "test: rows " ∷ decimal rows ∷ codes " over degree " ∷ decimal degree ∷ [])
test_text (Score bound) = with_number (codes "test: score bound ") bound []
test_text (Records bound) = with_number (codes "test: records bound ") bound []
test_text (Bins bound) = with_number (codes "test: bins bound ") bound []

abbrev pub setting_text : SettingName → List ℕ
setting_text Degree = codes "setting degree out of range"
setting_text Terms = codes "setting terms out of range"
setting_text Hits = codes "setting hits out of range"
setting_text Chunks = codes "setting chunks out of range"

abbrev pub publishing_text : PublishFault → List ℕ
publishing_text (publishing.Setting which) = setting_text which
publishing_text (publishing.TooManyWeights entries) =
    with_number (codes "too many weights ") entries []
publishing_text (publishing.TooBig bytes) = with_number (codes "bins of ") bytes (codes " bytes")
publishing_text (publishing.Test fault) = test_text fault
publishing_text publishing.OutOfMemory = codes "memory"

-- the rounds of a search
abbrev pub round_name : Target → List ℕ
round_name rounds.Public = codes "public"
round_name rounds.Keys = codes "keys"
round_name rounds.Score = codes "score"
round_name rounds.Meta = codes "meta"
round_name rounds.Document = codes "document"

-- a text with a round and a number behind it
abbrev pub round_text : List ℕ → Target → ℕ → List ℕ
round_text before target number =
    flat (before ∷ round_name target ∷ codes " " ∷ decimal number ∷ [])

-- a text with two numbers behind it
abbrev pub two_numbers : List ℕ → ℕ → ℕ → List ℕ
two_numbers before first second =
    flat (before ∷ decimal first ∷ codes " " ∷ decimal second ∷ [])

abbrev pub byte_text : Target → ℕ → ℕ → List ℕ
byte_text target reply place = flat (codes "not a byte " ∷ round_name target ∷ codes " "
    ∷ decimal reply ∷ codes " " ∷ decimal place ∷ [])

-- numbers, each with a space before it
abbrev pub numbers_text : List ℕ → List ℕ
numbers_text numbers = spaced (map decimal numbers)

-- documents, and their buckets, of which there are too few
abbrev pub witness_text : List ℕ → List ℕ → List ℕ
witness_text documents buckets = codes "no placement: documents" ++ (numbers_text documents
    ++ (codes " buckets" ++ numbers_text buckets))

abbrev pub search_text : SearchFault → List ℕ
search_text (searching.TooManyKeywords found) =
    with_number [] found (codes " keywords, at most 16")
search_text (searching.BadPublic place) = with_number (codes "bad public ") place []
search_text (searching.Test fault) = test_text fault
search_text (searching.NoPlacement documents buckets) = witness_text documents buckets
search_text searching.Link = codes "link"
search_text (searching.Refused target status) = round_text (codes "refused ") target status
search_text (searching.BadReply target place) = round_text (codes "bad reply ") target place
search_text (searching.WrongRecord wanted found) =
    two_numbers (codes "wrong record ") wanted found
search_text (searching.BadPlace document) = with_number (codes "bad place ") document []
search_text (searching.NotByte target reply place) = byte_text target reply place
search_text (searching.BadRecord document place) =
    two_numbers (codes "bad record ") document place
search_text searching.OutOfMemory = codes "memory"

-- what a refusal says, where these are the words of the command line
abbrev pub text_of : List (List ℕ) → Refusal → List ℕ
text_of words Words = codes "wrong words"
text_of words (Corpus fault) = corpus_text fault
text_of words CorpusTooLong = codes "corpus too long"
text_of words (Publish fault) = publishing_text fault
text_of words LibraryTooLong = codes "library too long"
text_of words (Library place) = with_number (codes "library: wrong at byte ") place []
text_of words (Test fault) = test_text fault
text_of words (Keywords found) = with_number [] found (codes " keywords, at most 16")
text_of words (Search fault) = search_text fault
text_of words Dial = codes "link"
text_of words Port = codes "link"
text_of words (File kind) = flat (codes "file " ∷ name_of kind words ∷ [])
text_of words Output = codes "output"
text_of words Memory = codes "memory"

-- a text as a line
abbrev pub line : List ℕ → List ℕ
line text = codes "coeus: " ++ (text ++ (10 ∷ []))

-- the error output took this line, unless it failed
abbrev pub Says : List ℕ → SinkState → SinkState → Type 0
Says text was is = ¬ (Rose was.faults is.faults) → Took was is (line text)

-- the status of an end; a refusal is said, and has a status of its own
abbrev pub Finishes : List (List ℕ) → Result (Unit {0}) Refusal → SinkState → SinkState → ℕ → Type 0
Finishes words (Ok _) was is status = (status ≡ 0) × (is ≡ was)
Finishes words (Err refusal) was is status =
    (status ≡ status_of refusal) × Says (text_of words refusal) was is
