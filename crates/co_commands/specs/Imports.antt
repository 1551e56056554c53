-- The command `import`: what it prints and writes, and when it refuses.
use Rattle.std.specs.Prelude.{◌≡◌, ◌++◌, [], ◌∷◌, ℕ, List, codes, decimal, Option, Some, IsSome}
use Rattle.co_link.specs.Files.{Folder, file_at}
use Rattle.co_link.specs.declared.files.FileKind.TheVariants.{Write}
use Rattle.co_corpus.specs.declared.documents.Document.{Document}
use Rattle.co_noise.specs.Shapes.{Numbers}
use Rattle.co_library.specs.Libraries.{Parts}
use Rattle.co_library.specs.Files.{library_bytes}
use Rattle.co_library.specs.Refusals.{IsPublished, IsRefused}
use Rattle.co_library.specs.declared.settings.Settings.{Settings}
use Rattle.co_library.specs.declared.publishing.PublishFault.{PublishFault}
use Rattle.co_rounds.specs.Recording.{IsLibraryFor}
use Rattle.co_commands.specs.Words.{ImportWords}
use Rattle.co_commands.specs.Outside.{FilesState, Fails}
use Rattle.co_commands.specs.Searches.{HasCorpus, IsToldCorpus, ReadCause}
use Rattle.co_commands.specs.declared.refusals.Refusal.{Refusal}
use Rattle.co_commands.specs.declared.refusals.Refusal.TheVariants.{Publish, File, Memory}

-- what is printed of a library's published numbers
abbrev pub import_text : Numbers → List ℕ
import_text s =
    codes "documents " ++ (decimal s.documents ++ (codes " terms " ++ (decimal s.terms
    ++ (codes " rows " ++ (decimal s.rows ++ (codes " bins " ++ (decimal s.bins
    ++ (codes " chunks " ++ (decimal s.chunks ++ (10 ∷ []))))))))))

-- the library of the corpus and the settings
pub record HasLibrary (i : ImportWords) (held : Option Folder) (library : Parts) : Type 0 where
  pub documents : List Document
  pub corpus : HasCorpus held i.corpus documents
  pub published : IsPublished documents i.settings library

-- the files tell the bytes that are written for a corpus and settings: those of its library
pub record HasImport (held : Option Folder) (name : List ℕ) (documents : List Document)
    (settings : Settings) (library : Parts) : Type 0 where
  pub stands : file_at held name ≡ Some (Some (library_bytes library))
  pub of_corpus : IsLibraryFor documents settings library

-- why these documents aren't published with the settings; want of memory has no cause
abbrev pub UnpublishedCause : List Document → Settings → Refusal → Type 0
UnpublishedCause documents settings (Publish fault) = IsRefused documents settings fault
UnpublishedCause documents settings Memory = Unit {0}
UnpublishedCause documents settings refusal = ⊥

-- the library stands under its name, where the files tell, and the text is of its numbers
pub record ImportAnswer (i : ImportWords) (was is : Option Folder) (text : List ℕ) : Type 0 where
  pub library : Parts
  pub of_corpus : HasLibrary i was library
  pub written : IsSome was → HasImport is i.library of_corpus.documents i.settings library
  pub text_is : text ≡ import_text library.shape

-- the corpus is read and isn't published, by this fault
pub record PublishCause (i : ImportWords) (held : Option Folder)
    (fault : PublishFault) : Type 0 where
  pub documents : List Document
  pub corpus : HasCorpus held i.corpus documents
  pub refused : IsRefused documents i.settings fault

-- the corpus is published, and the write of its library failed
pub record WriteCause (i : ImportWords) (was is : FilesState) : Type 0 where
  pub library : Parts
  pub of_corpus : HasLibrary i was.held library
  pub failed : Fails (record { kind = Write; name = i.library }) was is

-- when `import` refuses, but by the output
abbrev pub ImportCause : ImportWords → FilesState → FilesState → Refusal → Type 0
ImportCause i was is (Publish fault) = PublishCause i was.held fault
ImportCause i was is (File Write) = WriteCause i was is
ImportCause i was is refusal = ReadCause i.corpus was is refusal

-- an import that can be answered: the file is told and a corpus, which is published with the
-- settings
pub record CanBeImported (i : ImportWords) (held : Option Folder) : Type 0 where
  pub documents : List Document
  pub corpus : IsToldCorpus held i.corpus documents
  pub library : Parts
  pub published : IsPublished documents i.settings library
