-- What `local` leaves and says, from what its search gave.
use Rattle.std.proofs.Common.{◌≡◌, ◌⊎◌, ◌<◌, ℕ, List, [], length, Option, Some, None, Ok, Err, refl, sym, ap, subst, ◌∙◌, inl, inr, arith}
use Rattle.std.specs.Prelude.{Result, IsSome}
use Rattle.std.proofs.lemmas.List.{length-map}
use Rattle.rand_core.specs.Stream.{Stream}
use Rattle.co_link.specs.Causes.{Rose}
use Rattle.co_link.specs.Files.{Folder, file_at, IsLonger}
use Rattle.co_link.specs.declared.files.FileKind.TheVariants.{Read}
use Rattle.co_link.specs.declared.messages.Exchange.{Exchange}
use Rattle.co_noise.specs.Shapes.{Numbers}
use Rattle.co_noise.specs.Bounds.{test_of}
use Rattle.co_text.specs.Terms.{terms}
use Rattle.co_text.specs.declared.found.Found.{Found}
use Rattle.co_text.specs.declared.ranks.Ranked.{Ranked}
use Rattle.co_corpus.specs.declared.documents.Document.{Document}
use Rattle.co_bucket.specs.Placement.{IsAssignment}
use Rattle.co_bucket.proofs.OneAnswer.{refuses}
use Rattle.co_library.specs.declared.settings.Settings.{Settings}
use Rattle.co_library.specs.Libraries.{Parts, IsLibrary}
use Rattle.co_library.specs.Files.{library_in, library_bytes}
use Rattle.co_library.proofs.FileFormat.{is_read_again}
use Rattle.co_library.proofs.Ascending.{file_few}
use Rattle.co_rounds.specs.Honest.{AreHonest}
use Rattle.co_rounds.specs.Plans.{made}
use Rattle.co_rounds.specs.Placing.{choices_of, CanBePlaced, IsUnplaced}
use Rattle.co_rounds.specs.Recording.{IsLibraryFor}
use Rattle.co_client.specs.Causes.{Search, IsCause}
use Rattle.co_client.specs.Telling.{Tells, Told}
use Rattle.co_client.specs.Plain.{AnswersPlainly, plain_hits}
use Rattle.co_client.specs.declared.fault.SearchFault.{SearchFault}
use Rattle.co_client.specs.declared.fault.SearchFault.TheVariants as searching
use Rattle.co_commands.specs.declared.limits.TheConstants.{LARGEST_LIBRARY}
use Rattle.co_commands.specs.declared.refusals.Refusal.{Refusal}
use Rattle.co_commands.specs.declared.refusals.Refusal.TheVariants.{Library, LibraryTooLong, Test, Search as Unsearched, File, Output, Memory}
use Rattle.co_commands.specs.Words.{SpokenLocal, LocalWords, joined}
use Rattle.co_commands.specs.Outside.{Outside, FilesState, HasNoFault}
use Rattle.co_commands.specs.Refusals.{status_of, status_of_refused}
use Rattle.co_commands.specs.Imports.{HasImport}
use Rattle.co_commands.specs.Locals.{HasLibraryFile, CanBeServed, OpenCause, search_for, IsSearched, Searched, HasFound, FindCause, Finds, IsShown, LocalAnswer, LocalCause, LocalDue}
use Rattle.co_commands.specs.Runs.{Answered, RefusedBy}
use Rattle.co_client.proofs.Told.{told-at}
use Rattle.co_client.proofs.Tells_plainly.{tells_plainly}
use Rattle.co_commands.proofs.Drawing.{is_drawn}
use Rattle.co_commands.proofs.Outcomes.{differ, same_value}

-- ---- files

same_bytes : (a b : List ℕ) → Some (Some a) ≡ Some (Some b) → a ≡ b
same_bytes a b same = cc

-- the bytes of a file are those that the files tell
pub told_bytes : (held : Option Folder) (name bytes told : List ℕ) → (IsSome held → file_at held name ≡ Some (Some bytes)) → file_at held name ≡ Some (Some told)
    → bytes ≡ told
told_bytes None name bytes told stands is = let none : None ≡ Some (Some told) = is in absurd cc
told_bytes (Some folder) name bytes told stands is = same_bytes bytes told (sym (stands refl) ∙ is)

-- files that tell of a name tell
tells : (held : Option Folder) (name bytes : List ℕ) → file_at held name ≡ Some (Some bytes) → IsSome held
tells None name bytes is = let none : None ≡ Some (Some bytes) = is in absurd cc
tells (Some folder) name bytes is = refl

-- what `import` wrote is read as the library that it is
imported : (held : Option Folder) (name bytes : List ℕ) (documents : List Document) (settings : Settings) (library : Parts)
    → (IsSome held → file_at held name ≡ Some (Some bytes)) → HasImport held name documents settings library → library_in bytes ≡ Ok library
imported held name bytes documents settings library stands i =
    ap library_in (told_bytes held name bytes (library_bytes library) stands i.stands) ∙ is_read_again library i.of_corpus.built.good

same_library : (held : Option Folder) (name : List ℕ) (documents : List Document) (settings : Settings) (library other : Parts)
    → HasLibraryFile held name library → HasImport held name documents settings other → library ≡ other
same_library held name documents settings library other f i =
    same_value (library_in f.bytes) library other f.read (imported held name f.bytes documents settings other f.file.stands i)

-- ---- the search

-- a search for the terms of a text, over a link that never fails
abbrev pub for_text : List ℕ → ℕ → Stream → Search
for_text text pick random = record { query = terms text; pick = pick; stream = random; before = 0; now = 0; last_failed = None }

-- of a new link all exchanges are those of the search
pub searched_over : (p : LocalWords) (library : Parts) (was is : Stream) (result : Result Found SearchFault) (text : List ℕ) (before now : List Exchange)
    → text ≡ joined p.query → before ≡ [] → IsLibrary library → AreHonest library None now → Told (for_text text p.pick was) (Some before) (Some now) result is
    → IsSearched p library was is result
searched_over p library was is result text before now same new good honest told =
    let all : made (Some before) (Some now) ≡ Some now = ap (λ (es : List Exchange). made (Some es) (Some now)) new in
    let tells : Tells (search_for p was) now result is =
    subst (λ (t : List ℕ). Tells (for_text t p.pick was) now result is) same (told-at (for_text text p.pick was) (Some before) (Some now) result is told now all) in
    record {
      exchanges = now;
      honest = honest;
      tells = tells;
      drawn = is_drawn p library was is result now good honest tells.whole tells.goes tells.read tells.refused tells.asked;
      plain = λ documents settings built. tells_plainly (search_for p was) now result is tells documents settings library None built honest;
    }

-- a search in the library of a file
in_file : (p : LocalWords) (held : Option Folder) (was is : Stream) (result : Result Found SearchFault) (library : Parts) → CanBeServed held p.library library
    → IsSearched p library was is result → Searched p held was is result
in_file p held was is result library served search = record {
  library = library;
  served = served;
  search = search;
  plain = λ documents settings other i.
      let same : library ≡ other = same_library held p.library documents settings library other served.file i in
      subst (λ (l : Parts). AnswersPlainly documents settings l (terms (joined p.query)) p.pick result) same
      (search.plain documents settings (subst (λ (l : Parts). IsLibraryFor documents settings l) (sym same) i.of_corpus));
}

-- ---- how the command ends

-- a link that never fails is no cause
unsearched : (p : LocalWords) (was is : FilesState) (random left : Stream) (fault : SearchFault) → Searched p was.held random left (Err fault)
    → LocalCause p was is random left (Unsearched fault)
unsearched p was is random left searching.Link s = absurd (omega (arith, s.search.tells.refused.rose))
unsearched p was is random left fault s = s

searched : (p : LocalWords) (was is : FilesState) (random left : Stream) (fault : SearchFault) → LocalCause p was is random left (Unsearched fault)
    → Searched p was.held random left (Err fault)
searched p was is random left searching.Link cause = absurd cause
searched p was is random left fault cause = cause

pub not_found : (p : LocalWords) (was is : FilesState) (random left : Stream) (library : Parts) (refusal : Refusal) → CanBeServed was.held p.library library
    → FindCause p library random left refusal → LocalCause p was is random left refusal
not_found p was is random left library (Unsearched fault) served cause =
    unsearched p was is random left fault (in_file p was.held random left (Err fault) library served cause)
not_found p was is random left library Memory served cause = tt
not_found p was is random left library refusal served cause = absurd cause

-- what is shown of a search
pub shown_finds : (p : LocalWords) (library : Parts) (was is : Stream) (found : Result Found SearchFault) (result : Result (List ℕ) Refusal)
    → IsShown found result → IsSearched p library was is found → Finds p library was is result
shown_finds p library was is (Ok found) (Ok text) shown searched =
    record { ok = record { found = found; search = searched; text_is = shown }; cause = tt }
shown_finds p library was is (Ok found) (Err Memory) shown searched = record { ok = tt; cause = tt }
shown_finds p library was is (Err fault) (Err (Unsearched one)) shown searched =
    record { ok = tt; cause = subst (λ (f : SearchFault). IsSearched p library was is (Err f)) (sym shown) searched }
shown_finds p library was is found result shown searched = absurd shown

pub found_text : (p : LocalWords) (held : Option Folder) (was is : Stream) (library : Parts) (text : List ℕ) → CanBeServed held p.library library
    → HasFound p library was is text → LocalAnswer p held was is text
found_text p held was is library text served h =
    record { found = h.found; searched = in_file p held was is (Ok h.found) library served h.search; text_is = h.text_is }

-- ---- the status that is due

-- an answer comes only where the hits can be placed
pub local_placed : (p : LocalWords) (was is : Outside) → Answered (SpokenLocal p) was is → (due : ℕ) → LocalDue p was.files.held due → due ≡ 0
local_placed p was is a due d = d.placed (a.prints.searched.plain d.documents d.settings d.library d.file).1

-- a file that is told and was written by `import` is read, but for faults and want of memory
open_due : (name : List ℕ) (was is : FilesState) (documents : List Document) (settings : Settings) (library : Parts) (refusal : Refusal)
    → HasImport was.held name documents settings library → test_of library.shape ≡ Ok library.shape → (¬ Rose was.faults is.faults)
    → OpenCause name was is refusal → status_of refusal ≡ 10
open_due name was is documents settings library (Library place) i passes kept cause =
    absurd (differ library place (library_in cause.bytes) (imported was.held name cause.bytes documents settings library cause.file.stands i) cause.read)
open_due name was is documents settings library LibraryTooLong i passes kept cause =
    let long : LARGEST_LIBRARY < length (library_bytes library) = subst (IsLonger LARGEST_LIBRARY) i.stands (cause (tells was.held name (library_bytes library) i.stands)) in
    absurd (omega (arith, long, file_few library i.of_corpus.built.good))
open_due name was is documents settings library (Test fault) i passes kept cause =
    let same = same_library was.held name documents settings cause.library library cause.file i in
    absurd (differ library.shape fault (test_of library.shape) passes (ap (λ (l : Parts). test_of l.shape) (sym same) ∙ cause.fails))
open_due name was is documents settings library (File Read) i passes kept cause = absurd (kept cause.rose)
open_due name was is documents settings library Memory i passes kept cause = refl
open_due name was is documents settings library refusal i passes kept cause = absurd cause

-- no placement where the hits can be placed
pub misplaced : (s : Numbers) (documents buckets : List ℕ) (hits : List Ranked) → IsUnplaced s hits documents buckets → CanBePlaced s hits → ⊥
misplaced s documents buckets hits u c =
    refuses (choices_of s hits) u.ranks buckets c.choices u.witness
    (subst (λ (n : ℕ). IsAssignment (choices_of s hits) n c.choices) (sym (length-map hits _)) c.assigns)

search_due : (p : LocalWords) (held : Option Folder) (random : Stream) (es : List Exchange) (fault : SearchFault) (due : ℕ) (d : LocalDue p held due)
    → AnswersPlainly d.documents d.settings d.library (terms (joined p.query)) p.pick (Err fault) → IsCause (for_text (joined p.query) p.pick random) es fault
    → (status_of (Unsearched fault) ≡ due) ⊎ (status_of (Unsearched fault) ≡ 10)
search_due p held random es (searching.NoPlacement documents buckets) due d plain cause =
    inl (sym (d.unplaced (λ placed. misplaced d.library.shape documents buckets (plain_hits d.documents d.settings (terms (joined p.query))) plain placed)))
search_due p held random es (searching.TooManyKeywords number) due d plain cause = absurd (omega (arith, d.few, plain))
search_due p held random es (searching.Test fault) due d plain cause =
    absurd (differ d.library.shape fault (test_of d.library.shape) d.passes plain)
search_due p held random es (searching.Refused target status) due d plain cause = inr (ap status_of_refused plain)
search_due p held random es searching.Link due d plain cause = absurd (omega (arith, cause.rose))
search_due p held random es searching.OutOfMemory due d plain cause = inr refl
search_due p held random es fault due d plain cause = absurd plain

pub local_due : (p : LocalWords) (was is : Outside) (refusal : Refusal) → HasNoFault was is → RefusedBy (SpokenLocal p) was is refusal
    → (due : ℕ) → LocalDue p was.files.held due → (status_of refusal ≡ due) ⊎ (status_of refusal ≡ 10)
local_due p was is Output kept r due d = absurd (kept.out r.took.rose)
local_due p was is (Unsearched fault) kept r due d =
    let s = searched p was.files is.files was.devices.random is.devices.random fault r.cause in
    search_due p was.files.held was.devices.random s.search.exchanges fault due d (s.plain d.documents d.settings d.library d.file) s.search.tells.refused
local_due p was is refusal kept r due d = inr (open_due p.library was.files is.files d.documents d.settings d.library refusal d.file d.passes kept.files r.cause)
