-- How a command ends, by the causes of its steps.
use Rattle.std.proofs.Common.{◌≡◌, ◌≢◌, ◌≤◌, ◌⊎◌, ℕ, List, Option, Some, None, Ok, Err, refl, sym, ap, subst, ◌∙◌, inl, inr, arith}
use Rattle.std.specs.Prelude.{Result, IsOk, Bool, true, false, ◌==◌, if◌then◌else◌}
use mathlib.Core.Bool.{true≢false}
use Rattle.co_link.specs.Causes.{Rose}
use Rattle.co_link.specs.Files.{Folder, file_at, IsLonger}
use Rattle.co_link.specs.declared.files.FileKind.TheVariants.{Read, Write}
use Rattle.co_corpus.specs.Reading.{corpus_of}
use Rattle.co_corpus.specs.declared.documents.Document.{Document}
use Rattle.co_corpus.specs.declared.reading.CorpusFault.{CorpusFault}
use Rattle.co_corpus.specs.declared.reading.CorpusFault.TheVariants.{Empty, OutOfMemory}
use Rattle.co_noise.specs.Shapes.{Numbers}
use Rattle.co_noise.specs.Bounds.{test_of}
use Rattle.co_noise.specs.declared.testing.TestFault.{TestFault}
use Rattle.co_library.specs.Refusals.{IsPublished, IsRefused}
use Rattle.co_library.specs.Libraries.{Parts}
use Rattle.co_library.specs.declared.settings.Settings.{Settings}
use Rattle.co_library.specs.declared.publishing.PublishFault.{PublishFault}
use Rattle.co_library.specs.declared.publishing.PublishFault.TheVariants as publishing
use Rattle.co_library.proofs.OneAnswer.{no_refusal}
use Rattle.co_client.specs.declared.fault.SearchFault.{SearchFault}
use Rattle.co_client.specs.declared.fault.SearchFault.TheVariants as searching
use Rattle.co_commands.proofs.Outcomes.{differ, same_value}
use Rattle.co_commands.proofs.Searching.{local_due, local_placed}
use Rattle.co_commands.proofs.Serves.{serve_due}
use Rattle.co_commands.proofs.Rehearsing.{rehearse_due}
use Rattle.co_commands.proofs.Remotes.{search_due, search_placed}
use Rattle.co_commands.specs.declared.limits.TheConstants.{LARGEST_CORPUS}
use Rattle.co_commands.specs.declared.refusals.Refusal.{Refusal}
use Rattle.co_commands.specs.declared.refusals.Refusal.TheVariants.{Corpus, CorpusTooLong, Publish, Test, Keywords, Search, File, Output, Memory}
use Rattle.co_commands.specs.Words.{Spoken, SpokenPlain, SpokenImport, SpokenShape, SpokenLocal, SpokenServe, SpokenSearch, SpokenRehearse, SpokenWrong, PlainWords, ImportWords, spoken}
use Rattle.co_commands.specs.declared.words.Command.{Command}
use Rattle.co_commands.specs.Commands.{command_shown}
use Rattle.co_commands.specs.Outside.{Outside, FilesState, SinkState, HasNoFault}
use Rattle.co_commands.specs.Access.{Puts}
use Rattle.co_commands.specs.Refusals.{status_of, status_of_publishing, status_of_search, text_of, Says, Finishes}
use Rattle.co_commands.specs.Searches.{HasCorpus, IsToldCorpus, ReadCause, TextCause, CanBeSearched}
use Rattle.co_commands.specs.Imports.{CanBeImported}
use Rattle.co_commands.specs.ShapeLines.{status_of_test}
use Rattle.co_commands.specs.Runs.{Prints, Begins, Passes, Keeps, Uses, Due, Answered, Ended, RefusedBy, Ran}

-- ---- refusals of the steps

-- ---- the answer

-- the text couldn't be put whole
pub put_fails : (command : Spoken) (was is : Outside) (text : List ℕ) (refusal : Refusal) → Puts text was.out is.out (Err refusal) → Begins command was is text
    → Keeps command was.files.held is.files.held → Uses command was.devices is.devices → RefusedBy command was is refusal
put_fails command was is text Output puts begins keeps uses = record { text = text; begins = begins; took = puts; keeps = keeps; uses = uses }
put_fails command was is text refusal puts begins keeps uses = absurd puts

-- a command ends with the put of its text
pub put_ends : (command : Spoken) (was is : Outside) (text : List ℕ) (result : Result (Unit {0}) Refusal) → Puts text was.out is.out result
    → Prints command was is text → (Prints command was is text → Begins command was is text) → Passes command
    → Keeps command was.files.held is.files.held → Uses command was.devices is.devices → Ended command was is result
put_ends command was is text (Ok done) puts prints begins passes keeps uses =
    record { text = text; prints = prints; passes = passes; took = puts.0; keeps = keeps; uses = uses }
put_ends command was is text (Err refusal) puts prints begins passes keeps uses = put_fails command was is text refusal puts (begins prints) keeps uses

-- ---- the status that is due

-- what the bytes of a file read as
abbrev of_file : Option (Option (List ℕ)) → Result (List Document) CorpusFault
of_file None = Err Empty
of_file (Some None) = Err Empty
of_file (Some (Some bytes)) = corpus_of bytes

-- a file that is told has one content, which reads in one way
read_as : (held : Option Folder) (name : List ℕ) (documents : List Document) → IsToldCorpus held name documents
    → (bytes : List ℕ) → file_at held name ≡ Some (Some bytes) → corpus_of bytes ≡ Ok documents
read_as held name documents c bytes file = ap of_file (sym file ∙ c.corpus.file.stands c.told) ∙ c.corpus.read

same_documents : (held : Option Folder) (name : List ℕ) (ds es : List Document) → IsToldCorpus held name ds → HasCorpus held name es → es ≡ ds
same_documents held name ds es told c = same_value (corpus_of c.bytes) es ds c.read (read_as held name ds told c.bytes (c.file.stands told.told))

-- a corpus that is told is read, but for faults and want of memory
read_due : (name : List ℕ) (was is : FilesState) (documents : List Document) (refusal : Refusal) → IsToldCorpus was.held name documents
    → (¬ Rose was.faults is.faults) → ReadCause name was is refusal → status_of refusal ≡ 10
read_due name was is documents (Corpus fault) told kept cause =
    absurd (differ documents fault (corpus_of cause.bytes) (read_as was.held name documents told cause.bytes (cause.file.stands told.told)) cause.read)
read_due name was is documents CorpusTooLong told kept cause =
    absurd (omega (arith, told.corpus.file.fits, subst (IsLonger LARGEST_CORPUS) (told.corpus.file.stands told.told) (cause told.told)))
read_due name was is documents (File Read) told kept cause = absurd (kept cause.rose)
read_due name was is documents Memory told kept cause = refl
read_due name was is documents refusal told kept cause = absurd cause

text_due : (p : PlainWords) (held : Option Folder) (refusal : Refusal) → CanBeSearched p held → TextCause p refusal → status_of refusal ≡ 10
text_due p held (Publish (publishing.Setting which)) can cause = let settings = can.settings in absurd cc
text_due p held (Keywords number) can cause = absurd (omega (arith, can.few, cause.many))
text_due p held Memory can cause = refl
text_due p held refusal can cause = absurd cause

plain_due : (p : PlainWords) (was is : Outside) (refusal : Refusal) → HasNoFault was is → RefusedBy (SpokenPlain p) was is refusal
    → CanBeSearched p was.files.held → status_of refusal ≡ 10
plain_due p was is Output kept r can = absurd (kept.out r.took.rose)
plain_due p was is (Publish fault) kept r can = text_due p was.files.held (Publish fault) can r.cause.cause
plain_due p was is (Keywords number) kept r can = text_due p was.files.held (Keywords number) can r.cause.cause
plain_due p was is refusal kept r can = read_due p.corpus was.files is.files can.documents refusal can.corpus kept.files r.cause

-- of a corpus that is published no fault but want of memory has its cause
publish_due : (documents : List Document) (s : Settings) (l : Parts) (fault : PublishFault) → IsPublished documents s l
    → IsRefused documents s fault → status_of_publishing fault ≡ 10
publish_due documents s l publishing.OutOfMemory p r = refl
publish_due documents s l fault p r = absurd (no_refusal documents s l fault (λ e. absurd cc) p r)

import_due : (i : ImportWords) (was is : Outside) (refusal : Refusal) → HasNoFault was is → RefusedBy (SpokenImport i) was is refusal
    → CanBeImported i was.files.held → status_of refusal ≡ 10
import_due i was is Output kept r can = absurd (kept.out r.took.rose)
import_due i was is (Publish fault) kept r can =
    publish_due can.documents i.settings can.library fault can.published
    (subst (λ (ds : List Document). IsRefused ds i.settings fault)
    (same_documents was.files.held i.corpus can.documents r.cause.documents can.corpus r.cause.corpus) r.cause.refused)
import_due i was is (File Write) kept r can = absurd (kept.files r.cause.failed.rose)
import_due i was is refusal kept r can = read_due i.corpus was.files is.files can.documents refusal can.corpus kept.files r.cause

passed : (r : Result Numbers TestFault) → IsOk r → status_of_test r ≡ 0
passed (Ok s) ok = refl
passed (Err fault) ok = absurd (true≢false (sym ok))

shape_due : (s : Numbers) (was is : Outside) (refusal : Refusal) → HasNoFault was is → RefusedBy (SpokenShape s) was is refusal
    → (status_of refusal ≡ status_of_test (test_of s)) ⊎ (status_of refusal ≡ 10)
shape_due s was is Output kept r = absurd (kept.out r.took.rose)
shape_due s was is (Test fault) kept r = inl (ap status_of_test (sym r.cause))
shape_due s was is refusal kept r = inr (ap status_of r.cause)

pub due_answered : (command : Spoken) (was is : Outside) → Answered command was is → (due : ℕ) → Due command was is due → 0 ≡ due
due_answered (SpokenPlain p) was is a due d = sym d.1
due_answered (SpokenImport i) was is a due d = sym d.1
due_answered (SpokenShape s) was is a due d = sym (d ∙ passed (test_of s) a.passes)
due_answered (SpokenLocal p) was is a due d = sym (local_placed p was is a due d)
due_answered (SpokenServe p) was is a due d = sym d.1
due_answered (SpokenSearch p) was is a due d = sym (search_placed p was is a due d)
due_answered (SpokenRehearse p) was is a due d = sym d.1
due_answered SpokenWrong was is a due d = absurd a.prints

pub due_refused : (command : Spoken) (was is : Outside) (refusal : Refusal) → HasNoFault was is → RefusedBy command was is refusal
    → (due : ℕ) → Due command was is due → (status_of refusal ≡ due) ⊎ (status_of refusal ≡ 10)
due_refused (SpokenPlain p) was is refusal kept r due d = inr (plain_due p was is refusal kept r d.0)
due_refused (SpokenImport i) was is refusal kept r due d = inr (import_due i was is refusal kept r d.0)
due_refused (SpokenShape s) was is refusal kept r due d =
    subst (λ (n : ℕ). (status_of refusal ≡ n) ⊎ (status_of refusal ≡ 10)) (sym d) (shape_due s was is refusal kept r)
due_refused (SpokenLocal p) was is refusal kept r due d = local_due p was is refusal kept r due d
due_refused (SpokenServe p) was is refusal kept r due d = inr (serve_due p was is refusal kept r d.0)
due_refused (SpokenSearch p) was is refusal kept r due d = search_due p was is refusal kept r due d
due_refused (SpokenRehearse p) was is refusal kept r due d = inr (rehearse_due p was is refusal kept r d.0)
due_refused SpokenWrong was is Output kept r due d = absurd (kept.out r.took.rose)
due_refused SpokenWrong was is refusal kept r due d = inl (ap status_of r.cause ∙ sym d)

-- ---- a run

-- files that are as they were have kept what a command keeps
pub keeps_all : (command : Spoken) (was is : Option Folder) → is ≡ was → Keeps command was is
keeps_all (SpokenImport i) was is same = λ name differs. ap (λ (h : Option Folder). file_at h name) same
keeps_all (SpokenPlain p) was is same = same
keeps_all (SpokenShape s) was is same = same
keeps_all (SpokenLocal p) was is same = same
keeps_all (SpokenServe p) was is same = same
keeps_all (SpokenSearch p) was is same = same
keeps_all (SpokenRehearse p) was is same = same
keeps_all SpokenWrong was is same = same

refused_keeps : (command : Spoken) (was is : Outside) (refusal : Refusal) → RefusedBy command was is refusal → Keeps command was.files.held is.files.held
refused_keeps command was is Output r = r.keeps
refused_keeps command was is (File Write) r = r.files
refused_keeps command was is refusal r = keeps_all command was.files.held is.files.held r.files

refused_uses : (command : Spoken) (was is : Outside) (refusal : Refusal) → RefusedBy command was is refusal → Uses command was.devices is.devices
refused_uses command was is Output r = r.uses
refused_uses command was is refusal r = r.uses

unchanged : (command : Spoken) (was is : Outside) (refusal : Refusal) → RefusedBy command was is refusal → status_of refusal ≢ 9 → is.files.held ≡ was.files.held
unchanged command was is Output r other = absurd (other refl)
unchanged command was is (File Write) r other = absurd (other refl)
unchanged command was is refusal r other = r.files

refused_positive : (b : Bool) → 8 ≤ (if b then 10 else 8)
refused_positive true = omega arith
refused_positive false = omega arith

search_positive : (fault : SearchFault) → status_of_search fault ≢ 0
search_positive (searching.Refused target status) zero = absurd (omega (arith, refused_positive (status == 503), zero))
search_positive fault zero = absurd cc

-- no refusal has status 0
positive : (refusal : Refusal) → status_of refusal ≢ 0
positive (Corpus OutOfMemory) zero = absurd cc
positive (Corpus fault) zero = absurd cc
positive (Publish (publishing.Test fault)) zero = absurd cc
positive (Publish publishing.OutOfMemory) zero = absurd cc
positive (Publish fault) zero = absurd cc
positive (Search fault) zero = search_positive fault zero
positive refusal zero = absurd cc

ran_answered : (words : List (List ℕ)) (command : Spoken) (was is : Outside) (err : SinkState) → command ≡ spoken words → Answered command was is
    → Ran words was is err err 0
ran_answered words command was is err same a =
    let answered : Answered (spoken words) was is = subst (λ (c : Spoken). Answered c was is) same a in
    record {
      answered = λ zero. (answered, refl);
      refused = λ other. absurd (other refl);
      complete = λ kept due d. inl (due_answered (spoken words) was is answered due d);
      keeps = answered.keeps;
      uses = answered.uses;
      unchanged = λ other nine. absurd (other refl);
    }

ran_refused : (words : List (List ℕ)) (command : Spoken) (was is : Outside) (err_was err_is : SinkState) (refusal : Refusal) (status : ℕ)
    → command ≡ spoken words → RefusedBy command was is refusal → status ≡ status_of refusal → Says (text_of words refusal) err_was err_is
    → Ran words was is err_was err_is status
ran_refused words command was is err_was err_is refusal status same r status_is says =
    let ended : RefusedBy (spoken words) was is refusal = subst (λ (c : Spoken). RefusedBy c was is refusal) same r in
    record {
      answered = λ zero. absurd (positive refusal (sym status_is ∙ zero));
      refused = λ other. record { refusal = refusal; status_is = status_is; ended = ended; says = says };
      complete = λ kept due d. subst (λ (n : ℕ). (n ≡ due) ⊎ (n ≡ 10)) (sym status_is) (due_refused (spoken words) was is refusal kept ended due d);
      keeps = refused_keeps (spoken words) was is refusal ended;
      uses = refused_uses (spoken words) was is refusal ended;
      unchanged = λ other nine. unchanged (spoken words) was is refusal ended (λ e. nine (status_is ∙ e));
    }

-- a command that was read ended, and its end was finished
pub ran : (words : List (List ℕ)) (read command : Command) (was is : Outside) (err_was err_is : SinkState) (result : Result (Unit {0}) Refusal) (status : ℕ)
    → read ≡ command → command_shown read ≡ spoken words → Ended (command_shown command) was is result → Finishes words result err_was err_is status
    → Ran words was is err_was err_is status
ran words read command was is err_was err_is (Ok done) status is_read same ended f =
    subst (λ (n : ℕ). Ran words was is err_was err_is n) (sym f.0)
    (subst (λ (err : SinkState). Ran words was is err_was err 0) (sym f.1)
    (ran_answered words (command_shown command) was is err_was (ap command_shown (sym is_read) ∙ same) ended))
ran words read command was is err_was err_is (Err refusal) status is_read same ended f =
    ran_refused words (command_shown command) was is err_was err_is refusal status (ap command_shown (sym is_read) ∙ same) ended f.0 f.1
