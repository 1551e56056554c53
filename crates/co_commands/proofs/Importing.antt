-- What `import` leaves, from what its steps gave.
use Rattle.std.proofs.Common.{◌≡◌, ◌≤◌, List, [], ℕ, Option, Some, None, refl, sym, ap, subst, ◌∙◌, arith}
use Rattle.std.specs.Prelude.{IsSome}
use Rattle.co_link.specs.Causes.{Rose}
use Rattle.co_link.specs.Files.{Folder, file_at}
use Rattle.co_corpus.specs.declared.documents.Document.{Document}
use Rattle.co_corpus.specs.Documents.{IsCorpus}
use Rattle.co_library.specs.Libraries.{Parts}
use Rattle.co_library.specs.Files.{library_bytes}
use Rattle.co_library.specs.Refusals.{IsPublished}
use Rattle.co_commands.specs.declared.refusals.Refusal.{Refusal}
use Rattle.co_commands.specs.declared.refusals.Refusal.TheVariants.{Publish, Memory}
use Rattle.co_commands.specs.Words.{SpokenImport, ImportWords}
use Rattle.co_commands.specs.Outside.{Outside}
use Rattle.co_commands.specs.Searches.{HasCorpus}
use Rattle.co_commands.specs.Imports.{ImportAnswer, UnpublishedCause, import_text}
use Rattle.co_commands.specs.Runs.{RefusedBy}

-- files that a read left alone, and then the library's bytes put under its name
pub import_answer : (i : ImportWords) (held mid now : Option Folder) (documents : List Document) (library : Parts) (put line : List ℕ)
    → HasCorpus held i.corpus documents → IsCorpus documents → IsPublished documents i.settings library → mid ≡ held
    → (IsSome mid → file_at now i.library ≡ Some (Some put)) → put ≡ library_bytes library → line ≡ import_text library.shape
    → ImportAnswer i held now line
import_answer i held mid now documents library put line corpus good published same stands bytes text = record {
  library = library;
  of_corpus = record { documents = documents; corpus = corpus; published = published };
  written = λ told. record {
    stands = stands (subst (λ (h : Option Folder). IsSome h) (sym same) told) ∙ ap (λ (b : List ℕ). Some (Some b)) bytes;
    of_corpus = record { corpus = good; built = published.built };
  };
  text_is = text;
}

-- documents that aren't published are a refusal
pub not_published : (i : ImportWords) (was is : Outside) (documents : List Document) (refusal : Refusal) → HasCorpus was.files.held i.corpus documents
    → UnpublishedCause documents i.settings refusal → is.out.bytes ≡ was.out.bytes → is.files.held ≡ was.files.held → is.devices ≡ was.devices
    → RefusedBy (SpokenImport i) was is refusal
not_published i was is documents (Publish fault) corpus cause out files uses =
    record { cause = record { documents = documents; corpus = corpus; refused = cause }; out = out; files = files; uses = uses }
not_published i was is documents Memory corpus cause out files uses = record { cause = tt; out = out; files = files; uses = uses }
not_published i was is documents refusal corpus cause out files uses = absurd cause

-- what a read and then a write leave of another name
pub others_kept : (held mid now : Option Folder) (name : List ℕ) → mid ≡ held → file_at now name ≡ file_at mid name → file_at now name ≡ file_at held name
others_kept held mid now name same kept = kept ∙ ap (λ (h : Option Folder). file_at h name) same

-- a count that rose from a later time rose from an earlier one
pub rose_since : (a b c : ℕ) → a ≤ b → Rose b c → Rose a c
rose_since a b c later rose = omega (arith, later, rose)

some_same : (x y : Option (List ℕ)) → Some x ≡ Some y → x ≡ y
some_same x y same = cc

-- files of which each name tells the same tell the same
pub same_files : (was is : Option Folder) → ((name : List ℕ) → file_at is name ≡ file_at was name) → is ≡ was
same_files None None same = refl
same_files None (Some now) same = let one : Some (now []) ≡ None = same [] in absurd cc
same_files (Some before) None same = let one : None ≡ Some (before []) = same [] in absurd cc
same_files (Some before) (Some now) same = λ i. Some (λ name. some_same (now name) (before name) (same name) i)
