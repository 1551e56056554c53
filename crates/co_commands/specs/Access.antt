-- What is read of a file, and how an answer is put on the output.
use Rattle.std.specs.Prelude.{◌≡◌, ◌≤◌, ℕ, List, length, Option, Some, None, IsSome, Result, Ok, Err, IfOk, IfErr}
use Rattle.co_link.specs.Files.{Folder, file_at, IsLonger}
use Rattle.co_link.specs.declared.files.FileKind.TheVariants.{Read}
use Rattle.co_commands.specs.Outside.{FilesState, SinkState, Fails, Took, TookFront}
use Rattle.co_commands.specs.declared.refusals.Refusal.{Refusal}
use Rattle.co_commands.specs.declared.refusals.Refusal.TheVariants.{File, Output, Memory}

-- ---- a file

-- the file has these bytes, where the files tell, and they are at most so many
pub record HasFile (limit : ℕ) (held : Option Folder) (name bytes : List ℕ) : Type 0 where
  pub stands : IsSome held → file_at held name ≡ Some (Some bytes)
  pub fits : length bytes ≤ limit

-- the file has more bytes than that, where the files tell
abbrev pub HasLongFile : ℕ → Option Folder → List ℕ → Type 0
HasLongFile limit held name = IsSome held → IsLonger limit (file_at held name)

-- the bytes of a file, or none where it has more than so many
abbrev pub HasAtMost : ℕ → Option Folder → List ℕ → Option (List ℕ) → Type 0
HasAtMost limit held name (Some bytes) = HasFile limit held name bytes
HasAtMost limit held name None = HasLongFile limit held name

-- the file has bytes, at most so many, that are read as this
pub record HasReading {A : Type 0} (limit : ℕ) (held : Option Folder) (name : List ℕ)
    (read_as : List ℕ → A) (value : A) : Type 0 where
  pub bytes : List ℕ
  pub file : HasFile limit held name bytes
  pub read : read_as bytes ≡ value

-- why a file isn't read; want of memory has no cause
abbrev pub UnreadCause : List ℕ → FilesState → FilesState → Refusal → Type 0
UnreadCause name was is (File Read) = Fails (record { kind = Read; name = name }) was is
UnreadCause name was is Memory = Unit {0}
UnreadCause name was is refusal = ⊥

-- what is made of a file has this meaning, and a refusal this cause; the files hold what they held
pub record Opens {A : Type 0} (means : Option Folder → List ℕ → A → Type 0)
    (refuses : List ℕ → FilesState → FilesState → Refusal → Type 0) (name : List ℕ)
    (was is : FilesState) (result : Result A Refusal) : Type 0 where
  pub ok : IfOk result (means was.held name)
  pub cause : IfErr result (refuses name was is)
  pub files : is.held ≡ was.held
  pub later : was.faults ≤ is.faults

-- ---- the output

-- the output took the whole text, or failed and took a front of it
abbrev pub Puts : List ℕ → SinkState → SinkState → Result (Unit {0}) Refusal → Type 0
Puts text was is (Ok _) = Took was is text × (is.faults ≡ was.faults)
Puts text was is (Err Output) = TookFront was is text
Puts text was is (Err refusal) = ⊥
