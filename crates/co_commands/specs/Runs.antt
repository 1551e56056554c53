-- What a run of the program is: what each command prints, when it refuses, and what it leaves.
use Rattle.std.specs.Prelude.{◌≡◌, ◌≢◌, ◌⊎◌, ℕ, List, Option, Result, Ok, Err, IsOk}
use Rattle.co_link.specs.Files.{Folder, file_at}
use Rattle.co_link.specs.declared.files.FileKind.TheVariants.{Write}
use Rattle.co_noise.specs.Bounds.{test_of}
use Rattle.co_commands.specs.Words.{Spoken, SpokenPlain, SpokenImport, SpokenShape, SpokenLocal, SpokenServe, SpokenSearch, SpokenRehearse, SpokenWrong, spoken}
use Rattle.co_commands.specs.Outside.{Outside, Devices, SinkState, Took, TookFront, HasNoFault}
use Rattle.co_commands.specs.Refusals.{status_of, text_of, Says}
use Rattle.co_commands.specs.Searches.{PlainAnswer, PlainCause, CanBeSearched}
use Rattle.co_commands.specs.Imports.{ImportAnswer, ImportCause, CanBeImported}
use Rattle.co_commands.specs.ShapeLines.{shape_text, status_of_test}
use Rattle.co_commands.specs.Locals.{LocalAnswer, LocalCause, LocalDue}
use Rattle.co_commands.specs.Serving.{ServeAnswer, ServeFront, ServeCause, ServeDue, CallsPort}
use Rattle.co_commands.specs.Remote.{SearchAnswer, SearchCause, SearchDue, DialsOnce}
use Rattle.co_commands.specs.Rehearsals.{RehearseAnswer, RehearseCause, CanBeRehearsed}
use Rattle.co_commands.specs.declared.refusals.Refusal.{Refusal}
use Rattle.co_commands.specs.declared.refusals.Refusal.TheVariants as refusals

-- ---- a command, with what is outside before and after it

-- the text that it prints
abbrev pub Prints : Spoken → Outside → Outside → List ℕ → Type 0
Prints (SpokenPlain p) was is text = PlainAnswer p was.files.held text
Prints (SpokenImport i) was is text = ImportAnswer i was.files.held is.files.held text
Prints (SpokenShape s) was is text = text ≡ shape_text s
Prints (SpokenLocal p) was is text =
    LocalAnswer p was.files.held was.devices.random is.devices.random text
Prints (SpokenServe p) was is text = ServeAnswer p was is text
Prints (SpokenSearch p) was is text = SearchAnswer p was.devices is.devices text
Prints (SpokenRehearse p) was is text =
    RehearseAnswer p was.devices.random is.devices.random text
Prints SpokenWrong was is text = ⊥

-- the text of which a part couldn't be put: that of the answer, or the lines of the connections
-- that were served up to then
abbrev pub Begins : Spoken → Outside → Outside → List ℕ → Type 0
Begins (SpokenServe p) was is text = ServeFront p was is text
Begins command was is text = Prints command was is text

-- that its text is printed ends it with status 0
abbrev pub Passes : Spoken → Type 0
Passes (SpokenShape s) = IsOk (test_of s)
Passes command = Unit {0}

-- when it refuses, but by the output
abbrev pub Cause : Spoken → Outside → Outside → Refusal → Type 0
Cause (SpokenPlain p) was is refusal = PlainCause p was.files is.files refusal
Cause (SpokenImport i) was is refusal = ImportCause i was.files is.files refusal
Cause (SpokenShape s) was is (refusals.Test fault) = test_of s ≡ Err fault
Cause (SpokenShape s) was is refusal = refusal ≡ refusals.Memory
Cause (SpokenLocal p) was is refusal =
    LocalCause p was.files is.files was.devices.random is.devices.random refusal
Cause (SpokenServe p) was is refusal = ServeCause p was is refusal
Cause (SpokenSearch p) was is refusal = SearchCause p was.devices is.devices refusal
Cause (SpokenRehearse p) was is refusal =
    RehearseCause p was.devices.random is.devices.random refusal
Cause SpokenWrong was is refusal = refusal ≡ refusals.Words

-- the files that it changes: those of `import` are at most its library, any other command has none
abbrev pub Keeps : Spoken → Option Folder → Option Folder → Type 0
Keeps (SpokenImport i) was is =
    (name : List ℕ) → name ≢ i.library → file_at is name ≡ file_at was name
Keeps command was is = is ≡ was

-- what it takes of the devices: a search over a library draws random words, and so does a
-- rehearsal; a search over a dial draws and makes at most one dial, of its host and port; serving
-- makes at most one call to listen, on its port, and at most so many to accept as its connections;
-- any other command leaves them all
abbrev pub Uses : Spoken → Devices → Devices → Type 0
Uses (SpokenLocal p) was is = is ≡ record was { random = is.random }
Uses (SpokenRehearse p) was is = is ≡ record was { random = is.random }
Uses (SpokenServe p) was is = (is ≡ record was { port = is.port }) × CallsPort p was.port is.port
Uses (SpokenSearch p) was is = (is.port ≡ was.port) × DialsOnce p was.dial is.dial
Uses command was is = is ≡ was

-- the status that it ends with where no count of faults rises and memory is there
abbrev pub Due : Spoken → Outside → Outside → ℕ → Type 0
Due (SpokenPlain p) was is status = CanBeSearched p was.files.held × (status ≡ 0)
Due (SpokenImport i) was is status = CanBeImported i was.files.held × (status ≡ 0)
Due (SpokenShape s) was is status = status ≡ status_of_test (test_of s)
Due (SpokenLocal p) was is status = LocalDue p was.files.held status
Due (SpokenServe p) was is status = ServeDue p was.files.held × (status ≡ 0)
Due (SpokenSearch p) was is status = SearchDue p is.devices.dial status
Due (SpokenRehearse p) was is status = CanBeRehearsed p × (status ≡ 0)
Due SpokenWrong was is status = status ≡ 2

-- what a refusal leaves of the output: all, but for the lines of a shape that fails the test, and
-- where the port failed the lines of the connections before, which its cause names
abbrev pub LeavesOutput : Spoken → SinkState → SinkState → Refusal → Type 0
LeavesOutput (SpokenShape s) was is (refusals.Test fault) = Took was is (shape_text s)
LeavesOutput (SpokenServe p) was is refusals.Port = Unit {0}
LeavesOutput command was is refusal = is.bytes ≡ was.bytes

-- and of the files: all, but for a write that failed
abbrev pub LeavesFiles : Spoken → Option Folder → Option Folder → Refusal → Type 0
LeavesFiles command was is (refusals.File Write) = Keeps command was is
LeavesFiles command was is refusal = is ≡ was

-- ---- how it ends

-- the output took the whole text, and that ends it with status 0
pub record Answered (command : Spoken) (was is : Outside) : Type 0 where
  pub text : List ℕ
  pub prints : Prints command was is text
  pub passes : Passes command
  pub took : Took was.out is.out text
  pub keeps : Keeps command was.files.held is.files.held
  pub uses : Uses command was.devices is.devices

-- the output failed, and took a front of the text
pub record Interrupted (command : Spoken) (was is : Outside) : Type 0 where
  pub text : List ℕ
  pub begins : Begins command was is text
  pub took : TookFront was.out is.out text
  pub keeps : Keeps command was.files.held is.files.held
  pub uses : Uses command was.devices is.devices

-- a refusal has its cause, and leaves the output and the files
pub record Refused (command : Spoken) (was is : Outside) (refusal : Refusal) : Type 0 where
  pub cause : Cause command was is refusal
  pub out : LeavesOutput command was.out is.out refusal
  pub files : LeavesFiles command was.files.held is.files.held refusal
  pub uses : Uses command was.devices is.devices

abbrev pub RefusedBy : Spoken → Outside → Outside → Refusal → Type 0
RefusedBy command was is refusals.Output = Interrupted command was is
RefusedBy command was is refusal = Refused command was is refusal

-- a command ended
abbrev pub Ended : Spoken → Outside → Outside → Result (Unit {0}) Refusal → Type 0
Ended command was is (Ok _) = Answered command was is
Ended command was is (Err refusal) = RefusedBy command was is refusal

-- ---- a run, with the words of the command line, the error output and the status

-- the program refused, and said so, unless the error output failed
pub record Refuses (words : List (List ℕ)) (was is : Outside) (err_was err_is : SinkState)
    (status : ℕ) : Type 0 where
  pub refusal : Refusal
  pub status_is : status ≡ status_of refusal
  pub ended : RefusedBy (spoken words) was is refusal
  pub says : Says (text_of words refusal) err_was err_is

-- all that is stated of a run: status 0 comes with the answer, and says nothing; any other comes by
-- its cause, and says its line; where no count of faults rose, the status is the one that is due,
-- or want of memory; a file changes only where `import` writes it, and with status 0 or 9; of the
-- devices each command uses no more than is said of it
pub record Ran (words : List (List ℕ)) (was is : Outside) (err_was err_is : SinkState)
    (status : ℕ) : Type 0 where
  pub answered : status ≡ 0 → Answered (spoken words) was is × (err_is ≡ err_was)
  pub refused : status ≢ 0 → Refuses words was is err_was err_is status
  pub complete : HasNoFault was is → (due : ℕ) → Due (spoken words) was is due
      → (status ≡ due) ⊎ (status ≡ 10)
  pub keeps : Keeps (spoken words) was.files.held is.files.held
  pub uses : Uses (spoken words) was.devices is.devices
  pub unchanged : status ≢ 0 → status ≢ 9 → is.files.held ≡ was.files.held
