-- How `serve` ends, by what its steps gave.
use Rattle.std.proofs.Common.{◌≡◌, ◌≤◌, ◌<◌, ◌+◌, ℕ, List, [], length, Option, Ok, Err, refl, sym, ap, subst, ◌∙◌, inl, inr, arith}
use Rattle.std.specs.Prelude.{Result, Bool, IsSome, option_map, option_and_then}
use Rattle.rand_core.specs.Stream.{Stream}
use Rattle.co_link.specs.Causes.{Rose}
use Rattle.co_link.specs.Files.{IsLonger}
use Rattle.co_link.specs.Ports.{PortTells, Listens, ended_with}
use Rattle.co_link.specs.declared.files.FileKind.TheVariants.{Read}
use Rattle.co_link.specs.declared.sink.Failed.{Failed}
use Rattle.co_noise.specs.Bounds.{test_of}
use Rattle.co_serving.specs.declared.ended.Served.{Served}
use Rattle.co_library.specs.Libraries.{Parts}
use Rattle.co_library.specs.Files.{library_in}
use Rattle.co_commands.specs.declared.limits.TheConstants.{LARGEST_LIBRARY}
use Rattle.co_commands.specs.declared.refusals.Refusal.{Refusal}
use Rattle.co_commands.specs.declared.refusals.Refusal.TheVariants.{Library, LibraryTooLong, Test, File, Port, Output, Memory}
use Rattle.co_commands.specs.Words.{SpokenServe, ServeWords}
use Rattle.co_commands.specs.Outside.{Outside, Devices, FilesState, DialState, PortState, SinkState, HasNoFault, outside, devices}
use Rattle.co_commands.specs.Refusals.{status_of}
use Rattle.co_commands.specs.Locals.{CanBeServed, OpenCause}
use Rattle.co_commands.specs.Connections.{AreServed, Calls, raised, connection_lines}
use Rattle.co_commands.specs.Served.{Accepted, ServesSome}
use Rattle.co_commands.specs.Serving.{HasServed, ServeDue, uncalled, called}
use Rattle.co_commands.specs.Runs.{Uses, Ended, RefusedBy}
use Rattle.co_commands.proofs.Outcomes.{differ, same_value}
use Rattle.co_commands.proofs.Searching.{told_bytes}
use Rattle.co_commands.proofs.Talks.{none_served}
use Rattle.co_commands.proofs.Telling.{took_nothing}

-- ---- what it uses

-- devices that are left are used within bounds
left : (p : ServeWords) (was is : Devices) → is ≡ was → Uses (SpokenServe p) was is
left p was is same = (subst (λ (d : Devices). d ≡ record was { port = d.port }) (sym same) refl, uncalled (ap (λ (d : Devices). d.port) same))

-- ---- before it listens

-- a library that isn't opened is a refusal, which leaves the devices
pub unopened : (p : ServeWords) (was is : Outside) (refusal : Refusal) → OpenCause p.library was.files is.files refusal → is.devices ≡ was.devices
    → is.out.bytes ≡ was.out.bytes → is.files.held ≡ was.files.held → RefusedBy (SpokenServe p) was is refusal
unopened p was is (Library place) cause same out files =
    record { cause = (cause, ap (λ (d : Devices). d.port) same); out = out; files = files; uses = left p was.devices is.devices same }
unopened p was is LibraryTooLong cause same out files =
    record { cause = (cause, ap (λ (d : Devices). d.port) same); out = out; files = files; uses = left p was.devices is.devices same }
unopened p was is (Test fault) cause same out files =
    record { cause = (cause, ap (λ (d : Devices). d.port) same); out = out; files = files; uses = left p was.devices is.devices same }
unopened p was is (File Read) cause same out files =
    record { cause = (cause, ap (λ (d : Devices). d.port) same); out = out; files = files; uses = left p was.devices is.devices same }
unopened p was is Memory cause same out files =
    record { cause = (cause, ap (λ (d : Devices). d.port) same); out = out; files = files; uses = left p was.devices is.devices same }
unopened p was is refusal cause same out files = absurd cause

-- ---- from the call to listen on

abbrev all_outputs : Bool → Option (List (List ℕ)) → Option (List ℕ) → Option (List (List ℕ))
all_outputs connected outputs put = option_and_then (λ (os : List (List ℕ)). option_map (λ (p : List ℕ). ended_with connected os p) put) outputs

-- what a port tells the same of connections, it told before
served_from : (library : Parts) (served : List Served) (was mid is : PortState) → AreServed library served mid is → mid.tells.waiting ≡ was.tells.waiting
    → mid.tells.ended ≡ was.tells.ended → mid.tells.connected ≡ was.tells.connected → mid.put ≡ was.put → mid.take_faults ≡ was.take_faults
    → mid.put_faults ≡ was.put_faults → AreServed library served was is
served_from library served was mid is a waits ended connected put takes puts = record {
  told = λ waiting outputs waiting_is outputs_are. a.told waiting outputs (waits ∙ waiting_is)
      (ap (λ (c : Bool). all_outputs c mid.tells.ended mid.put) connected ∙ ap (λ (o : Option (List (List ℕ))). all_outputs was.tells.connected o mid.put) ended
      ∙ ap (λ (o : Option (List ℕ)). all_outputs was.tells.connected was.tells.ended o) put ∙ outputs_are);
  read_faults = omega (arith, takes, a.read_faults);
  write_faults = omega (arith, puts, a.write_faults);
}

-- the call to listen failed
pub cant_listen : (p : ServeWords) (files_was files_is : FilesState) (random : Stream) (dial : DialState) (was is : PortState) (out : SinkState) (library : Parts)
    (fault : Failed) → CanBeServed files_was.held p.library library → files_is.held ≡ files_was.held → 1 ≤ p.connections
    → Listens was.tells is.tells p.port (Err fault) → is.put ≡ was.put → is.take_faults ≡ was.take_faults → is.put_faults ≡ was.put_faults → Rose was.faults is.faults
    → RefusedBy (SpokenServe p) (outside files_was (devices random dial was) out) (outside files_is (devices random dial is) out) Port
cant_listen p files_was files_is random dial was is out library fault opened files some listens put takes puts rose =
    let calls : Calls p.port 0 was.tells is.tells = record {
      listens = ap (λ (t : PortTells). t.listens) listens;
      last_port = ap (λ (t : PortTells). t.last_port) listens;
      accepts_are = ap (λ (t : PortTells). t.accepts) listens;
    } in
    record {
      cause = record {
        served = [];
        serving = record {
          library = library;
          opened = opened;
          few = omega arith;
          serves = served_from library [] was is is (none_served library is) (ap (λ (t : PortTells). t.waiting) listens) (ap (λ (t : PortTells). t.ended) listens)
              (ap (λ (t : PortTells). t.connected) listens) put takes puts;
        };
        fewer = omega (arith, some);
        rose = rose;
        took = took_nothing out.bytes;
        failed = inl (ap (λ (t : PortTells). t.listening) listens, refl, calls);
      };
      out = tt;
      files = files;
      uses = (refl, called 0 (omega arith) calls);
    }

-- one call to listen, and then so many to accept
called_so : (port accepts : ℕ) (was mid is : PortTells) → Listens was mid port (Ok tt) → Accepted accepts mid is → Calls port accepts was is
called_so port accepts was mid is listens accepted = record {
  listens = accepted.listens ∙ ap (λ (t : PortTells). t.listens) listens;
  last_port = accepted.last_port ∙ ap (λ (t : PortTells). t.last_port) listens;
  accepts_are = accepted.accepts_are ∙ ap (λ (t : PortTells). raised t.accepts accepts) listens;
}

-- what was served behind a call to listen was served by the command
has_served : (p : ServeWords) (was is : Outside) (mid : PortState) (library : Parts) (served : List Served) → CanBeServed was.files.held p.library library
    → length served ≤ p.connections → Listens was.devices.port.tells mid.tells p.port (Ok tt) → mid.put ≡ was.devices.port.put
    → mid.take_faults ≡ was.devices.port.take_faults → mid.put_faults ≡ was.devices.port.put_faults → AreServed library served mid is.devices.port
    → HasServed p was is served
has_served p was is mid library served opened few listens put takes puts serves = record {
  library = library;
  opened = opened;
  few = few;
  serves = served_from library served was.devices.port mid is.devices.port serves (ap (λ (t : PortTells). t.waiting) listens)
      (ap (λ (t : PortTells). t.ended) listens) (ap (λ (t : PortTells). t.connected) listens) put takes puts;
}

-- what was served behind a call to listen ends the command
pub serving_ends : (p : ServeWords) (files_was files_is : FilesState) (random : Stream) (dial : DialState) (was mid is : PortState) (out_was out_is : SinkState)
    (library : Parts) (result : Result (Unit {0}) Refusal) → CanBeServed files_was.held p.library library → files_is.held ≡ files_was.held
    → Listens was.tells mid.tells p.port (Ok tt) → mid.put ≡ was.put → mid.take_faults ≡ was.take_faults → mid.put_faults ≡ was.put_faults → mid.faults ≡ was.faults
    → ServesSome library p.connections mid is out_was out_is result
    → Ended (SpokenServe p) (outside files_was (devices random dial was) out_was) (outside files_is (devices random dial is) out_is) result
serving_ends p files_was files_is random dial was mid is out_was out_is library (Ok done) opened files listens put takes puts faults s =
    let calls = called_so p.port (length s.0) was.tells mid.tells is.tells listens s.2.accepted in
    record {
      text = connection_lines 1 s.0;
      prints = record {
        served = s.0;
        serving = has_served p _ _ mid library s.0 opened (omega (arith, s.1)) listens put takes puts s.2.serves;
        all = s.1;
        calls = calls;
        text_is = refl;
      };
      passes = tt;
      took = s.2.took;
      keeps = files;
      uses = (refl, called (length s.0) (omega (arith, s.1)) calls);
    }
serving_ends p files_was files_is random dial was mid is out_was out_is library (Err Output) opened files listens put takes puts faults s =
    let calls = called_so p.port (length s.0) was.tells mid.tells is.tells listens s.2.accepted in
    record {
      text = connection_lines 1 s.0;
      begins = record {
        served = s.0;
        serving = has_served p _ _ mid library s.0 opened s.1 listens put takes puts s.2.serves;
        calls = calls;
        text_is = refl;
      };
      took = s.2.took;
      keeps = files;
      uses = (refl, called (length s.0) s.1 calls);
    }
serving_ends p files_was files_is random dial was mid is out_was out_is library (Err Port) opened files listens put takes puts faults s =
    let calls = called_so p.port (length s.0 + 1) was.tells mid.tells is.tells listens s.2.accepted in
    record {
      cause = record {
        served = s.0;
        serving = has_served p _ _ mid library s.0 opened (omega (arith, s.1)) listens put takes puts s.2.serves;
        fewer = s.1;
        rose = subst (λ (n : ℕ). Rose n is.faults) faults s.2.rose;
        took = s.2.took;
        failed = inr (s.2.accepted.listening, calls);
      };
      out = tt;
      files = files;
      uses = (refl, called (length s.0 + 1) (omega (arith, s.1)) calls);
    }
serving_ends p files_was files_is random dial was mid is out_was out_is library (Err refusal) opened files listens put takes puts faults s = absurd s

-- ---- the status that is due

-- a library that is told and passes the test is opened, but for faults and want of memory
opened_due : (name : List ℕ) (was is : FilesState) (library : Parts) (refusal : Refusal) → IsSome was.held → CanBeServed was.held name library
    → (¬ Rose was.faults is.faults) → OpenCause name was is refusal → status_of refusal ≡ 10
opened_due name was is library (Library place) told served kept cause =
    let same = told_bytes was.held name cause.bytes served.file.bytes cause.file.stands (served.file.file.stands told) in
    absurd (differ library place (library_in cause.bytes) (ap library_in same ∙ served.file.read) cause.read)
opened_due name was is library LibraryTooLong told served kept cause =
    let long : LARGEST_LIBRARY < length served.file.bytes = subst (IsLonger LARGEST_LIBRARY) (served.file.file.stands told) (cause told) in
    absurd (omega (arith, long, served.file.file.fits))
opened_due name was is library (Test fault) told served kept cause =
    let same = told_bytes was.held name cause.file.bytes served.file.bytes cause.file.file.stands (served.file.file.stands told) in
    let one = same_value (library_in cause.file.bytes) cause.library library cause.file.read (ap library_in same ∙ served.file.read) in
    absurd (differ library.shape fault (test_of library.shape) served.passes (ap (λ (l : Parts). test_of l.shape) (sym one) ∙ cause.fails))
opened_due name was is library (File Read) told served kept cause = absurd (kept cause.rose)
opened_due name was is library Memory told served kept cause = refl
opened_due name was is library refusal told served kept cause = absurd cause

pub serve_due : (p : ServeWords) (was is : Outside) (refusal : Refusal) → HasNoFault was is → RefusedBy (SpokenServe p) was is refusal
    → ServeDue p was.files.held → status_of refusal ≡ 10
serve_due p was is Output kept r due = absurd (kept.out r.took.rose)
serve_due p was is Port kept r due = absurd (kept.port r.cause.rose)
serve_due p was is refusal kept r due = opened_due p.library was.files is.files due.library refusal due.told due.served kept.files r.cause.0
