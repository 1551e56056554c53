-- What the program meets outside itself, at one moment of a call.
use Rattle.std.specs.Prelude.{◌≡◌, ℕ, List, Option, Some}
use Rattle.rand_core.specs.Stream.{Stream}
use Rattle.co_link.specs.Causes.{Rose}
use Rattle.co_link.specs.Files.{Folder, FileCall}
use Rattle.co_link.specs.Held.{TookWhole, TookPrefix}
use Rattle.co_link.specs.Exchanges.{LinkCall, DialCall}
use Rattle.co_link.specs.Ports.{PortTells}
use Rattle.co_link.specs.declared.messages.Exchange.{Exchange}

-- what files hold, where they tell it, how often a call of theirs failed, and the last that failed
pub record FilesState : Type 0 where
  pub held : Option Folder
  pub faults : ℕ
  pub last_failed : Option FileCall

-- what was put so far, where the sink tells it, and how often a put failed
pub record SinkState : Type 0 where
  pub bytes : Option (List ℕ)
  pub faults : ℕ

-- the exchanges of a dial's link, where it tells them; how often a call of it failed, and the
-- exchange that failed last; how often it was dialled, and the last dial
pub record DialState : Type 0 where
  pub exchanges : Option (List Exchange)
  pub faults : ℕ
  pub last_failed : Option LinkCall
  pub dials : ℕ
  pub last_dial : Option DialCall

-- what a port tells of its calls, of waiting inputs and of ended outputs, and how often listening
-- or accepting failed; of its current connection what is left to take and what was put, where it
-- tells these; and how often taking failed, and putting
pub record PortState : Type 0 where
  pub tells : PortTells
  pub faults : ℕ
  pub left : Option (List ℕ)
  pub put : Option (List ℕ)
  pub take_faults : ℕ
  pub put_faults : ℕ

-- the random words that are left, the dial and the port
pub record Devices : Type 0 where
  pub random : Stream
  pub dial : DialState
  pub port : PortState

-- the files, the devices and the output
pub record Outside : Type 0 where
  pub files : FilesState
  pub devices : Devices
  pub out : SinkState

-- ---- the same by their parts

abbrev pub devices : Stream → DialState → PortState → Devices
devices random dial port = record { random = random; dial = dial; port = port }

abbrev pub outside : FilesState → Devices → SinkState → Outside
outside files devices out = record { files = files; devices = devices; out = out }

-- ---- the same of an object, by what its trait tells of it

abbrev pub files_by : {F : Type 0} → (F → Option Folder) → (F → ℕ) → (F → Option FileCall) → F
    → FilesState
files_by held faults last_failed f =
    record { held = held f; faults = faults f; last_failed = last_failed f }

abbrev pub sink_by : {S : Type 0} → (S → Option (List ℕ)) → (S → ℕ) → S → SinkState
sink_by bytes faults s = record { bytes = bytes s; faults = faults s }

abbrev pub dial_by : {D : Type 0} → (D → Option (List Exchange)) → (D → ℕ) → (D → Option LinkCall)
    → (D → ℕ) → (D → Option DialCall) → D → DialState
dial_by exchanges faults last_failed dials last_dial d = record {
  exchanges = exchanges d;
  faults = faults d;
  last_failed = last_failed d;
  dials = dials d;
  last_dial = last_dial d;
}

abbrev pub port_by : {P : Type 0} → (P → PortTells) → (P → ℕ) → (P → Option (List ℕ))
    → (P → Option (List ℕ)) → (P → ℕ) → (P → ℕ) → P → PortState
port_by tells faults left put take_faults put_faults p = record {
  tells = tells p;
  faults = faults p;
  left = left p;
  put = put p;
  take_faults = take_faults p;
  put_faults = put_faults p;
}

-- ---- what changed

-- a sink took these bytes, whole
abbrev pub Took : SinkState → SinkState → List ℕ → Type 0
Took was is text = TookWhole was.bytes is.bytes text

-- a put of these bytes failed, of which a front was taken
pub record TookFront (was is : SinkState) (text : List ℕ) : Type 0 where
  pub front : TookPrefix was.bytes is.bytes text
  pub rose : Rose was.faults is.faults

-- this call on the files failed
pub record Fails (call : FileCall) (was is : FilesState) : Type 0 where
  pub rose : Rose was.faults is.faults
  pub last : is.last_failed ≡ Some call

-- no count of faults rose, but for those of a connection
pub record HasNoFault (was is : Outside) : Type 0 where
  pub files : ¬ Rose was.files.faults is.files.faults
  pub dial : ¬ Rose was.devices.dial.faults is.devices.dial.faults
  pub port : ¬ Rose was.devices.port.faults is.devices.port.faults
  pub out : ¬ Rose was.out.faults is.out.faults
