-- What the program's own types stand for.
use Rattle.std.specs.Prelude.{◌≤◌, ℕ, List, map, option_map, String, string_bytes}
use Rattle.std.specs.Borrow.{Bor}
use Rattle.co_board.specs.declared.board.TheConstants.{MOST_WORKERS}
use Rattle.co_commands.specs.Words.{Rest, PlainWords, ImportWords, LocalWords, ServeWords, SearchWords, Spoken, SpokenPlain, SpokenImport, SpokenShape, SpokenLocal, SpokenServe, SpokenSearch, SpokenRehearse, SpokenWrong}
use Rattle.co_commands.specs.declared.limits.TheConstants.{LAST_PICK}
use Rattle.co_commands.specs.declared.options.OptionsAndQuery.{OptionsAndQuery}
use Rattle.co_commands.specs.declared.words.PlainCommand.{PlainCommand}
use Rattle.co_commands.specs.declared.words.ImportCommand.{ImportCommand}
use Rattle.co_commands.specs.declared.words.LocalCommand.{LocalCommand}
use Rattle.co_commands.specs.declared.words.ServeCommand.{ServeCommand}
use Rattle.co_commands.specs.declared.words.SearchCommand.{SearchCommand}
use Rattle.co_commands.specs.declared.words.RehearseCommand.{RehearseCommand}
use Rattle.co_commands.specs.declared.words.Command.{Command}
use Rattle.co_commands.specs.declared.words.Command.TheVariants.{Plain, Import, Shape, Local, Serve, Search, Rehearse, Wrong}

-- the bytes of each word
abbrev pub shown : {Y : Type 0} → Bor (List (String Y)) → List (List ℕ)
shown words = map string_bytes words.now

abbrev pub rest_shown : OptionsAndQuery → Rest
rest_shown r = record { options = r.options; query = option_map shown r.query }

abbrev pub plain_shown : PlainCommand → PlainWords
plain_shown p = record {
  corpus = p.corpus.now;
  terms = p.terms;
  hits = p.hits;
  pick = p.pick;
  query = shown p.query;
}

abbrev pub import_shown : ImportCommand → ImportWords
import_shown i = record { corpus = i.corpus.now; library = i.library.now; settings = i.settings }

abbrev pub local_shown : LocalCommand → LocalWords
local_shown l =
    record { library = l.library.now; pick = l.pick; workers = l.workers; query = shown l.query }

abbrev pub serve_shown : ServeCommand → ServeWords
serve_shown s = record {
  library = s.library.now;
  port = s.port;
  connections = s.connections;
  workers = s.workers;
}

abbrev pub search_shown : SearchCommand → SearchWords
search_shown s =
    record { host = s.host.now; port = s.port; pick = s.pick; query = shown s.query }

abbrev pub command_shown : Command → Spoken
command_shown (Plain p) = SpokenPlain (plain_shown p)
command_shown (Import i) = SpokenImport (import_shown i)
command_shown (Shape s) = SpokenShape s
command_shown (Local l) = SpokenLocal (local_shown l)
command_shown (Serve s) = SpokenServe (serve_shown s)
command_shown (Search s) = SpokenSearch (search_shown s)
command_shown (Rehearse r) = SpokenRehearse r
command_shown Wrong = SpokenWrong

-- the pick and the workers of a search over a library are 1 to 64
pub record IsWithinRanges (l : LocalCommand) : Type 0 where
  pub least_pick : 1 ≤ l.pick
  pub most_pick : l.pick ≤ LAST_PICK
  pub least_workers : 1 ≤ l.workers
  pub most_workers : l.workers ≤ MOST_WORKERS

-- a library is served on at least one connection, by 1 to 64 workers
pub record IsWithinServing (s : ServeCommand) : Type 0 where
  pub least_connections : 1 ≤ s.connections
  pub least_workers : 1 ≤ s.workers
  pub most_workers : s.workers ≤ MOST_WORKERS

-- the pick of a search over a dial is 1 to 64
pub record IsWithinSearching (s : SearchCommand) : Type 0 where
  pub least : 1 ≤ s.pick
  pub most : s.pick ≤ LAST_PICK

-- the workers of a rehearsal are 1 to 64
pub record IsWithinRehearsals (r : RehearseCommand) : Type 0 where
  pub least : 1 ≤ r.workers
  pub most : r.workers ≤ MOST_WORKERS

-- those of the command, where it is one
abbrev pub AreWithinRanges : Command → Type 0
AreWithinRanges (Plain p) = Unit {0}
AreWithinRanges (Import i) = Unit {0}
AreWithinRanges (Shape s) = Unit {0}
AreWithinRanges (Local l) = IsWithinRanges l
AreWithinRanges (Serve s) = IsWithinServing s
AreWithinRanges (Search s) = IsWithinSearching s
AreWithinRanges (Rehearse r) = IsWithinRehearsals r
AreWithinRanges Wrong = Unit {0}
