-- The words of the command line.
use Rattle.std.specs.Prelude.{ℕ, Bool, false, ◌&&◌, ◌||◌, ◌==◌, ◌^◌, nat_lt, if◌then◌else◌, List, [], ◌∷◌, ◌++◌, length, codes, Option, Some, None, option_map, option_and_then, is_some, is_none}
use Rattle.std.specs.List.{list_all}
use Rattle.std.specs.Option.{unwrap_or}
use Rattle.std.specs.Str.{bytes_eq}
use Rattle.std.specs.Char.{is_ascii_digit}
use Rattle.std.specs.Str.Parse.{digits_value}
use Rattle.co_noise.specs.Shapes.{Numbers, numbers, shape_of, is_within}
use Rattle.co_library.specs.declared.settings.Settings.{Settings}
use Rattle.co_commands.specs.declared.options.Options.{Options}
use Rattle.co_commands.specs.declared.options.OptionName.{OptionName}
use Rattle.co_commands.specs.declared.options.OptionName.TheVariants.{Degree, Terms, Hits, Salt, Chunks, Pick, Workers, Port, Connections}
use Rattle.co_commands.specs.declared.words.RehearseCommand.{RehearseCommand}
use Rattle.co_board.specs.declared.board.TheConstants.{MOST_WORKERS}
use Rattle.co_commands.specs.declared.limits.TheConstants.{DEFAULT_DEGREE, DEFAULT_TERMS, DEFAULT_HITS, DEFAULT_SALT, DEFAULT_CHUNKS, DEFAULT_PICK, DEFAULT_WORKERS, DEFAULT_PORT, DEFAULT_CONNECTIONS, LAST_PICK, LAST_PORT, MOST_CONNECTIONS, SHORT_DIGITS}

-- one to so many decimal digits
abbrev pub are_digits : ℕ → List ℕ → Bool
are_digits most w = is_within 1 most (length w) && list_all is_ascii_digit w

-- the number that at most so many digits write; leading zeros are allowed
abbrev pub digits_number : ℕ → List ℕ → Option ℕ
digits_number most w = if are_digits most w then Some (digits_value 10 w) else None

-- where it is below a bound
abbrev pub below : ℕ → Option ℕ → Option ℕ
below bound None = None
below bound (Some n) = if nat_lt n bound then Some n else None

-- a number of 32 bits, of at most ten digits
unfoldable pub short_number : List ℕ → Option ℕ
short_number w = below (2 ^ 32) (digits_number SHORT_DIGITS w)

-- a number of 64 bits, of at most twenty digits
unfoldable pub long_number : List ℕ → Option ℕ
long_number w = below (2 ^ 64) (digits_number 20 w)

-- a positional word doesn't begin with a dash
abbrev pub begins_with_dash : List ℕ → Bool
begins_with_dash [] = false
begins_with_dash (b ∷ bs) = b == 45

-- ---- options

abbrev pub no_options : Options
no_options = record {
  degree = None;
  terms = None;
  hits = None;
  salt = None;
  chunks = None;
  pick = None;
  workers = None;
  port = None;
  connections = None;
}

-- the option that a word names
abbrev pub option_named : List ℕ → Option OptionName
option_named word =
    if bytes_eq word (codes "--degree") then Some Degree
    else if bytes_eq word (codes "--terms") then Some Terms
    else if bytes_eq word (codes "--hits") then Some Hits
    else if bytes_eq word (codes "--salt") then Some Salt
    else if bytes_eq word (codes "--chunks") then Some Chunks
    else if bytes_eq word (codes "--pick") then Some Pick
    else if bytes_eq word (codes "--workers") then Some Workers
    else if bytes_eq word (codes "--port") then Some Port
    else if bytes_eq word (codes "--connections") then Some Connections
    else None

-- the number that was given for an option
abbrev pub given : Options → OptionName → Option ℕ
given o Degree = o.degree
given o Terms = o.terms
given o Hits = o.hits
given o Salt = o.salt
given o Chunks = o.chunks
given o Pick = o.pick
given o Workers = o.workers
given o Port = o.port
given o Connections = o.connections

-- the options with this number for one
abbrev pub giving : Options → OptionName → ℕ → Options
giving o Degree n = record o { degree = Some n }
giving o Terms n = record o { terms = Some n }
giving o Hits n = record o { hits = Some n }
giving o Salt n = record o { salt = Some n }
giving o Chunks n = record o { chunks = Some n }
giving o Pick n = record o { pick = Some n }
giving o Workers n = record o { workers = Some n }
giving o Port n = record o { port = Some n }
giving o Connections n = record o { connections = Some n }

-- the number of an option that is given once
abbrev pub once : Option ℕ → List ℕ → Option ℕ
once before value = if is_some before then None else short_number value

-- the options with one more, by its name and value
unfoldable pub with_option : Options → List ℕ → List ℕ → Option Options
with_option o word value =
    option_and_then (λ name. option_map (giving o name) (once (given o name) value))
    (option_named word)

-- what stands behind the positional words: options in any order, then `--` and a query, if any
pub record Rest : Type 0 where
  pub options : Options
  pub query : Option (List (List ℕ))

abbrev pub rest_of : Options → List (List ℕ) → Option Rest
rest_of o [] = Some (record { options = o; query = None })
rest_of o (w ∷ []) =
    if bytes_eq w (codes "--") then Some (record { options = o; query = Some [] }) else None
rest_of o (w ∷ v ∷ ws) =
    if bytes_eq w (codes "--") then Some (record { options = o; query = Some (v ∷ ws) })
    else option_and_then (λ more. rest_of more ws) (with_option o w v)

-- ---- commands

-- what `plain CORPUS` is to do
pub record PlainWords : Type 0 where
  pub corpus : List ℕ
  pub terms : ℕ
  pub hits : ℕ
  pub pick : ℕ
  pub query : List (List ℕ)

-- what `import CORPUS LIBRARY` is to do
pub record ImportWords : Type 0 where
  pub corpus : List ℕ
  pub library : List ℕ
  pub settings : Settings

-- what `local LIBRARY` is to do
pub record LocalWords : Type 0 where
  pub library : List ℕ
  pub pick : ℕ
  pub workers : ℕ
  pub query : List (List ℕ)

-- what `serve LIBRARY` is to do
pub record ServeWords : Type 0 where
  pub library : List ℕ
  pub port : ℕ
  pub connections : ℕ
  pub workers : ℕ

-- what `search HOST PORT` is to do
pub record SearchWords : Type 0 where
  pub host : List ℕ
  pub port : ℕ
  pub pick : ℕ
  pub query : List (List ℕ)

-- what words ask for: a command, where a shape is the published numbers that its four words stand
-- for, or nothing that is in the grammar
pub data Spoken : Type 0 where
  SpokenPlain : PlainWords → Spoken
  SpokenImport : ImportWords → Spoken
  SpokenShape : Numbers → Spoken
  SpokenLocal : LocalWords → Spoken
  SpokenServe : ServeWords → Spoken
  SpokenSearch : SearchWords → Spoken
  SpokenRehearse : RehearseCommand → Spoken
  SpokenWrong : Spoken

-- what is spoken, if it is in the grammar
abbrev pub or_wrong : {A : Type 0} → (A → Spoken) → Option A → Spoken
or_wrong speak None = SpokenWrong
or_wrong speak (Some words) = speak words

-- a number from 1 to `most`
abbrev pub from_one : ℕ → ℕ → Option ℕ
from_one most number = if is_within 1 most number then Some number else None

-- a number from 1 to `most`, or the usual one where none is given
abbrev pub number_within : Option ℕ → ℕ → ℕ → Option ℕ
number_within given usual most = from_one most (unwrap_or given usual)

-- the pick, 1 to 64, or else 1
abbrev pub pick_of : Options → Option ℕ
pick_of o = number_within o.pick DEFAULT_PICK LAST_PICK

-- the number of workers, 1 to 64, or else 4
abbrev pub workers_of : Options → Option ℕ
workers_of o = number_within o.workers DEFAULT_WORKERS MOST_WORKERS

-- the port, 1 to 65535, or else 8080
abbrev pub port_of : Options → Option ℕ
port_of o = number_within o.port DEFAULT_PORT LAST_PORT

-- the number of connections, 1 to 1000000, or else 1
abbrev pub connections_of : Options → Option ℕ
connections_of o = number_within o.connections DEFAULT_CONNECTIONS MOST_CONNECTIONS

-- a port as a positional word
abbrev pub port_word : List ℕ → Option ℕ
port_word word = option_and_then (from_one LAST_PORT) (short_number word)

-- no option of how a corpus is published was given
abbrev pub none_for_publishing : Options → Bool
none_for_publishing o =
    is_none o.degree && is_none o.terms && is_none o.hits && is_none o.salt && is_none o.chunks

-- nor one of how a library is served
abbrev pub none_for_serving : Options → Bool
none_for_serving o = is_none o.port && is_none o.connections

-- no option was given but `--terms`, `--hits` and `--pick`
abbrev pub are_for_plain : Options → Bool
are_for_plain o = is_none o.degree && is_none o.salt && is_none o.chunks && is_none o.workers
    && none_for_serving o

-- no option was given but those of how a corpus is published
abbrev pub are_for_import : Options → Bool
are_for_import o = is_none o.pick && is_none o.workers && none_for_serving o

-- no option was given but `--pick` and `--workers`
abbrev pub are_for_local : Options → Bool
are_for_local o = none_for_publishing o && none_for_serving o

-- no option was given but `--port`, `--connections` and `--workers`
abbrev pub are_for_serve : Options → Bool
are_for_serve o = none_for_publishing o && is_none o.pick

-- no option was given but `--pick`
abbrev pub are_for_search : Options → Bool
are_for_search o = none_for_publishing o && none_for_serving o && is_none o.workers

-- no option was given but `--degree` and `--workers`
abbrev pub are_for_rehearse : Options → Bool
are_for_rehearse o = is_none o.terms && is_none o.hits && is_none o.salt && is_none o.chunks
    && is_none o.pick && none_for_serving o

-- `plain` has a query, and options of its own
abbrev pub plain_of : List ℕ → Rest → Option PlainWords
plain_of corpus rest = option_and_then (λ query.
    if are_for_plain rest.options then option_map (λ pick. record {
      corpus = corpus;
      terms = unwrap_or rest.options.terms DEFAULT_TERMS;
      hits = unwrap_or rest.options.hits DEFAULT_HITS;
      pick = pick;
      query = query;
    }) (pick_of rest.options) else None) rest.query

-- behind `plain`: CORPUS, options, `--` and a query
abbrev pub plain_words : List (List ℕ) → Option PlainWords
plain_words [] = None
plain_words (corpus ∷ rest) =
    if begins_with_dash corpus then None
    else option_and_then (plain_of corpus) (rest_of no_options rest)

-- `local` has a query, and options of its own
abbrev pub local_of : List ℕ → Rest → Option LocalWords
local_of library rest = option_and_then (λ query.
    if are_for_local rest.options
    then option_and_then (λ pick. option_map (λ workers. record {
      library = library;
      pick = pick;
      workers = workers;
      query = query;
    }) (workers_of rest.options)) (pick_of rest.options)
    else None) rest.query

-- behind `local`: LIBRARY, options, `--` and a query
abbrev pub local_words : List (List ℕ) → Option LocalWords
local_words [] = None
local_words (library ∷ rest) =
    if begins_with_dash library then None
    else option_and_then (local_of library) (rest_of no_options rest)

-- `serve` has options of its own, and no query
abbrev pub serve_of : List ℕ → Rest → Option ServeWords
serve_of library rest =
    if are_for_serve rest.options && is_none rest.query
    then option_and_then (λ port. option_and_then (λ connections. option_map (λ workers. record {
      library = library;
      port = port;
      connections = connections;
      workers = workers;
    }) (workers_of rest.options)) (connections_of rest.options)) (port_of rest.options)
    else None

-- behind `serve`: LIBRARY and options
abbrev pub serve_words : List (List ℕ) → Option ServeWords
serve_words [] = None
serve_words (library ∷ rest) =
    if begins_with_dash library then None
    else option_and_then (serve_of library) (rest_of no_options rest)

-- `search` has a query, and options of its own
abbrev pub search_of : List ℕ → ℕ → Rest → Option SearchWords
search_of host port rest = option_and_then (λ query.
    if are_for_search rest.options then option_map (λ pick. record {
      host = host;
      port = port;
      pick = pick;
      query = query;
    }) (pick_of rest.options) else None) rest.query

-- behind `search`: HOST, PORT, options, `--` and a query
abbrev pub search_words : List (List ℕ) → Option SearchWords
search_words (host ∷ port ∷ rest) =
    if begins_with_dash host then None
    else option_and_then (λ number. option_and_then (search_of host number)
    (rest_of no_options rest)) (port_word port)
search_words words = None

-- the settings, where no option of another command and no query was given
abbrev pub settings_of : Rest → Option Settings
settings_of rest =
    if are_for_import rest.options && is_none rest.query
    then Some (record {
      degree = unwrap_or rest.options.degree DEFAULT_DEGREE;
      terms = unwrap_or rest.options.terms DEFAULT_TERMS;
      hits = unwrap_or rest.options.hits DEFAULT_HITS;
      salt = unwrap_or rest.options.salt DEFAULT_SALT;
      chunks = unwrap_or rest.options.chunks DEFAULT_CHUNKS;
    })
    else None

abbrev pub import_of : List ℕ → List ℕ → Rest → Option ImportWords
import_of corpus library rest =
    option_map (λ settings. record { corpus = corpus; library = library; settings = settings })
    (settings_of rest)

-- behind `import`: CORPUS, LIBRARY and options
abbrev pub import_words : List (List ℕ) → Option ImportWords
import_words (corpus ∷ library ∷ rest) =
    if begins_with_dash corpus || begins_with_dash library then None
    else option_and_then (import_of corpus library) (rest_of no_options rest)
import_words words = None

-- behind `shape`: DEGREE, TERMS, ROWS and BINS, each in its range; the other numbers are the least
abbrev pub shape_words : List (List ℕ) → Option Numbers
shape_words (degree ∷ terms ∷ rows ∷ bins ∷ []) =
    option_and_then (λ d. option_and_then (λ t. option_and_then (λ r. option_and_then (λ b.
    shape_of (numbers d 1 t 1 0 r b 1))
    (short_number bins)) (short_number rows)) (short_number terms)) (short_number degree)
shape_words words = None

-- `rehearse` has options of its own, and no query
abbrev pub rehearse_of : ℕ → Rest → Option RehearseCommand
rehearse_of number rest =
    if are_for_rehearse rest.options && is_none rest.query
    then option_map (λ workers. record {
      number = number;
      degree = unwrap_or rest.options.degree DEFAULT_DEGREE;
      workers = workers;
    }) (workers_of rest.options)
    else None

-- behind `rehearse`: N and options
abbrev pub rehearse_words : List (List ℕ) → Option RehearseCommand
rehearse_words [] = None
rehearse_words (number ∷ rest) =
    option_and_then (λ n. option_and_then (rehearse_of n) (rest_of no_options rest))
    (long_number number)

-- what the words ask for
unfoldable pub spoken : List (List ℕ) → Spoken
spoken [] = SpokenWrong
spoken (command ∷ words) =
    if bytes_eq command (codes "plain") then or_wrong SpokenPlain (plain_words words)
    else if bytes_eq command (codes "import") then or_wrong SpokenImport (import_words words)
    else if bytes_eq command (codes "shape") then or_wrong SpokenShape (shape_words words)
    else if bytes_eq command (codes "local") then or_wrong SpokenLocal (local_words words)
    else if bytes_eq command (codes "serve") then or_wrong SpokenServe (serve_words words)
    else if bytes_eq command (codes "search") then or_wrong SpokenSearch (search_words words)
    else if bytes_eq command (codes "rehearse") then or_wrong SpokenRehearse (rehearse_words words)
    else SpokenWrong

-- ---- the query

-- each with a space before it
abbrev pub spaced : List (List ℕ) → List ℕ
spaced [] = []
spaced (w ∷ ws) = (32 ∷ []) ++ w ++ spaced ws

-- the words with single spaces between them
abbrev pub joined : List (List ℕ) → List ℕ
joined [] = []
joined (w ∷ ws) = w ++ spaced ws
