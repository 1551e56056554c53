-- The command `search`: what it prints, and when it refuses.
use Rattle.std.specs.Prelude.{◌≡◌, ◌≤◌, ℕ, List, length, Option, Some, None, Result, Ok, Err}
use Rattle.co_link.specs.Causes.{Rose}
use Rattle.co_link.specs.Exchanges.{IsDialled, Clears}
use Rattle.co_link.specs.declared.link.LinkFault.TheVariants.{Failed}
use Rattle.co_link.specs.declared.messages.Exchange.{Exchange}
use Rattle.co_noise.specs.Bounds.{test_of}
use Rattle.co_text.specs.Terms.{terms}
use Rattle.co_text.specs.Printed.{printed}
use Rattle.co_text.specs.declared.found.Found.{Found}
use Rattle.co_text.specs.declared.limits.TheConstants.{MOST_KEYWORDS}
use Rattle.co_corpus.specs.declared.documents.Document.{Document}
use Rattle.co_library.specs.declared.settings.Settings.{Settings}
use Rattle.co_library.specs.Libraries.{Parts}
use Rattle.co_rounds.specs.Honest.{AreHonest}
use Rattle.co_rounds.specs.Placing.{CanBePlaced}
use Rattle.co_rounds.specs.Recording.{IsLibraryFor}
use Rattle.co_client.specs.Causes.{Search}
use Rattle.co_client.specs.Telling.{Tells}
use Rattle.co_client.specs.Plain.{AnswersPlainly, plain_hits}
use Rattle.co_client.specs.declared.fault.SearchFault.{SearchFault}
use Rattle.co_commands.specs.Words.{SearchWords, joined}
use Rattle.co_commands.specs.Outside.{Devices, DialState}
use Rattle.co_commands.specs.Searches.{query_of}
use Rattle.co_commands.specs.declared.refusals.Refusal.{Refusal}
use Rattle.co_commands.specs.declared.refusals.Refusal.TheVariants as refusals

-- ---- the dial

-- one dial was made, of the command's host and port, and it is the last
abbrev pub Dialled : SearchWords → DialState → DialState → Type 0
Dialled p was is =
    IsDialled was.dials is.dials is.last_dial (record { host = p.host; port = p.port })

-- at most one dial was made, and it is of the command's host and port
pub data DialsOnce (p : SearchWords) (was is : DialState) : Type 0 where
  undialled : is.dials ≡ was.dials → is.last_dial ≡ was.last_dial → DialsOnce p was is
  dialled : Dialled p was is → DialsOnce p was is

-- the dial failed: no word was drawn, and nothing was asked
pub record DialFails (p : SearchWords) (was is : Devices) : Type 0 where
  pub dialled : Dialled p was.dial is.dial
  pub rose : Rose was.dial.faults is.dial.faults
  pub exchanges : Clears was.dial.exchanges is.dial.exchanges (Err Failed)
  pub last_failed : is.dial.last_failed ≡ was.dial.last_failed
  pub random : is.random ≡ was.random

-- ---- the search

-- a search for the terms of the query words, over the dial
abbrev pub search_over : SearchWords → Devices → Devices → Search
search_over p was is = record {
  query = terms (joined p.query);
  pick = p.pick;
  stream = was.random;
  before = was.dial.faults;
  now = is.dial.faults;
  last_failed = is.dial.last_failed;
}

-- where a dial tells its exchanges, they are these
abbrev pub AreTold : Option (List Exchange) → Option (List Exchange) → List Exchange → Type 0
AreTold None is exchanges = is ≡ None
AreTold (Some before) is exchanges = is ≡ Some exchanges

-- the one dial was answered, and a search over its link made some exchanges, those of the dial
-- where it tells them, and has this result: number, order and lengths of the requests are planned
-- by the published numbers, the requests are the drawn ones, what it answers is read from the
-- replies, and each refusal has its cause there; the exchange that failed is the next of the plan,
-- with the limit of its reply. Where they are honest to the library of a corpus, whatever keys its
-- server held before, the result is the plain answer, exactly where the plain hits can be placed
pub record Sought (p : SearchWords) (was is : Devices) (result : Result Found SearchFault)
    : Type 0 where
  pub dialled : Dialled p was.dial is.dial
  pub exchanges : List Exchange
  pub told : AreTold was.dial.exchanges is.dial.exchanges exchanges
  pub tells : Tells (search_over p was is) exchanges result is.random
  pub plain : (documents : List Document) (settings : Settings) (library : Parts)
      (held : Option (List ℕ)) → IsLibraryFor documents settings library
      → AreHonest library held exchanges
      → AnswersPlainly documents settings library (terms (joined p.query)) p.pick result

-- ---- the command

-- the text of what is found
pub record SearchAnswer (p : SearchWords) (was is : Devices) (text : List ℕ) : Type 0 where
  pub found : Found
  pub sought : Sought p was is (Ok found)
  pub text_is : text ≡ printed found

-- when `search` refuses, but by the output; want of memory has no cause
abbrev pub SearchCause : SearchWords → Devices → Devices → Refusal → Type 0
SearchCause p was is refusals.Dial = DialFails p was is
SearchCause p was is (refusals.Search fault) = Sought p was is (Err fault)
SearchCause p was is refusals.Memory = Unit {0}
SearchCause p was is refusal = ⊥

-- what is found over the dial, or a refusal by its cause; the dial is made at most once
abbrev pub Finds : SearchWords → Devices → Devices → Result Found Refusal → Type 0
Finds p was is (Ok found) = Sought p was is (Ok found)
Finds p was is (Err refusal) = SearchCause p was is refusal

pub record Asked (p : SearchWords) (was is : Devices) (result : Result Found Refusal) : Type 0 where
  pub finds : Finds p was is result
  pub dials : DialsOnce p was.dial is.dial

-- the status of a search that can be answered: the dial tells exchanges that are honest to the
-- library of a corpus, the published numbers pass the test, and the query has few terms. It is 0
-- where the plain hits can be placed, and 6 where they can't
pub record SearchDue (p : SearchWords) (is : DialState) (status : ℕ) : Type 0 where
  pub documents : List Document
  pub settings : Settings
  pub library : Parts
  pub built : IsLibraryFor documents settings library
  pub exchanges : List Exchange
  pub told : is.exchanges ≡ Some exchanges
  pub held : Option (List ℕ)
  pub honest : AreHonest library held exchanges
  pub passes : test_of library.shape ≡ Ok library.shape
  pub few : length (query_of p.query) ≤ MOST_KEYWORDS
  pub placed : CanBePlaced library.shape (plain_hits documents settings (terms (joined p.query)))
      → status ≡ 0
  pub unplaced : (¬ CanBePlaced library.shape
      (plain_hits documents settings (terms (joined p.query)))) → status ≡ 6
