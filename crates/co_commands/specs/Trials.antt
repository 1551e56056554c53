-- The steps of `rehearse`: what is made ready, one trial, and what they come to so far.
use Rattle.std.specs.Prelude.{◌≡◌, ℕ, Bool, ◌+◌, ◌++◌, if◌then◌else◌, List, map, string_bytes, Result, Ok, Err}
use Rattle.rand_core.specs.Stream.{Stream}
use Rattle.co_text.specs.declared.found.Found.{Found}
use Rattle.co_tfidf.specs.Found.{IsIndex}
use Rattle.co_library.specs.Libraries.{Parts}
use Rattle.co_library.specs.Refusals.{IsRefused}
use Rattle.co_client.specs.Causes.{IsAnswered}
use Rattle.co_client.specs.declared.fault.SearchFault.{SearchFault}
use Rattle.co_client.specs.declared.fault.SearchFault.TheVariants as searching
use Rattle.co_commands.specs.Words.{LocalWords}
use Rattle.co_commands.specs.Generator.{documents_of, queries_of}
use Rattle.co_commands.specs.Locals.{IsSearched}
use Rattle.co_commands.specs.Rehearsals.{rehearse_settings, IsMadeLibrary, words_asked, Trial, agrees, is_unplaced, is_printed_as, has_no_placement, IsTrial, AreTrials, passing, plain_texts, RehearseCause}
use Rattle.co_commands.specs.declared.words.RehearseCommand.{RehearseCommand}
use Rattle.co_commands.specs.declared.rehearse.Ready.{Ready}
use Rattle.co_commands.specs.declared.rehearse.Tally.{Tally}
use Rattle.co_commands.specs.declared.refusals.Refusal.{Refusal}
use Rattle.co_commands.specs.declared.refusals.Refusal.TheVariants as refusals

-- what is made of a number, its index, and its library
pub record IsReady (p : RehearseCommand) (r : Ready) : Type 0 where
  pub documents : r.made.corpus ≡ documents_of p.number
  pub queries :
      map (λ words. map string_bytes words.items) r.made.queries.items ≡ queries_of p.number
  pub index : IsIndex 256 (documents_of p.number) r.index
  pub library : IsMadeLibrary p r.loaded

-- why nothing is made ready; want of memory has no cause
abbrev pub ReadyCause : RehearseCommand → Refusal → Type 0
ReadyCause p (refusals.Publish fault) =
    IsRefused (documents_of p.number) (rehearse_settings p) fault
ReadyCause p refusals.Memory = Unit {0}
ReadyCause p refusal = ⊥

-- what trials come to
abbrev pub tally_of : List Trial → Tally
tally_of ts = record {
  agree = passing agrees ts;
  unplaced = passing is_unplaced ts;
  plain = plain_texts ts;
}

-- one trial more
abbrev pub tallied : Tally → Trial → Tally
tallied tally t = record {
  agree = tally.agree + (if agrees t then 1 else 0);
  unplaced = tally.unplaced + (if is_unplaced t then 1 else 0);
  plain = tally.plain ++ t.plain;
}

-- a search came to this: whether what it found is printed as the text, and whether its hits can't
-- be placed
pub record IsJudged (p : LocalWords) (library : Parts) (was is : Stream) (plain : List ℕ)
    (both : Bool × Bool) : Type 0 where
  pub result : Result Found SearchFault
  pub searched : IsSearched p library was is result
  pub answered : IsAnswered result
  pub agree : both.0 ≡ is_printed_as plain result
  pub unplaced : both.1 ≡ has_no_placement result

-- why a search came to neither; want of memory has no cause
abbrev pub JudgeCause : LocalWords → Parts → Stream → Stream → Refusal → Type 0
JudgeCause p library was is (refusals.Search (searching.NoPlacement documents buckets)) = ⊥
JudgeCause p library was is (refusals.Search fault) = IsSearched p library was is (Err fault)
JudgeCause p library was is refusals.Memory = Unit {0}
JudgeCause p library was is refusal = ⊥

-- a query was tried
pub record IsTried (p : RehearseCommand) (library : Parts) (pick : ℕ) (query : List (List ℕ))
    (was is : Stream) (before after : Tally) : Type 0 where
  pub trial : Trial
  pub tried : IsTrial p library pick query was is trial
  pub after_is : after ≡ tallied before trial

-- a query was tried, or not
abbrev pub Tries : RehearseCommand → Parts → ℕ → List (List ℕ) → Stream → Stream → Tally → Tally
    → Result (Unit {0}) Refusal → Type 0
Tries p library pick query was is before after (Ok _) =
    IsTried p library pick query was is before after
Tries p library pick query was is before after (Err refusal) =
    JudgeCause (words_asked p pick query) library was is refusal

-- these queries were tried, from the first on
pub record AreTriedFor (p : RehearseCommand) (library : Parts) (queries : List (List (List ℕ)))
    (was is : Stream) (tally : Tally) : Type 0 where
  pub trials : List Trial
  pub are : AreTrials p library 1 queries was is trials
  pub tally_is : tally ≡ tally_of trials

-- all were tried
abbrev pub AreTried : RehearseCommand → Parts → Stream → Stream → Tally → Type 0
AreTried p library was is tally = AreTriedFor p library (queries_of p.number) was is tally

-- why not all were tried; want of memory has no cause
abbrev pub StopCause : RehearseCommand → Stream → Stream → Refusal → Type 0
StopCause p was is (refusals.Publish fault) = ⊥
StopCause p was is refusal = RehearseCause p was is refusal
