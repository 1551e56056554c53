-- How `search` ends, by what its dial and its search gave.
use Rattle.std.proofs.Common.{◌≡◌, ◌⊎◌, ℕ, List, Option, Some, None, Ok, Err, refl, sym, ap, subst, ◌∙◌, inl, inr, arith}
use Rattle.std.specs.Prelude.{Result}
use Rattle.std.proofs.lemmas.Option.{same_Some}
use Rattle.rand_core.specs.Stream.{Stream}
use Rattle.co_link.specs.Causes.{Rose}
use Rattle.co_link.specs.Exchanges.{Clears}
use Rattle.co_link.specs.declared.messages.Exchange.{Exchange}
use Rattle.co_noise.specs.Bounds.{test_of}
use Rattle.co_text.specs.Terms.{terms}
use Rattle.co_text.specs.declared.found.Found.{Found}
use Rattle.co_rounds.specs.Honest.{AreHonest}
use Rattle.co_client.specs.Causes.{Search}
use Rattle.co_client.specs.Telling.{Makes, Tells, Told}
use Rattle.co_client.specs.Plain.{AnswersPlainly, plain_hits}
use Rattle.co_client.specs.declared.fault.SearchFault.{SearchFault}
use Rattle.co_client.specs.declared.fault.SearchFault.TheVariants as searching
use Rattle.co_commands.specs.declared.refusals.Refusal.{Refusal}
use Rattle.co_commands.specs.declared.refusals.Refusal.TheVariants.{Search as Unsearched, Dial, Output, Memory}
use Rattle.co_commands.specs.Words.{SpokenSearch, SearchWords, joined}
use Rattle.co_commands.specs.Outside.{Outside, Devices, DialState, PortState, HasNoFault, devices}
use Rattle.co_commands.specs.Refusals.{status_of, status_of_refused}
use Rattle.co_commands.specs.Remote.{Dialled, AreTold, search_over, Sought, SearchCause, SearchDue}
use Rattle.co_commands.specs.Runs.{Uses, Answered, RefusedBy}
use Rattle.co_client.proofs.Tells_plainly.{tells_plainly}
use Rattle.co_commands.proofs.Outcomes.{differ}
use Rattle.co_commands.proofs.Searching.{misplaced}

-- ---- the search

-- of a link that was just dialled all exchanges are those of the search
made_told : (was mid is : Option (List Exchange)) (es : List Exchange) → Clears was mid (Ok tt) → Makes mid is es → AreTold was is es
made_told None mid is es clears makes = subst (λ (m : Option (List Exchange)). Makes m is es) clears makes
made_told (Some old) mid is es clears makes = subst (λ (m : Option (List Exchange)). Makes m is es) clears makes

-- exchanges that a dial tells are those of the search
told_are : (was is : Option (List Exchange)) (es told : List Exchange) → AreTold was is es → is ≡ Some told → es ≡ told
told_are None is es told none some = let false : None ≡ Some told = sym none ∙ some in absurd cc
told_are (Some old) is es told are some = same_Some es told (sym are ∙ some)

-- a search for the terms of a text
abbrev pub asks : List ℕ → ℕ → Stream → ℕ → DialState → Search
asks text pick random before is =
    record { query = terms text; pick = pick; stream = random; before = before; now = is.faults; last_failed = is.last_failed }

-- a search over a link that was just dialled
pub sought : (p : SearchWords) (port : PortState) (was mid is : DialState) (random left : Stream) (result : Result Found SearchFault) (text : List ℕ)
    → text ≡ joined p.query → Dialled p was mid → Clears was.exchanges mid.exchanges (Ok tt) → mid.faults ≡ was.faults
    → (is.dials ≡ mid.dials) × (is.last_dial ≡ mid.last_dial) → Told (asks text p.pick random mid.faults is) mid.exchanges is.exchanges result left
    → Sought p (devices random was port) (devices left is port) result
sought p port was mid is random left result text same dialled clears faults beside told =
    let run : Search = search_over p (devices random was port) (devices left is port) in
    let tells : Tells run told.exchanges result left =
    subst (λ (n : ℕ). Tells (asks (joined p.query) p.pick random n is) told.exchanges result left) faults
    (subst (λ (t : List ℕ). Tells (asks t p.pick random mid.faults is) told.exchanges result left) same told.tells) in
    record {
      dialled = record { counted = beside.0 ∙ dialled.counted; last = beside.1 ∙ dialled.last };
      exchanges = told.exchanges;
      told = made_told was.exchanges mid.exchanges is.exchanges told.exchanges clears told.makes;
      tells = tells;
      plain = tells_plainly run told.exchanges result left tells;
    }

-- ---- how the command ends

pub remote_refused : (p : SearchWords) (was is : Outside) (refusal : Refusal) → SearchCause p was.devices is.devices refusal
    → Uses (SpokenSearch p) was.devices is.devices → is.out.bytes ≡ was.out.bytes → is.files.held ≡ was.files.held → RefusedBy (SpokenSearch p) was is refusal
remote_refused p was is Dial cause uses out files = record { cause = cause; out = out; files = files; uses = uses }
remote_refused p was is (Unsearched fault) cause uses out files = record { cause = cause; out = out; files = files; uses = uses }
remote_refused p was is Memory cause uses out files = record { cause = cause; out = out; files = files; uses = uses }
remote_refused p was is refusal cause uses out files = absurd cause

-- ---- the status that is due

-- what a search over honest exchanges answers
plainly : (p : SearchWords) (was is : Devices) (result : Result Found SearchFault) (due : ℕ) (d : SearchDue p is.dial due) → Sought p was is result
    → AnswersPlainly d.documents d.settings d.library (terms (joined p.query)) p.pick result
plainly p was is result due d s =
    let same : s.exchanges ≡ d.exchanges = told_are was.dial.exchanges is.dial.exchanges s.exchanges d.exchanges s.told d.told in
    s.plain d.documents d.settings d.library d.held d.built (subst (AreHonest d.library d.held) (sym same) d.honest)

-- an answer comes only where the hits can be placed
pub search_placed : (p : SearchWords) (was is : Outside) → Answered (SpokenSearch p) was is → (due : ℕ) → SearchDue p is.devices.dial due → due ≡ 0
search_placed p was is a due d = d.placed (plainly p was.devices is.devices (Ok a.prints.found) due d a.prints.sought).1

fault_due : (p : SearchWords) (was is : Devices) (fault : SearchFault) (due : ℕ) (d : SearchDue p is.dial due) → (¬ Rose was.dial.faults is.dial.faults)
    → AnswersPlainly d.documents d.settings d.library (terms (joined p.query)) p.pick (Err fault) → Sought p was is (Err fault)
    → (status_of (Unsearched fault) ≡ due) ⊎ (status_of (Unsearched fault) ≡ 10)
fault_due p was is (searching.NoPlacement documents buckets) due d kept plain s =
    inl (sym (d.unplaced (λ placed. misplaced d.library.shape documents buckets (plain_hits d.documents d.settings (terms (joined p.query))) plain placed)))
fault_due p was is (searching.TooManyKeywords number) due d kept plain s = absurd (omega (arith, d.few, plain))
fault_due p was is (searching.Test fault) due d kept plain s = absurd (differ d.library.shape fault (test_of d.library.shape) d.passes plain)
fault_due p was is (searching.Refused target status) due d kept plain s = inr (ap status_of_refused plain)
fault_due p was is searching.Link due d kept plain s = absurd (kept s.tells.refused.rose)
fault_due p was is searching.OutOfMemory due d kept plain s = inr refl
fault_due p was is fault due d kept plain s = absurd plain

pub search_due : (p : SearchWords) (was is : Outside) (refusal : Refusal) → HasNoFault was is → RefusedBy (SpokenSearch p) was is refusal
    → (due : ℕ) → SearchDue p is.devices.dial due → (status_of refusal ≡ due) ⊎ (status_of refusal ≡ 10)
search_due p was is Output kept r due d = absurd (kept.out r.took.rose)
search_due p was is Dial kept r due d = absurd (kept.dial r.cause.rose)
search_due p was is (Unsearched fault) kept r due d =
    fault_due p was.devices is.devices fault due d kept.dial (plainly p was.devices is.devices (Err fault) due d r.cause) r.cause
search_due p was is Memory kept r due d = inr refl
search_due p was is refusal kept r due d = absurd r.cause
