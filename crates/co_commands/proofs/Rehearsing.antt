-- What `rehearse` says and leaves, from what its trials gave.
use Rattle.std.proofs.Common.{◌≡◌, ◌<◌, ◌≤◌, ℕ, zero, suc, ◌+◌, Bool, true, false, if◌then◌else◌, List, [], ◌∷◌, ◌++◌, length, map, take, drop, Ok, Err, refl, sym, ap, subst, ◌∙◌, arith, length-append}
use Rattle.std.specs.Prelude.{Result, slice_index_or}
use Rattle.std.specs.Str.{bytes_eq}
use Rattle.std.proofs.lemmas.Slice.Eq.{bytes_eq-Decides}
use Rattle.std.proofs.lemmas.List.{get_or-map, length-map, length-take-le, take_more, take_all}
use Rattle.rand_core.specs.Stream.{Stream}
use Rattle.co_noise.specs.Bounds.{test_of}
use Rattle.co_text.specs.Terms.{terms, distinct}
use Rattle.co_text.specs.Printed.{printed}
use Rattle.co_text.specs.declared.found.Found.{Found}
use Rattle.co_library.specs.Libraries.{Parts}
use Rattle.co_library.specs.Refusals.{IsRefused}
use Rattle.co_library.specs.declared.publishing.PublishFault.{PublishFault}
use Rattle.co_library.specs.declared.publishing.PublishFault.TheVariants as publishing
use Rattle.co_library.proofs.OneAnswer.{no_refusal}
use Rattle.co_rounds.specs.Recording.{IsLibraryFor}
use Rattle.co_client.specs.Causes.{IsAnswered}
use Rattle.co_client.specs.Plain.{AnswersPlainly}
use Rattle.co_client.specs.declared.fault.SearchFault.{SearchFault}
use Rattle.co_client.specs.declared.fault.SearchFault.TheVariants as searching
use Rattle.co_commands.specs.Words.{SpokenRehearse, joined}
use Rattle.co_commands.specs.Outside.{Outside, HasNoFault}
use Rattle.co_commands.specs.Refusals.{status_of, status_of_refused}
use Rattle.co_commands.specs.Generator.{documents_of, queries_of}
use Rattle.co_commands.specs.Locals.{IsSearched}
use Rattle.co_commands.specs.Rehearsals.{rehearse_settings, IsMadeLibrary, words_asked, plain_text, Trial, is_printed_as, agrees, has_no_placement, is_unplaced, IsTrial, AreTrials, passing, rehearse_lines, RehearseAnswer, StopsAt, RehearseCause, CanBeRehearsed}
use Rattle.co_commands.specs.Trials.{IsJudged, JudgeCause, tally_of, tallied, IsTried, AreTriedFor, AreTried, StopCause}
use Rattle.co_commands.specs.declared.words.RehearseCommand.{RehearseCommand}
use Rattle.co_commands.specs.declared.rehearse.Tally.{Tally}
use Rattle.co_commands.specs.declared.refusals.Refusal.{Refusal}
use Rattle.co_commands.specs.declared.refusals.Refusal.TheVariants.{Publish, Search as Unsearched, Output, Memory}
use Rattle.co_commands.specs.Runs.{RefusedBy}
use Rattle.co_commands.proofs.FewTerms.{terms_few}
use Rattle.co_commands.proofs.Generated.{IsQuery, corpus_is, queries_few, queries_eight}
use Rattle.co_text.proofs.Numbered.{distinct_few}
use Rattle.co_commands.proofs.Outcomes.{differ}
use Rattle.co_commands.proofs.Telling.{flat-more}

-- ---- queries

-- a made query has few terms
query_few : (q : List (List ℕ)) → IsQuery q → length (distinct (terms (joined q))) ≤ 9
query_few q i = omega (arith, distinct_few (terms (joined q)), terms_few q i.all, i.few)

pub made_few : (number place : ℕ) → place < 8 → length (distinct (terms (joined (slice_index_or (queries_of number) place [])))) ≤ 9
made_few number place within =
    query_few (slice_index_or (queries_of number) place []) (queries_few number place [] (omega (arith, within, queries_eight number)))

-- ---- one trial

library_is : (p : RehearseCommand) (library : Parts) → IsMadeLibrary p library → IsLibraryFor (documents_of p.number) (rehearse_settings p) library
library_is p library published = record { corpus = corpus_is p.number; built = published.built }

-- an answer is printed as the plain one; hits that can't be placed give none
one_of_two : (p : RehearseCommand) (library : Parts) (pick : ℕ) (query : List (List ℕ)) (plain : List ℕ) (r : Result Found SearchFault)
    → AnswersPlainly (documents_of p.number) (rehearse_settings p) library (terms (joined query)) pick r → IsAnswered r → plain ≡ plain_text p pick query
    → (if is_printed_as plain r then 1 else 0) + (if has_no_placement r then 1 else 0) ≡ 1
one_of_two p library pick query plain (Ok f) answers answered is =
    let same : printed f ≡ plain = ap printed answers.0 ∙ sym is in
    let equal : bytes_eq (printed f) plain ≡ true = (bytes_eq-Decides (printed f) plain).1 same in
    rw (equal) refl
one_of_two p library pick query plain (Err (searching.NoPlacement documents buckets)) answers answered is = refl
one_of_two p library pick query plain (Err fault) answers answered is = absurd answered

trial_is_one : (p : RehearseCommand) (library : Parts) (pick : ℕ) (query : List (List ℕ)) (was is : Stream) (t : Trial) → IsMadeLibrary p library
    → IsTrial p library pick query was is t → (if agrees t then 1 else 0) + (if is_unplaced t then 1 else 0) ≡ 1
trial_is_one p library pick query was is t published i =
    one_of_two p library pick query t.plain t.result
    (i.searched.plain (documents_of p.number) (rehearse_settings p) (library_is p library published)) i.answered i.plain

-- ---- trials

pub all_counted : (p : RehearseCommand) (library : Parts) (pick : ℕ) (queries : List (List (List ℕ))) (was is : Stream) (ts : List Trial) → IsMadeLibrary p library
    → AreTrials p library pick queries was is ts → passing agrees ts + passing is_unplaced ts ≡ length queries
all_counted p library pick [] was is [] published are = refl
all_counted p library pick [] was is (t ∷ ts) published are = absurd are
all_counted p library pick (q ∷ qs) was is [] published are = absurd are
all_counted p library pick (q ∷ qs) was is (t ∷ ts) published are =
    omega (arith, trial_is_one p library pick q was are.0 t published are.1, all_counted p library (pick + 1) qs are.0 is ts published are.2)

-- one trial more
more_trials : (p : RehearseCommand) (library : Parts) (pick : ℕ) (qs : List (List (List ℕ))) (q : List (List ℕ)) (was left is : Stream) (ts : List Trial) (t : Trial)
    → AreTrials p library pick qs was left ts → IsTrial p library (pick + length qs) q left is t → AreTrials p library pick (qs ++ q ∷ []) was is (ts ++ t ∷ [])
more_trials p library pick [] q was left is [] t are i =
    let here : pick + length {A = List (List ℕ)} [] ≡ pick = omega arith in
    (is, subst (λ (s : Stream). IsTrial p library pick q s is t) are (subst (λ (n : ℕ). IsTrial p library n q left is t) here i), refl)
more_trials p library pick [] q was left is (u ∷ ts) t are i = absurd are
more_trials p library pick (r ∷ qs) q was left is [] t are i = absurd are
more_trials p library pick (r ∷ qs) q was left is (u ∷ ts) t are i =
    let same : pick + length (r ∷ qs) ≡ pick + 1 + length qs = omega arith in
    (are.0, are.1, more_trials p library (pick + 1) qs q are.0 left is ts t are.2 (subst (λ (n : ℕ). IsTrial p library n q left is t) same i))

passing-more : (test : Trial → Bool) (ts : List Trial) (t : Trial) → passing test (ts ++ t ∷ []) ≡ passing test ts + (if test t then 1 else 0)
passing-more test [] t = omega arith
passing-more test (u ∷ ts) t = omega (arith, passing-more test ts t)

tally-more : (ts : List Trial) (t : Trial) → tally_of (ts ++ t ∷ []) ≡ tallied (tally_of ts) t
tally-more ts t = λ i. record {
  agree = passing-more agrees ts t i;
  unplaced = passing-more is_unplaced ts t i;
  plain = flat-more (λ u. u.plain) ts t i;
}

passing_few : (test : Trial → Bool) (ts : List Trial) → passing test ts ≤ length ts
passing_few test [] = omega arith
passing_few test (t ∷ ts) = step (test t) refl (passing_few test ts)
  where
    step : (b : Bool) → test t ≡ b → passing test ts ≤ length ts → passing test (t ∷ ts) ≤ length (t ∷ ts)
    step true is rest = rw (is) (omega (arith, rest))
    step false is rest = rw (is) (omega (arith, rest))

trials_count : (p : RehearseCommand) (library : Parts) (pick : ℕ) (queries : List (List (List ℕ))) (was is : Stream) (ts : List Trial)
    → AreTrials p library pick queries was is ts → length ts ≡ length queries
trials_count p library pick [] was is [] are = refl
trials_count p library pick [] was is (t ∷ ts) are = absurd are
trials_count p library pick (q ∷ qs) was is [] are = absurd are
trials_count p library pick (q ∷ qs) was is (t ∷ ts) are = ap suc (trials_count p library (pick + 1) qs are.0 is ts are.2)

-- ---- a query at a place

-- the query that is read at a place is the made one
pub query_at : {X : Type 0} (f : X → List (List ℕ)) (xs : List X) (qs : List (List (List ℕ))) (place : ℕ) (x : X) → map f xs ≡ qs → place < length xs
    → x ≡ slice_index_or xs place x → f x ≡ slice_index_or qs place []
query_at f xs qs place x same within is =
    ap f is ∙ sym (get_or-map f xs place x [] within) ∙ ap (λ (ys : List (List (List ℕ))). slice_index_or ys place []) same

pub queries_long : {X : Type 0} (f : X → List (List ℕ)) (xs : List X) (number : ℕ) → map f xs ≡ queries_of number → length xs ≡ 8
queries_long f xs number same = sym (length-map xs f) ∙ ap length same ∙ queries_eight number

pub few_at : (number place : ℕ) (q : List (List ℕ)) → place < 8 → q ≡ slice_index_or (queries_of number) place [] → length (distinct (terms (joined q))) ≤ 16
few_at number place q within is =
    let few = made_few number place within in
    omega (arith, few, ap (λ (ws : List (List ℕ)). length (distinct (terms (joined ws)))) is)

pub judged_not : (p : RehearseCommand) (library : Parts) (pick : ℕ) (q r : List (List ℕ)) (was is : Stream) (refusal : Refusal) → q ≡ r
    → JudgeCause (words_asked p pick q) library was is refusal → JudgeCause (words_asked p pick r) library was is refusal
judged_not p library pick q r was is refusal same cause = subst (λ (ws : List (List ℕ)). JudgeCause (words_asked p pick ws) library was is refusal) same cause

tally_is : (before after : Tally) (t : Trial) (agree unplaced : Bool) → agree ≡ agrees t → unplaced ≡ is_unplaced t
    → after.agree ≡ before.agree + (if agree then 1 else 0) → after.unplaced ≡ before.unplaced + (if unplaced then 1 else 0) → after.plain ≡ before.plain ++ t.plain
    → after ≡ tallied before t
tally_is before after t agree unplaced first second one other plain =
    let agree_is : after.agree ≡ before.agree + (if agrees t then 1 else 0) = one ∙ ap (λ (b : Bool). before.agree + (if b then 1 else 0)) first in
    let unplaced_is : after.unplaced ≡ before.unplaced + (if is_unplaced t then 1 else 0) = other ∙ ap (λ (b : Bool). before.unplaced + (if b then 1 else 0)) second in
    λ i. record { agree = agree_is i; unplaced = unplaced_is i; plain = plain i }

-- a query was tried
pub tried : (p : RehearseCommand) (library : Parts) (pick : ℕ) (q r : List (List ℕ)) (was is : Stream) (before after : Tally) (plain : List ℕ) (both : Bool × Bool) → q ≡ r
    → IsJudged (words_asked p pick q) library was is plain both → plain ≡ plain_text p pick q
    → after.agree ≡ before.agree + (if both.0 then 1 else 0) → after.unplaced ≡ before.unplaced + (if both.1 then 1 else 0) → after.plain ≡ before.plain ++ plain
    → IsTried p library pick r was is before after
tried p library pick q r was is before after plain both same j is_plain one other bytes =
    let trial : Trial = record { plain = plain; result = j.result } in
    subst (λ (ws : List (List ℕ)). IsTried p library pick ws was is before after) same
    (record {
      trial = trial;
      tried = record { searched = j.searched; answered = j.answered; plain = is_plain };
      after_is = tally_is before after trial both.0 both.1 j.agree j.unplaced one other bytes;
    })

-- ---- queries up to a place

count_taken : (number place : ℕ) → place < 8 → length (take place (queries_of number)) ≡ place
count_taken number place within = length-take-le place (queries_of number) (omega (arith, within, queries_eight number))

one_more_tried : (p : RehearseCommand) (library : Parts) (queries : List (List (List ℕ))) (q : List (List ℕ)) (was left is : Stream) (before after : Tally)
    → AreTriedFor p library queries was left before → IsTried p library (1 + length queries) q left is before after → AreTriedFor p library (queries ++ q ∷ []) was is after
one_more_tried p library queries q was left is before after a t = record {
  trials = a.trials ++ t.trial ∷ [];
  are = more_trials p library 1 queries q was left is a.trials t.trial a.are t.tried;
  tally_is = t.after_is ∙ ap (λ (y : Tally). tallied y t.trial) a.tally_is ∙ sym (tally-more a.trials t.trial);
}

pub tried_next : (p : RehearseCommand) (library : Parts) (place : ℕ) (was left is : Stream) (before after : Tally) → place < 8
    → AreTriedFor p library (take place (queries_of p.number)) was left before
    → IsTried p library (place + 1) (slice_index_or (queries_of p.number) place []) left is before after
    → AreTriedFor p library (take (place + 1) (queries_of p.number)) was is after
tried_next p library place was left is before after within a t =
    let queries = queries_of p.number in
    let q = slice_index_or queries place [] in
    let number : place + 1 ≡ 1 + length (take place queries) = omega (arith, count_taken p.number place within) in
    let more : take (place + 1) queries ≡ take place queries ++ q ∷ [] = take_more queries place [] (omega (arith, within, queries_eight p.number)) in
    subst (λ (qs : List (List (List ℕ))). AreTriedFor p library qs was is after) (sym more)
    (one_more_tried p library (take place queries) q was left is before after a
    (subst (λ (n : ℕ). IsTried p library n q left is before after) number t))

tried_some : (p : RehearseCommand) (library : Parts) (queries : List (List (List ℕ))) (was is : Stream) (tally : Tally) → AreTriedFor p library queries was is tally
    → (tally.agree ≤ length queries) × (tally.unplaced ≤ length queries)
tried_some p library queries was is tally a =
    let count = trials_count p library 1 queries was is a.trials a.are in (
      omega (arith, ap (λ (y : Tally). y.agree) a.tally_is, passing_few agrees a.trials, count),
      omega (arith, ap (λ (y : Tally). y.unplaced) a.tally_is, passing_few is_unplaced a.trials, count),
    )

pub tried_few : (p : RehearseCommand) (library : Parts) (place : ℕ) (was is : Stream) (tally : Tally) → place < 8
    → AreTriedFor p library (take place (queries_of p.number)) was is tally → (tally.agree ≤ place) × (tally.unplaced ≤ place)
tried_few p library place was is tally within a =
    let few = tried_some p library (take place (queries_of p.number)) was is tally a in
    let count = count_taken p.number place within in
    (omega (arith, few.0, count), omega (arith, few.1, count))

pub all_tried : (p : RehearseCommand) (library : Parts) (place : ℕ) (was is : Stream) (tally : Tally) → 8 ≤ place
    → AreTriedFor p library (take place (queries_of p.number)) was is tally → AreTried p library was is tally
all_tried p library place was is tally past a =
    subst (λ (qs : List (List (List ℕ))). AreTriedFor p library qs was is tally) (take_all place (queries_of p.number) (omega (arith, past, queries_eight p.number))) a

split_at : {X : Type 0} (xs : List X) (i : ℕ) (d : X) → i < length xs → xs ≡ take i xs ++ slice_index_or xs i d ∷ drop (suc i) xs
split_at [] i d within = absurd (omega (arith, within))
split_at (x ∷ xs) zero d within = refl
split_at (x ∷ xs) (suc i) d within = ap (λ ys. x ∷ ys) (split_at xs i d (omega (arith, within)))

-- a query that isn't tried, behind others that were
stopped_at : (p : RehearseCommand) (library : Parts) (place : ℕ) (was left is : Stream) (tally : Tally) (fault : SearchFault) → place < 8 → IsMadeLibrary p library
    → AreTriedFor p library (take place (queries_of p.number)) was left tally
    → IsSearched (words_asked p (place + 1) (slice_index_or (queries_of p.number) place [])) library left is (Err fault) → StopsAt p was is fault
stopped_at p library place was left is tally fault within published a refused =
    let queries = queries_of p.number in
    let number : place + 1 ≡ length (take place queries) + 1 = omega (arith, count_taken p.number place within) in
    record {
      library = library;
      published = published;
      before = take place queries;
      query = slice_index_or queries place [];
      others = drop (suc place) queries;
      queries_are = split_at queries place [] (omega (arith, within, queries_eight p.number));
      trials = a.trials;
      left = left;
      are = a.are;
      refused = subst (λ (n : ℕ). IsSearched (words_asked p n (slice_index_or queries place [])) library left is (Err fault)) number refused;
    }

-- a link of its own never fails
search_stops : (p : RehearseCommand) (library : Parts) (place : ℕ) (was left is : Stream) (tally : Tally) (fault : SearchFault) → place < 8 → IsMadeLibrary p library
    → AreTriedFor p library (take place (queries_of p.number)) was left tally
    → JudgeCause (words_asked p (place + 1) (slice_index_or (queries_of p.number) place [])) library left is (Unsearched fault) → StopCause p was is (Unsearched fault)
search_stops p library place was left is tally (searching.NoPlacement documents buckets) within published a cause = absurd cause
search_stops p library place was left is tally searching.Link within published a cause = absurd (omega (arith, cause.tells.refused.rose))
search_stops p library place was left is tally fault within published a cause = stopped_at p library place was left is tally fault within published a cause

pub not_tried : (p : RehearseCommand) (library : Parts) (place : ℕ) (was left is : Stream) (tally : Tally) (refusal : Refusal) → place < 8 → IsMadeLibrary p library
    → AreTriedFor p library (take place (queries_of p.number)) was left tally
    → JudgeCause (words_asked p (place + 1) (slice_index_or (queries_of p.number) place [])) library left is refusal → StopCause p was is refusal
not_tried p library place was left is tally (Unsearched fault) within published a cause = search_stops p library place was left is tally fault within published a cause
not_tried p library place was left is tally Memory within published a cause = tt
not_tried p library place was left is tally refusal within published a cause = absurd cause

-- ---- the command

-- what stops the trials, or keeps them from beginning, is a cause of the command
pub stopped : (p : RehearseCommand) (was is : Stream) (refusal : Refusal) → StopCause p was is refusal → RehearseCause p was is refusal
stopped p was is (Unsearched fault) cause = cause
stopped p was is Memory cause = tt
stopped p was is refusal cause = absurd cause

pub answered : (p : RehearseCommand) (library : Parts) (was is : Stream) (tally : Tally) (text : List ℕ) → IsMadeLibrary p library → AreTried p library was is tally
    → text ≡ rehearse_lines tally.agree tally.unplaced tally.plain → RehearseAnswer p was is text
answered p library was is tally text published a lines = record {
  library = library;
  published = published;
  trials = a.trials;
  are = a.are;
  all = all_counted p library 1 (queries_of p.number) was is a.trials published a.are ∙ queries_eight p.number;
  text_is = lines ∙ ap (λ (y : Tally). rehearse_lines y.agree y.unplaced y.plain) a.tally_is;
}

-- ---- the status that is due

-- a search in the made library is refused only for want of memory
stopped_due : (p : RehearseCommand) (library : Parts) (pick : ℕ) (query : List (List ℕ)) (fault : SearchFault) → IsMadeLibrary p library
    → length (distinct (terms (joined query))) ≤ 9
    → AnswersPlainly (documents_of p.number) (rehearse_settings p) library (terms (joined query)) pick (Err fault) → (was is : Stream)
    → RehearseCause p was is (Unsearched fault)
    → status_of (Unsearched fault) ≡ 10
stopped_due p library pick query (searching.NoPlacement documents buckets) published few plain was is cause = absurd cause
stopped_due p library pick query searching.Link published few plain was is cause = absurd cause
stopped_due p library pick query (searching.TooManyKeywords number) published few plain was is cause = absurd (omega (arith, few, plain))
stopped_due p library pick query (searching.Test fault) published few plain was is cause =
    absurd (differ library.shape fault (test_of library.shape) published.passes plain)
stopped_due p library pick query (searching.Refused target status) published few plain was is cause = ap status_of_refused plain
stopped_due p library pick query searching.OutOfMemory published few plain was is cause = refl
stopped_due p library pick query fault published few plain was is cause = absurd plain

-- the query behind others is among the made ones
middle : (before : List (List (List ℕ))) (q : List (List ℕ)) (others : List (List (List ℕ))) → slice_index_or (before ++ q ∷ others) (length before) [] ≡ q
middle [] q others = refl
middle (r ∷ rs) q others = middle rs q others

stop_few : (p : RehearseCommand) (was is : Stream) (fault : SearchFault) (s : StopsAt p was is fault) → length (distinct (terms (joined s.query))) ≤ 9
stop_few p was is fault s =
    let count : length (s.before ++ s.query ∷ s.others) ≡ 8 = ap length (sym s.queries_are) ∙ queries_eight p.number in
    let within : length s.before < 8 = omega (arith, length-append s.before (s.query ∷ s.others), count) in
    let here : slice_index_or (queries_of p.number) (length s.before) [] ≡ s.query =
    ap (λ (qs : List (List (List ℕ))). slice_index_or qs (length s.before) []) s.queries_are ∙ middle s.before s.query s.others in
    subst (λ (q : List (List ℕ)). length (distinct (terms (joined q))) ≤ 9) here (made_few p.number (length s.before) within)

stop_due : (p : RehearseCommand) (was is : Stream) (fault : SearchFault) → RehearseCause p was is (Unsearched fault) → StopsAt p was is fault → status_of (Unsearched fault) ≡ 10
stop_due p was is fault cause s =
    stopped_due p s.library (length s.before + 1) s.query fault s.published (stop_few p was is fault s)
    (s.refused.plain (documents_of p.number) (rehearse_settings p) (library_is p s.library s.published)) was is cause

-- the cause of a search that was refused
stops : (p : RehearseCommand) (was is : Stream) (fault : SearchFault) → RehearseCause p was is (Unsearched fault) → StopsAt p was is fault
stops p was is (searching.NoPlacement documents buckets) cause = absurd cause
stops p was is searching.Link cause = absurd cause
stops p was is fault cause = cause

-- of documents that are published no fault but want of memory has its cause
publish_due : (p : RehearseCommand) (library : Parts) (fault : PublishFault) → IsMadeLibrary p library
    → IsRefused (documents_of p.number) (rehearse_settings p) fault → status_of (Publish fault) ≡ 10
publish_due p library publishing.OutOfMemory published refused = refl
publish_due p library fault published refused =
    absurd (no_refusal (documents_of p.number) (rehearse_settings p) library fault (λ e. absurd cc) published refused)

pub rehearse_due : (p : RehearseCommand) (was is : Outside) (refusal : Refusal) → HasNoFault was is → RefusedBy (SpokenRehearse p) was is refusal
    → CanBeRehearsed p → status_of refusal ≡ 10
rehearse_due p was is Output kept r can = absurd (kept.out r.took.rose)
rehearse_due p was is (Publish fault) kept r can = publish_due p can.library fault can.published r.cause
rehearse_due p was is (Unsearched fault) kept r can =
    stop_due p was.devices.random is.devices.random fault r.cause (stops p was.devices.random is.devices.random fault r.cause)
rehearse_due p was is Memory kept r can = refl
rehearse_due p was is refusal kept r can = absurd r.cause
