-- What a search answers over honest exchanges: the plain answer, or that its hits can't be placed.
use Rattle.std.specs.Prelude.{◌≡◌, ℕ, ◌<◌, List, length, Result, Ok, Err}
use Rattle.co_noise.specs.Bounds.{test_of}
use Rattle.co_text.specs.Terms.{distinct}
use Rattle.co_text.specs.declared.found.Found.{Found}
use Rattle.co_text.specs.declared.limits.TheConstants.{MOST_KEYWORDS}
use Rattle.co_text.specs.declared.ranks.Ranked.{Ranked}
use Rattle.co_text.specs.Ranking.{ranking}
use Rattle.co_corpus.specs.declared.documents.Document.{Document}
use Rattle.co_tfidf.specs.Scores.{scores}
use Rattle.co_tfidf.specs.Found.{found}
use Rattle.co_library.specs.declared.settings.Settings.{Settings}
use Rattle.co_library.specs.Libraries.{Parts}
use Rattle.co_rounds.specs.Placing.{CanBePlaced, IsUnplaced}
use Rattle.co_client.specs.declared.fault.SearchFault.{SearchFault}
use Rattle.co_client.specs.declared.fault.SearchFault.TheVariants.{TooManyKeywords, Test, NoPlacement, Link, Refused, OutOfMemory}

-- the hits of the plain answer, by document and score
abbrev pub plain_hits : List Document → Settings → List (List ℕ) → List Ranked
plain_hits documents settings query = ranking settings.hits (scores settings.terms documents query)

-- the plain answer exactly where the hits can be placed; else the witness that they can't. Of the
-- refusals those alone that want of memory, the link, the number of keywords and the test bring
-- about
abbrev pub AnswersPlainly : List Document → Settings → Parts → List (List ℕ) → ℕ
    → Result Found SearchFault → Type 0
AnswersPlainly documents settings l query pick (Ok f) =
    (f ≡ found settings.terms documents settings.hits query pick)
    × CanBePlaced l.shape (plain_hits documents settings query)
AnswersPlainly documents settings l query pick (Err (NoPlacement items buckets)) =
    IsUnplaced l.shape (plain_hits documents settings query) items buckets
AnswersPlainly documents settings l query pick (Err (TooManyKeywords number)) =
    MOST_KEYWORDS < length (distinct query)
AnswersPlainly documents settings l query pick (Err (Test fault)) = test_of l.shape ≡ Err fault
AnswersPlainly documents settings l query pick (Err (Refused target status)) = status ≡ 503
AnswersPlainly documents settings l query pick (Err Link) = Unit {0}
AnswersPlainly documents settings l query pick (Err OutOfMemory) = Unit {0}
AnswersPlainly documents settings l query pick (Err fault) = ⊥
