use Rattle.co_client.proofs.Told.{told-at}
use Rattle.co_client.proofs.Trails.{made-extends}
use Rattle.co_client.proofs.Tells_plainly.{tells_plainly, tells_surely}
use Rattle.co_client.proofs.searching.search.Goals as goal

pub returns-clause-told : goal.returns-clause-told
returns-clause-told g c = c.conduct.ensures.told

pub returns-clause-plain : goal.returns-clause-plain
returns-clause-plain g c = λ es e documents settings l held library honest.
    tells_plainly _ es _ _ (told-at _ _ _ _ _ c.conduct.ensures.told es e) documents settings l held library honest

pub returns-clause-sure : goal.returns-clause-sure
returns-clause-sure g c = λ es e documents settings l held library honest.
    tells_surely _ es _ _ (told-at _ _ _ _ _ c.conduct.ensures.told es e) documents settings l held library honest

pub returns-clause-earlier : goal.returns-clause-earlier
returns-clause-earlier g c = λ es e. (told-at _ _ _ _ _ c.conduct.ensures.told es e).earlier

pub returns-clause-planned : goal.returns-clause-planned
returns-clause-planned g c = λ es e. (told-at _ _ _ _ _ c.conduct.ensures.told es e).follows

pub returns-clause-whole : goal.returns-clause-whole
returns-clause-whole g c = λ es e. (told-at _ _ _ _ _ c.conduct.ensures.told es e).whole

pub returns-clause-read : goal.returns-clause-read
returns-clause-read g c = λ es e. (told-at _ _ _ _ _ c.conduct.ensures.told es e).read

pub returns-clause-refused : goal.returns-clause-refused
returns-clause-refused g c = λ es e. (told-at _ _ _ _ _ c.conduct.ensures.told es e).refused

pub returns-clause-few : goal.returns-clause-few
returns-clause-few g c = c.conduct.ensures.told.tells.few

pub returns-clause-asked : goal.returns-clause-asked
returns-clause-asked g c = λ es e. (told-at _ _ _ _ _ c.conduct.ensures.told es e).asked

pub returns-clause-goes_on : goal.returns-clause-goes_on
returns-clause-goes_on g c = λ es e. (told-at _ _ _ _ _ c.conduct.ensures.told es e).goes

pub returns-clause-extends : goal.returns-clause-extends
returns-clause-extends g c = made-extends _ _ _ c.conduct.ensures.told.makes
