use Rattle.std.proofs.Common.{◌≡◌, ℕ, ◌∙◌, sym, ap, List, Option, Result, Ok, Err}
use Rattle.std.proofs.lemmas.Bool.{true≢false}
use Rattle.std.proofs.lemmas.Result.{err_from_is_err_and}
use Rattle.co_text.specs.declared.found.Found.{Found}
use Rattle.co_text.specs.declared.found.Hit.{Hit}
use Rattle.co_text.specs.declared.ranks.Ranked.{Ranked}
use Rattle.co_client.specs.declared.fault.SearchFault.{SearchFault}
use Rattle.co_client.specs.Faults.{IsReadAs}
use Rattle.co_client.specs.Records.{◌>>=◌, hits_shown}
use Rattle.co_client.specs.Shown.{concluded, answer_of}
use Rattle.co_client.proofs.searching.show.Goals as goal

-- what is wanted is answered
as-wanted : (result wanted : Result Found SearchFault) → wanted ≡ result → IsReadAs result wanted
as-wanted (Ok found) wanted e = e
as-wanted (Err fault) wanted e = λ w. e

pub returns-in_err-document : goal.returns-in_err-document
returns-in_err-document c =
    let p = err_from_is_err_and c.from_residual.result c.from_residual.ensures.1 in
    rw (p.1, p.2)
    (λ cs spelled want. ap (λ (picked : Result (Option (ℕ × List ℕ)) SearchFault). picked >>= answer_of c.args.ranked c.args.records.now) (c.in_err-document.ensures cs spelled want))

pub returns-in_default : goal.returns-in_default
returns-in_default c = λ cs spelled want. absurd (true≢false want)

pub returns : goal.returns
returns c = λ cs spelled.
    let ranked = c.args.ranked in
    let records = c.args.records.now in
    let hits = c.in-Ok.ensures ∙ ap (λ (hs : List Ranked). hits_shown hs records) c.shown.ensures in
    as-wanted c.conclude.result _
    (ap (λ (picked : Result (Option (ℕ × List ℕ)) SearchFault). picked >>= answer_of ranked records) (c.in_ok-document.ensures cs spelled)
    ∙ ap (λ (hs : List Hit). concluded ranked.refused (record { hits = hs; unknown = ranked.unknown; document = c.in_ok-document.document })) (sym hits)
    ∙ sym c.conclude.ensures)
