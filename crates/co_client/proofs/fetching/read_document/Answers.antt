use Rattle.std.proofs.Common.{◌≡◌, ℕ, ◌-◌, ◌∙◌, sym, ap, arith, Bool, cond, List, Some, None, Result, Ok}
use Rattle.std.specs.Prelude.{slice_get}
use Rattle.std.proofs.lemmas.Bool.{ne_eqb}
use Rattle.std.proofs.lemmas.Option.{slice_get-get_or}
use Rattle.std.proofs.lemmas.Result.{err_from_is_err_and}
use Rattle.co_pack.specs.declared.records.Record.{Record}
use Rattle.co_client.specs.declared.fault.SearchFault.{SearchFault}
use Rattle.co_client.specs.Records.{◌>>=◌, picked_record, picked_read}
use Rattle.co_client.proofs.fetching.read_document.Goals.{In-Some}
use Rattle.co_client.proofs.fetching.read_document.Goals as goal

-- a record is picked
picked : (c : In-Some) → picked_record c.args.records.now c.args.pick ≡ Some c.in-Some.record.now
picked c =
    let records = c.args.records.now in
    let there = c.in-Some.ensures.lookup.3 in
    ap (λ (b : Bool). cond b None (slice_get records (c.args.pick - 1))) (ne_eqb c.args.pick 0 (λ e. omega (arith, c.requires.pick, e)))
    ∙ slice_get-get_or records (c.args.pick - 1) c.in-Some.record.now there.0 ∙ ap (λ (r : Record). Some r) (sym (there.1 c.in-Some.record.now))

pub returns-in_err-text : goal.returns-in_err-text
returns-in_err-text c =
    let p = err_from_is_err_and c.from_residual.result c.from_residual.ensures.1 in
    rw (p.1, p.2)
    (λ cs s want.
    ap (picked_read c.args.reader.now.secret cs) (picked (goal.at.returns-in_err-text c).In-Some)
    ∙ ap (λ (r : Result (List ℕ) SearchFault). r >>= λ text. Ok (Some (c.in-Some.record.now.document, text))) (c.in_err-text.ensures cs s want))

pub returns : goal.returns
returns c = λ cs s.
    ap (picked_read c.args.reader.now.secret cs) (picked (goal.at.returns c).In-Some)
    ∙ ap (λ (r : Result (List ℕ) SearchFault). r >>= λ text. Ok (Some (c.in-Some.record.now.document, text))) (c.in_ok-text.ensures cs s)
