-- Goals of `read_record` that the check left open.
use Rattle.std.proofs.Common.{◌∙◌, ap, sym, arith}
use Rattle.std.proofs.lemmas.Result.{err_from_is_err_and}
use Rattle.co_pack.specs.Records.{record_of, with_title}
use Rattle.co_pack.proofs.Spelling.{refused, not_refused, spelled_record, found_title, spelled_from}
use Rattle.co_pack.proofs.records.read_record.Goals as goal

pub returns-in_err-title-clause-only : goal.returns-in_err-title-clause-only
returns-in_err-title-clause-only c =
    let p = err_from_is_err_and c.from_residual.result c.from_residual.ensures.1 in
    rw (p.1, p.2) (not_refused c.args.bytes.now c.in_err-title.field-0.0 c.in_err-title.ensures)

pub returns-in_err-title-clause-exact : goal.returns-in_err-title-clause-exact
returns-in_err-title-clause-exact c =
    let p = err_from_is_err_and c.from_residual.result c.from_residual.ensures.1 in
    rw (p.1, p.2) (refused c.args.bytes.now c.in_err-title.field-0.0 c.in_err-title.ensures)

pub returns-clause-found : goal.returns-clause-found
returns-clause-found c =
    let title = found_title c.args.bytes.now c.in_ok-title.title c.requires c.in_ok-title.ensures in (
      record { document = omega arith; bin = omega arith; offset = omega arith; long = omega arith; titled = title.0 },
      spelled_from c.args.bytes.now c.in_ok-title.title c.number_at-4.result (record { bin = c.number_at.result; offset = c.number_at-2.result; length = c.number_at-3.result }) title.1
          c.number_at-4.ensures.spelled c.number_at.ensures.spelled c.number_at-2.ensures.spelled c.number_at-3.ensures.spelled,
    )

pub returns-clause-exact : goal.returns-clause-exact
unfolding record_of
returns-clause-exact c = rw (c.number_at-4.ensures.value, c.number_at.ensures.value, c.number_at-2.ensures.value, c.number_at-3.ensures.value) (ap (with_title c.args.bytes.now) c.in_ok-title.ensures)

pub returns-clause-only : goal.returns-clause-only
returns-clause-only c = λ r good spelled. sym (spelled_record c.args.bytes.now r good spelled) ∙ returns-clause-exact c
