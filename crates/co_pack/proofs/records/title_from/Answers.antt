-- Goals of `title_from` that the check left open.
use Rattle.std.proofs.Common.{◌≡◌, ◌∙◌, true, refl, sym, subst, string_bytes}
use Rattle.co_text.specs.Titles.{IsTitle}
use Rattle.co_pack.specs.Records.{is_text}
use Rattle.co_pack.proofs.Spelling.{not_text, text_of_title}
use Rattle.co_pack.proofs.records.title_from.Goals as goal

pub returns-in_default : goal.returns-in_default
returns-in_default c = rw (not_text c.args.bytes.now c.in_default.ensures.cases.0) refl

pub returns-in-Some : goal.returns-in-Some
returns-in-Some c =
    let same : string_bytes c.in-Ok-from_str.text ≡ c.args.bytes.now = c.in-Ok-from_str.ensures.ok ∙ c.in-Ok.ensures.cases.0 in
    let is : is_text c.args.bytes.now ≡ true = text_of_title c.args.bytes.now (subst IsTitle same (c.in-Some.ensures.exact.0 refl)) in
    let value : c.args.bytes.now ≡ c.in-Some.title = sym same ∙ sym c.in-Some.ensures.value in
    rw (is, value) refl
