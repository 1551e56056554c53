-- Goals of `title_in` that the check left open.
use Rattle.std.proofs.Common.{◌∙◌, ap, sym, take, drop}
use Rattle.co_pack.specs.Records.{title_length}
use Rattle.co_pack.proofs.Spelling.{title_decided}
use Rattle.co_pack.proofs.records.title_in.Goals as goal

pub returns-in-Some : goal.returns-in-Some
returns-in-Some c =
    title_decided c.args.bytes.now _ _ c.in_ok-title.title _ c.if-size-gt-LONGEST_TITLE.false
    (c.split_at-2.ensures.front ∙ ap (take (title_length c.args.bytes.now)) c.split_at.ensures.back) (c.split_at-2.ensures.back ∙ ap (drop (title_length c.args.bytes.now)) c.split_at.ensures.back)
    c.in_ok-title.ensures (sym c.first_set.ensures.value ∙ c.in-Some.is)

pub returns-in-None : goal.returns-in-None
returns-in-None c =
    title_decided c.args.bytes.now _ _ c.in_ok-title.title _ c.if-size-gt-LONGEST_TITLE.false
    (c.split_at-2.ensures.front ∙ ap (take (title_length c.args.bytes.now)) c.split_at.ensures.back) (c.split_at-2.ensures.back ∙ ap (drop (title_length c.args.bytes.now)) c.split_at.ensures.back)
    c.in_ok-title.ensures (sym c.first_set.ensures.value ∙ c.in-None.is)
