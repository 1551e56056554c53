use Rattle.std.proofs.Common.{sym, ap, ◌∙◌}
use Rattle.std.specs.Prelude.{codes}
use Rattle.std.specs.Str.{bytes_eq}
use Rattle.co_commands.specs.Words.{with_option}
use Rattle.co_commands.proofs.Rest.{option_read}
use Rattle.co_commands.proofs.options.read_next.Goals as goal

pub returns-in-Some-clause-value : goal.returns-in-Some-clause-value
returns-in-Some-clause-value c =
    option_read c.args.options c.in-Some.options c.args.words.now c.dashes-item.result c.name-item.result c.value-item.result c.in-len2-up.len_at_least
    c.dashes-item.is c.name-item.is c.value-item.is
    (ap (λ w. bytes_eq w (codes "--")) (sym c.as_str.ensures.value) ∙ sym c.eq.ensures ∙ c.if-eq.false)
    ((λ i. with_option c.args.options (sym c.as_str-in-len2-up.ensures.value i) (sym c.as_str-in-len2-up-2.ensures.value i)) ∙ sym c.with.ensures ∙ c.in-Some.is)
