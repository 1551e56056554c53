use Rattle.co_commands.proofs.Known.{unknown}
use Rattle.co_commands.proofs.words.read_known.Goals as goal

pub returns-in_default-as_str-clause-value : goal.returns-in_default-as_str-clause-value
returns-in_default-as_str-clause-value c =
    let d = c.in_default-as_str in
    unknown c.args.words.now c.command-item.result c.as_str.result.now c.in-len1-up.len_at_least c.command-item.is c.as_str.ensures.value
    d.not-plain d.not-import d.not-shape d.not-local d.not-serve d.not-search d.not-rehearse
