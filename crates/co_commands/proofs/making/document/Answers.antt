use Rattle.std.proofs.Common.{sym, subst}
use mathlib.Core.Bool.{true≢false}
use Rattle.co_text.specs.Titles.{IsTitle}
use Rattle.co_commands.proofs.Generated.{title_is}
use Rattle.co_commands.proofs.making.document.Goals as goal

pub unreachable-requires : goal.unreachable-requires
unreachable-requires c =
    true≢false (sym (c.in_default.ensures.exact.1 (subst IsTitle (sym c.in_ok-format.ensures.ok) (title_is c.args.number c.requires))))
