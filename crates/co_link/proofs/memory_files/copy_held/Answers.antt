use Rattle.std.proofs.Common.{◌≡◌, ◌||◌, false, Some, arith, refl, sym, ◌∙◌, ap}
use Rattle.std.proofs.lemmas.Grind.{common_steps}
use Rattle.std.specs.Option.{option_copied, is_none}
use Rattle.std.specs.BTreeMap.{get_by_text}
use mathlib.Core.Bool.{true≢false}
use Rattle.co_link.proofs.memory_files.copy_held.Goals as goal

pub returns-in-Ok-clause-fails : goal.returns-in-Ok-clause-fails
returns-in-Ok-clause-fails c =
    let no : c.args.fails ≡ false = c.if-fails.false in
    let held : get_by_text c.args.files.now c.args.name.now ≡ Some c.in-Some.bytes.now =
    sym c.get.ensures.value ∙ ap option_copied c.in-Some.is in
    let neither : (c.args.fails || is_none (get_by_text c.args.files.now c.args.name.now)) ≡ false = rw (no, held) refl in
    record { only = λ e. absurd (grind (arith, common_steps)); there = λ e. absurd (true≢false (sym e ∙ neither)) }
