use Rattle.std.proofs.Common.{◌≡◌, ◌<◌, ◌^◌, drop}
use Rattle.std.specs.Str.Parse.{digits_value_after, digits_value}
use Rattle.co_commands.proofs.options.value_of.Given as goal

abbrev pub invariant-loop-digit : goal.invariant-loop-digit
invariant-loop-digit l = (l.value < 10 ^ l.digit-index) × (digits_value_after 10 l.value (drop l.digit-index l.digits) ≡ digits_value 10 l.digits)
