use Rattle.std.proofs.Common.{◌+◌, ◌∙◌, refl}
use Rattle.co_switch.proofs.Adding.{digit_spectrum}
use Rattle.co_switch.proofs.products.digit_values.Goals as goal

pub returns-clause-low : goal.returns-clause-low
returns-clause-low c = digit_spectrum c.args.tables.now c.args.index c.args.room.now.digits
    c.args.room.now.digits c.to_spectrum.new.into refl c.to_spectrum.ensures.values

pub returns-clause-middle : goal.returns-clause-middle
returns-clause-middle c = digit_spectrum c.args.tables.now (c.args.index + 1) c.args.room.now.digits
    c.to_spectrum.new.self c.to_spectrum-2.new.into c.to_spectrum.ensures.same
    c.to_spectrum-2.ensures.values

pub returns-clause-high : goal.returns-clause-high
returns-clause-high c = digit_spectrum c.args.tables.now (c.args.index + 2) c.args.room.now.digits
    c.to_spectrum-2.new.self c.to_spectrum-3.new.into
    (c.to_spectrum-2.ensures.same ∙ c.to_spectrum.ensures.same) c.to_spectrum-3.ensures.values
