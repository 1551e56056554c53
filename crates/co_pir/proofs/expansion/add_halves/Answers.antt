use Rattle.std.proofs.Common.{rules, arith, sym, ap, ◌∙◌, length, map}
use Rattle.std.proofs.lemmas.List.{take_all}
use Rattle.co_switch.specs.Steps.{HasRisen}
use Rattle.co_pir.specs.Expansions.{even_half, odd_half}
use Rattle.co_switch.proofs.Rising.{raised-zero}
use Rattle.co_pir.proofs.Rising.{turn_failed, turn_ended, turn_raised}
use Rattle.co_pir.proofs.Halving.{mapped_more}
use Rattle.co_pir.proofs.expansion.add_halves.Goals as goal

pub loop-cipher-init : goal.loop-cipher-init
loop-cipher-init g c = (c.requires.evens, c.requires.odds, sym (raised-zero c.args.steps.now))

pub returns-in_err-even-clause-few_steps : goal.returns-in_err-even-clause-few_steps
returns-in_err-even-clause-few_steps g c =
    let h : HasRisen c.args.steps.now (length c.args.ciphers.now) c.halves.new.steps =
    turn_failed c.args.steps.now c.loop-cipher.steps c.halves.new.steps c.loop-cipher.cipher-index (length c.args.ciphers.now) c.loop-cipher.invariant.2 c.in_err-even.ensures.few_steps (omega arith) in
    search rules

pub returns-in_err-push-clause-few_steps : goal.returns-in_err-push-clause-few_steps
returns-in_err-push-clause-few_steps g c =
    let h : HasRisen c.args.steps.now (length c.args.ciphers.now) c.halves.new.steps =
    turn_ended c.args.steps.now c.loop-cipher.steps c.halves.new.steps c.loop-cipher.cipher-index (length c.args.ciphers.now) c.loop-cipher.invariant.2 c.in_ok-even.ensures.step (omega arith) in
    search rules

pub returns-in_err-push-2-clause-few_steps : goal.returns-in_err-push-2-clause-few_steps
returns-in_err-push-2-clause-few_steps g c =
    let h : HasRisen c.args.steps.now (length c.args.ciphers.now) c.halves.new.steps =
    turn_ended c.args.steps.now c.loop-cipher.steps c.halves.new.steps c.loop-cipher.cipher-index (length c.args.ciphers.now) c.loop-cipher.invariant.2 c.in_ok-even.ensures.step (omega arith) in
    search rules

pub loop-cipher-preserved : goal.loop-cipher-preserved
loop-cipher-preserved g c = (
  mapped_more (even_half c.args.key.now) c.args.ciphers.now c.loop-cipher.cipher-index c.cipher-item.result c.in_ok-even.even c.loop-cipher.evens.items c.push.new.self.items
      (omega arith) c.cipher-item.is c.in_ok-even.ensures.even c.loop-cipher.invariant.0 c.in_ok-push.ensures.items,
  mapped_more (odd_half c.args.exponent c.args.key.now) c.args.ciphers.now c.loop-cipher.cipher-index c.cipher-item.result c.in_ok-even.odd c.loop-cipher.odds.items c.push-in-loop-cipher.new.self.items
      (omega arith) c.cipher-item.is c.in_ok-even.ensures.odd c.loop-cipher.invariant.1 c.in_ok-push-2.ensures.items,
  turn_raised c.args.steps.now c.loop-cipher.steps c.halves.new.steps c.loop-cipher.cipher-index c.loop-cipher.invariant.2 c.in_ok-even.ensures.step,
)

pub returns-clause-evens : goal.returns-clause-evens
returns-clause-evens g c =
    c.loop-cipher.invariant.0 ∙ ap (map (even_half c.args.key.now)) (take_all c.loop-cipher.cipher-index c.args.ciphers.now (omega arith))

pub returns-clause-odds : goal.returns-clause-odds
returns-clause-odds g c =
    c.loop-cipher.invariant.1 ∙ ap (map (odd_half c.args.exponent c.args.key.now)) (take_all c.loop-cipher.cipher-index c.args.ciphers.now (omega arith))
