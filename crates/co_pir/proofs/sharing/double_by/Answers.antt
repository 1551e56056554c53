use Rattle.std.proofs.Common.{◌≡◌, ℕ, ◌*◌, ◌-◌, rules, arith, ap, sym, subst, ◌∙◌, List, [], length, get_or}
use Rattle.co_bfv.specs.Totals.{ciphertext_at}
use Rattle.co_switch.specs.Keys.{key_degree}
use Rattle.co_switch.specs.Steps.{HasRisen}
use Rattle.co_switch.proofs.Rising.{risen_none}
use Rattle.co_board.proofs.Closing.{nothing}
use Rattle.co_crew.proofs.Adding.{whole_kept}
use Rattle.co_pir.specs.declared.sharing.Halves.{Halves}
use Rattle.co_pir.specs.Expansions.{doubled, AreHalves}
use Rattle.co_pir.proofs.Rising.{turns_ended}
use Rattle.co_pir.proofs.Halving.{doubled-is}
use Rattle.co_pir.proofs.Taking.{taking_none, taking_risen, taking_next, taking_all}
use Rattle.co_pir.proofs.sharing.double_by.Goals as goal

pub returns-in_err-places-clause-few_steps : goal.returns-in_err-places-clause-few_steps
returns-in_err-places-clause-few_steps g c =
    let h : HasRisen c.args.steps.now (length c.args.ciphers.now) c.args.steps.now = risen_none c.args.steps.now (length c.args.ciphers.now) in
    search rules

pub loop-place-init : goal.loop-place-init
loop-place-init g c =
    let L : Type 0 = g.row.L.Denot in
    let e = c.exponent_at-exponent.result in
    let cs = c.args.ciphers.now in
    let places = c.in_ok-places.places in
    let made : List (Halves L) = c.put_all.new.places in
    let long : length made ≡ length places.items = c.put_all.auto.places ∙ ap length c.as_mut_slice.ensures.value in
    let kept : c.into_iter-place-iterator.result.rest.items ≡ made = c.into_iter-place-iterator.ensures.into_iter_gives.0 ∙ whole_kept places.len places.items made places.ok.0 long in
    let whole : length made ≡ length cs = let k = c.in_ok-places.ensures.count in let l = places.ok.0 in omega arith in
    taking_none (λ (h : Halves L). h.pair) (λ (h : Halves L). h.steps) e c.args.key.now cs c.args.steps.now c.into_iter-place-iterator.result.rest.items c.new-evens.result.items c.new-odds.result.items c.new-evens.ensures.items c.new-odds.ensures.items
    (ap length kept ∙ whole)
    (λ i d l. subst (λ (xs : List (Halves L)). AreHalves e c.args.key.now (ciphertext_at cs i) (get_or xs i d).pair (get_or xs i d).steps) (sym kept) (c.put_all.ensures i d l))

pub returns-in_err-even-clause-few_steps : goal.returns-in_err-even-clause-few_steps
returns-in_err-even-clause-few_steps g c =
    let n = length c.args.ciphers.now in
    let h : HasRisen c.args.steps.now n c.loop-place.steps = turns_ended c.args.steps.now c.loop-place.steps (length c.loop-place.evens.items) n c.loop-place.invariant.steps_are (omega (arith, c.loop-place.invariant.whole)) in
    search rules

pub returns-in_err-push-clause-few_steps : goal.returns-in_err-push-clause-few_steps
returns-in_err-push-clause-few_steps g c =
    let L : Type 0 = g.row.L.Denot in
    let h : HasRisen c.args.steps.now (length c.args.ciphers.now) c.take_in.new.self =
    taking_risen (λ (h : Halves L). h.pair) (λ (h : Halves L). h.steps) c.exponent_at-exponent.result c.args.key.now c.args.ciphers.now c.args.steps.now c.loop-place.place-iterator.rest.items c.next.new.self.rest.items c.in-Some.place
    c.loop-place.evens.items c.loop-place.odds.items c.loop-place.steps c.in-Some.ensures.steps.0 c.loop-place.invariant c.in_ok-even.even c.in_ok-even.odd c.take_in.new.self c.in_ok-even.was c.take_in.ensures in
    search rules

pub loop-place-preserved : goal.loop-place-preserved
loop-place-preserved g c =
    let L : Type 0 = g.row.L.Denot in
    taking_next (λ (h : Halves L). h.pair) (λ (h : Halves L). h.steps) c.exponent_at-exponent.result c.args.key.now c.args.ciphers.now c.args.steps.now c.loop-place.place-iterator.rest.items c.next.new.self.rest.items c.in-Some.place
    c.loop-place.evens.items c.loop-place.odds.items c.loop-place.steps c.in-Some.ensures.steps.0 c.loop-place.invariant c.in_ok-even.even c.in_ok-even.odd c.take_in.new.self c.in_ok-even.was c.take_in.ensures
    c.push.new.self.items c.push-in-loop-place.new.self.items c.in_ok-push.ensures.items c.in_ok-push-2.ensures.items

pub returns-in_err-push-2-clause-few_steps : goal.returns-in_err-push-2-clause-few_steps
returns-in_err-push-2-clause-few_steps g c =
    let L : Type 0 = g.row.L.Denot in
    let h : HasRisen c.args.steps.now (length c.args.ciphers.now) c.take_in.new.self =
    taking_risen (λ (h : Halves L). h.pair) (λ (h : Halves L). h.steps) c.exponent_at-exponent.result c.args.key.now c.args.ciphers.now c.args.steps.now c.loop-place.place-iterator.rest.items c.next.new.self.rest.items c.in-Some.place
    c.loop-place.evens.items c.loop-place.odds.items c.loop-place.steps c.in-Some.ensures.steps.0 c.loop-place.invariant c.in_ok-even.even c.in_ok-even.odd c.take_in.new.self c.in_ok-even.was c.take_in.ensures in
    search rules

pub returns-in_err-append-clause-few_steps : goal.returns-in_err-append-clause-few_steps
returns-in_err-append-clause-few_steps g c =
    let n = length c.args.ciphers.now in
    let h : HasRisen c.args.steps.now n c.loop-place.steps = turns_ended c.args.steps.now c.loop-place.steps (length c.loop-place.evens.items) n c.loop-place.invariant.steps_are (omega (arith, c.loop-place.invariant.whole)) in
    search rules

pub returns-clause-value : goal.returns-clause-value
returns-clause-value g c =
    let L : Type 0 = g.row.L.Denot in
    let e = c.exponent_at-exponent.result in
    let key = c.args.key.now in
    let cs = c.args.ciphers.now in
    let rest : List (Halves L) = c.loop-place.place-iterator.rest.items in
    let none_left : rest ≡ [] = nothing rest (sym c.loop-place.place-iterator.rest.ok.0 ∙ c.in-None.ensures.steps.0) in
    let all = taking_all (λ (h : Halves L). h.pair) (λ (h : Halves L). h.steps) e key cs c.args.steps.now rest c.loop-place.evens.items c.loop-place.odds.items c.loop-place.steps none_left c.loop-place.invariant in
    let is : e ≡ 2 * key_degree key - length cs = omega (arith, c.exponent_at-exponent.ensures.value) in
    doubled-is e key cs c.loop-place.evens.items c.loop-place.odds.items c.append.new.self.items all.0 all.1 c.in_ok-append.ensures.items ∙ ap (λ (x : ℕ). doubled x key cs) is
