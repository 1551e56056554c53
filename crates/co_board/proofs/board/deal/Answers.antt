use Rattle.std.proofs.Common.{◌≡◌, ◌+◌, ◌-◌, ◌++◌, ◌∷◌, [], List, map, append_assoc, sym, ap, ◌∙◌, refl, arith}
use Rattle.atomic_table.specs.Table.{Me}
use Rattle.atomic_table.specs.Seated.{TableId}
use Rattle.co_board.specs.declared.rule.Hand.{Hand}
use Rattle.co_board.specs.Rule.{hand, hands_from, first_hand, front_hand, other_hands}
use Rattle.co_board.specs.Passes.{pass_of, PassValue}
use Rattle.co_board.proofs.Steps.{deals, hands_next, hands_last}
use Rattle.co_board.proofs.board.deal.Goals as goal

pub split_seat-next-requires : goal.split_seat-next-requires
split_seat-next-requires c = (c.loop-number.invariant.seat, omega arith, deals c.args.table.now.shared.key c.loop-number.seat.id c.loop-number.seat.me.0)

pub pass_with-requires : goal.pass_with-requires
pass_with-requires c =
    let e = c.loop-number.invariant.left ∙ ap (λ (hs : List Hand). (hs, [])) (hands_next c.args.limits c.loop-number.number (omega arith)) in
    (hand c.args.limits c.loop-number.number [], c.split_seat-next.ensures.4 ∙ ap (λ (m : Me (Unit {0}) (List Hand)). (front_hand m.0, [])) e, refl)

pub loop-number-preserved : goal.loop-number-preserved
loop-number-preserved c =
    let e = c.loop-number.invariant.left ∙ ap (λ (hs : List Hand). (hs, [])) (hands_next c.args.limits c.loop-number.number (omega arith)) in
    record {
      seat = c.split_seat-next.ensures.0 ∙ c.loop-number.invariant.seat;
      left = c.split_seat-next.ensures.2 ∙ ap (λ (m : Me (Unit {0}) (List Hand)). (other_hands m.0, m.1)) e;
      made =
          let rest = hands_from c.args.limits (c.loop-number.number + 1) (c.args.limits.seats - (c.loop-number.number + 1)) in
          let tid = c.args.table.now.shared.table_id in
          let old : List PassValue = c.loop-number.passes.items in
          let one = c.split_seat-next.ensures.4 ∙ ap (λ (m : Me (Unit {0}) (List Hand)). (front_hand m.0, [])) e in
          let pass_is : c.pass_with.result ≡ pass_of tid (hand c.args.limits c.loop-number.number []) = c.pass_with.ensures
          ∙ ap (λ (t : TableId). pass_of t (first_hand c.split_seat-next.result.me.0)) (c.split_seat-next.ensures.3 ∙ c.loop-number.invariant.seat) ∙ ap (λ (m : Me (Unit {0}) (List Hand)). pass_of tid (first_hand m.0)) one in
          ap (λ (xs : List PassValue). xs ++ map (pass_of tid) rest) c.in_ok-push.ensures.items ∙ append_assoc old (c.pass_with.result ∷ []) (map (pass_of tid) rest)
          ∙ ap (λ (p : PassValue). old ++ p ∷ map (pass_of tid) rest) pass_is
          ∙ ap (λ (hs : List Hand). old ++ map (pass_of tid) hs) (sym (hands_next c.args.limits c.loop-number.number (omega arith))) ∙ c.loop-number.invariant.made;
    }

pub pass_with-requires-2 : goal.pass_with-requires-2
pass_with-requires-2 c =
    let n = c.loop-number.number in
    let last : n + 1 ≡ c.args.limits.seats = omega arith in
    (hand c.args.limits n [], c.loop-number.invariant.left ∙ ap (λ (hs : List Hand). (hs, [])) (hands_last c.args.limits n last), refl)

pub returns : goal.returns
returns c =
    let n = c.loop-number.number in
    let last : n + 1 ≡ c.args.limits.seats = omega arith in
    let tid = c.args.table.now.shared.table_id in
    let old : List PassValue = c.loop-number.passes.items in
    let one = c.loop-number.invariant.left ∙ ap (λ (hs : List Hand). (hs, [])) (hands_last c.args.limits n last) in
    let pass_is : c.pass_with-2.result ≡ pass_of tid (hand c.args.limits n []) = c.pass_with-2.ensures
    ∙ ap (λ (t : TableId). pass_of t (first_hand c.loop-number.seat.me.0)) c.loop-number.invariant.seat ∙ ap (λ (m : Me (Unit {0}) (List Hand)). pass_of tid (first_hand m.0)) one in
    c.in_ok-push-2.ensures.items
    ∙ ap (λ (p : PassValue). old ++ p ∷ []) pass_is
    ∙ ap (λ (hs : List Hand). old ++ map (pass_of tid) hs) (sym (hands_last c.args.limits n last))
    ∙ c.loop-number.invariant.made
