use Rattle.std.proofs.Common.{◌≡◌, List, [], ◌++◌, ◌≤◌, length, map, sym, ap, subst, ◌∙◌, arith}
use Rattle.std.proofs.lemmas.List.{append-nil, length-map}
use Rattle.std.specs.Slots.{slots_items}
use Rattle.atomic_table.specs.Table.{Me}
use Rattle.atomic_table.specs.Seated.{TableId}
use Rattle.co_board.specs.declared.rule.Hand.{Hand}
use Rattle.co_board.specs.Passes.{pass_of, PassValue, BoardValue, IsClosed}
use Rattle.co_board.specs.Rule.{first_hand}
use Rattle.co_board.proofs.Steps.{joins}
use Rattle.co_board.proofs.Closing.{closes, each_once, units_once, of_board, nothing, joined}
use Rattle.co_board.proofs.board.Board.close.Goals as goal

pub join_seat-requires : goal.join_seat-requires
join_seat-requires c =
    let split = sym (ap (λ (xs : List PassValue). map (pass_of c.loop-pass.kept.table_id) c.loop-pass.kept.me.0 ++ xs) c.in-Some-pass.ensures.steps.0) ∙ c.loop-pass.invariant.left in
    let board = of_board c.args.self c.args.passes.items c.requires.board (map (pass_of c.loop-pass.kept.table_id) c.loop-pass.kept.me.0) c.in-Some-pass.pass c.next-in-loop-pass.new.self.rest.items split in (
      c.loop-pass.invariant.seat,
      ap (λ (v : PassValue). v.board.table) c.pass.view_is ∙ ap (λ (b : BoardValue). b.table) board ∙ ap (λ (b : BoardValue). b.table) (sym c.self.view_is),
      ap (λ (m : Me (Unit {0}) (List Hand)). m.1) c.pass.invariant.0,
      omega arith,
      joins c.self.inside.table.shared.key c.loop-pass.kept.id c.loop-pass.kept.me.0 c.pass.inside.seat.id c.pass.inside.seat.me.0,
    )

pub loop-pass-preserved : goal.loop-pass-preserved
loop-pass-preserved c =
    let h = c.join_seat.ensures in
    let split = sym (ap (λ (xs : List PassValue). map (pass_of c.loop-pass.kept.table_id) c.loop-pass.kept.me.0 ++ xs) c.in-Some-pass.ensures.steps.0) ∙ c.loop-pass.invariant.left in
    let board = of_board c.args.self c.args.passes.items c.requires.board (map (pass_of c.loop-pass.kept.table_id) c.loop-pass.kept.me.0) c.in-Some-pass.pass c.next-in-loop-pass.new.self.rest.items split in
    let same : c.pass.inside.seat.table_id ≡ c.loop-pass.kept.table_id = ap (λ (v : PassValue). v.board.table) c.pass.view_is ∙ ap (λ (b : BoardValue). b.table) board ∙ ap (λ (b : BoardValue). b.table) (sym c.self.view_is) ∙ sym c.loop-pass.invariant.seat in
    record {
      seat = h.0 ∙ c.loop-pass.invariant.seat;
      no_slot = ap (λ (m : Me (Unit {0}) (List Hand)). m.1) h.2 ∙ c.loop-pass.invariant.no_slot;
      left =
          (λ i. map (pass_of (h.0 i)) (ap (λ (m : Me (Unit {0}) (List Hand)). m.0) h.2 i) ++ c.next-in-loop-pass.new.self.rest.items)
          ∙ joined (pass_of c.loop-pass.kept.table_id) c.loop-pass.kept.me.0 c.pass.inside.seat.me.0 c.in-Some-pass.pass c.next-in-loop-pass.new.self.rest.items
          (ap (λ (m : Me (Unit {0}) (List Hand)). m.0) c.pass.invariant.0)
          (ap (λ (t : TableId). pass_of t (first_hand c.pass.inside.seat.me.0)) (sym same) ∙ c.pass.view_is)
          ∙ ap (λ (xs : List PassValue). map (pass_of c.loop-pass.kept.table_id) c.loop-pass.kept.me.0 ++ xs) (sym c.in-Some-pass.ensures.steps.0) ∙ c.loop-pass.invariant.left;
    }

pub returns-clause-state : goal.returns-clause-state
returns-clause-state c =
    let tid = c.loop-pass.kept.table_id in
    let key = c.self.inside.table.shared.key in
    let hs : List Hand = c.loop-pass.kept.me.0 in
    let h = c.in-None.ensures.steps in
    let k = c.loop-pass.pass-iterator.rest.ok in
    let none_left : c.loop-pass.pass-iterator.rest.items ≡ [] = nothing c.loop-pass.pass-iterator.rest.items (sym k.0 ∙ h.0) in
    let all : map (pass_of tid) hs ≡ c.args.passes.items = sym (append-nil (map (pass_of tid) hs)) ∙ ap (λ (xs : List PassValue). map (pass_of tid) hs ++ xs) (sym none_left) ∙ c.loop-pass.invariant.left in
    let long : length hs ≡ key.seats = sym (length-map hs (pass_of tid)) ∙ ap length all ∙ c.requires.all ∙ ap (λ (b : BoardValue). b.seats) (sym c.self.view_is) in
    let closed = closes key tid c.loop-pass.kept.id hs (slots_items c.close_with-closed.result.words) (slots_items c.close_with-closed.result.slots) c.word-word.result long c.close_with-closed.ensures.values.2 c.word-word.ensures in
    let same : record { units = key.units; seats = key.seats; table = tid } ≡ c.args.self = ap (λ (t : TableId). record { units = key.units; seats = key.seats; table = t }) c.loop-pass.invariant.seat ∙ c.self.view_is in
    subst (λ (b : BoardValue). IsClosed b c.args.passes.items c.word-word.result) same (subst (λ (ps : List PassValue). IsClosed (record { units = key.units; seats = key.seats; table = tid }) ps c.word-word.result) all closed)

pub returns-clause-each_once : goal.returns-clause-each_once
returns-clause-each_once c = each_once c.args.self c.args.passes.items c.word-word.result (returns-clause-state c)

pub returns-clause-units : goal.returns-clause-units
returns-clause-units c = units_once c.args.self c.args.passes.items c.word-word.result (returns-clause-state c) (subst (λ (b : BoardValue). 1 ≤ b.seats) c.self.view_is (omega arith)) c.requires.all
