use Rattle.std.proofs.Common.{ℕ, ◌≡◌, List, [], ◌++◌, false, map, length, take, drop, All, ap, sym, subst, ◌∙◌, length-append, length-take, length-drop, arith}
use Rattle.std.proofs.lemmas.List.{length-map}
use Rattle.co_board.specs.Passes.{PassValue}
use Rattle.co_board.proofs.Sums.{All-unmapped}
use Rattle.co_board.proofs.Calls.{IsFresh, fresh, length-fresh}
use Rattle.co_crew.specs.declared.crew.Worker.{Worker}
use Rattle.co_board.specs.Once.{sum_below}
use Rattle.co_switch.proofs.Rising.{risen_none}
use Rattle.co_crew.proofs.crew.fan_out.Goals as goal

whole : {X : Type 0} (n : ℕ) (xs ys : List X) → length xs ≡ length ys → n ≡ length ys → length (take n (xs ++ drop (length xs) ys)) ≡ length ys
whole n xs ys same is = omega (arith, length-take n (xs ++ drop (length xs) ys), length-append xs (drop (length xs) ys), length-drop (length xs) ys)

pub run_all-requires-clause-ready : goal.run_all-requires-clause-ready
run_all-requires-clause-ready g c κs within =
    let S : Type 0 = g.row.S.Denot in let L : Type 0 = g.row.L.Denot in
    let own : Worker S L → PassValue = λ (w : Worker S L). w.pass in
    let b = c.in_ok-board.board in
    let made : map own c.in_ok-crew.crew.items ≡ c.in_ok-board.fresh.items = c.in_ok-crew.ensures.passes in
    let all = subst (λ (ps : List PassValue). All (IsFresh b) ps) (sym (made ∙ c.in_ok-board.ensures.2)) (fresh b) in
    let each = All-unmapped (IsFresh b) own c.in_ok-crew.crew.items all in
    subst (λ (ws : List (Worker S L)). All (λ (w : Worker S L). (w.pass.board ≡ b) × (w.pass.drawn ≡ []) × g.W.Work.is_sum c.args.work.now [] w.sum × (w.steps ≡ 0) × (w.done ≡ false)) ws) (sym c.as_mut_slice.ensures.value)
    (λ k d h. let p = each k d h in let w = c.in_ok-crew.ensures.fresh k d h in (p.board_is, p.drawn_is, w.0, w.1, w.2))

pub gather-requires-clause-seats : goal.gather-requires-clause-seats
gather-requires-clause-seats g c κs within =
    let S : Type 0 = g.row.S.Denot in let L : Type 0 = g.row.L.Denot in
    let own : Worker S L → PassValue = λ (w : Worker S L). w.pass in
    let many : length c.in_ok-crew.crew.items ≡ c.in_ok-board.board.seats = sym (length-map c.in_ok-crew.crew.items own) ∙ ap length (c.in_ok-crew.ensures.passes ∙ c.in_ok-board.ensures.2) ∙ length-fresh c.in_ok-board.board in
    let seats = c.in_ok-board.ensures.1 in
    let long : length c.run_all.new.crew ≡ length c.in_ok-crew.crew.items = c.run_all.auto.crew ∙ ap length c.as_mut_slice.ensures.value in
    (omega arith, whole c.in_ok-crew.crew.len c.run_all.new.crew c.in_ok-crew.crew.items long c.in_ok-crew.crew.ok.0 ∙ many)

pub gather-requires-clause-room : goal.gather-requires-clause-room
gather-requires-clause-room g c κs within =
    let many : length c.in_ok-board.fresh.items ≡ c.in_ok-board.board.seats = ap length c.in_ok-board.ensures.2 ∙ length-fresh c.in_ok-board.board in
    let cap = c.in_ok-passes.ensures.capacity in
    let l : c.len.result ≡ c.in_ok-board.fresh.len = c.len.ensures in
    let ok = c.in_ok-board.fresh.ok.0 in
    (c.in_ok-passes.ensures.items, omega arith)

pub returns-in_err-board-clause-rise : goal.returns-in_err-board-clause-rise
returns-in_err-board-clause-rise g c = risen_none c.args.steps.now (sum_below c.args.units (g.W.Work.cost c.args.work.now))

pub returns-in_err-passes-clause-rise : goal.returns-in_err-passes-clause-rise
returns-in_err-passes-clause-rise g c = risen_none c.args.steps.now (sum_below c.args.units (g.W.Work.cost c.args.work.now))

pub returns-in_err-crew-clause-rise : goal.returns-in_err-crew-clause-rise
returns-in_err-crew-clause-rise g c = risen_none c.args.steps.now (sum_below c.args.units (g.W.Work.cost c.args.work.now))

pub returns-in_err-sum-clause-rise : goal.returns-in_err-sum-clause-rise
returns-in_err-sum-clause-rise g c = risen_none c.args.steps.now (sum_below c.args.units (g.W.Work.cost c.args.work.now))

pub run_all-requires-clause-some : goal.run_all-requires-clause-some
run_all-requires-clause-some g c κs within =
    let S : Type 0 = g.row.S.Denot in
    let L : Type 0 = g.row.L.Denot in
    let own : Worker S L → PassValue = λ (w : Worker S L). w.pass in
    let many : length c.in_ok-crew.crew.items ≡ c.in_ok-board.board.seats = sym (length-map c.in_ok-crew.crew.items own) ∙ ap length (c.in_ok-crew.ensures.passes ∙ c.in_ok-board.ensures.2) ∙ length-fresh c.in_ok-board.board in
    let seats = c.in_ok-board.ensures.1 in
    let long : length c.as_mut_slice.result.now ≡ length c.in_ok-crew.crew.items = ap length c.as_mut_slice.ensures.value in
    omega arith
