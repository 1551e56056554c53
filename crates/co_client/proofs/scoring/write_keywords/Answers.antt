use Rattle.std.proofs.Common.{◌≡◌, ℕ, ◌∙◌, sym, ap, arith, length}
use Rattle.co_matvec.specs.Weights.{keyword_slot}
use Rattle.co_client.proofs.scoring.write_keywords.Goals as goal

pub returns-clause-spelled : goal.returns-clause-spelled
returns-clause-spelled c =
    let n = c.args.table.now in
    let s = c.encode.ensures.slots in
    let slots_long : length c.args.slots.now ≡ n = c.requires.slots_degree in
    let long : length c.encode.new.into.coeffs ≡ n = sym s.len ∙ omega (arith, slots_long) in
    record {
      len = long;
      reduced = grind (arith, c.degree.ensures.valid.below);
      each = λ p l. sym (s.each p (omega (arith, long))) ∙ c.fill_slots.ensures.slots p (omega (arith, slots_long)) ∙ ap (λ (k : ℕ). keyword_slot k c.args.keywords.now c.args.block p) slots_long;
    }
