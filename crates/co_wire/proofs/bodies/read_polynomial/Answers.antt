use Rattle.std.proofs.Common.{◌≡◌, ◌∙◌, ◌+◌, ◌*◌, ◌%◌, ℕ, refl, sym, ap, length, arith}
use Rattle.co_wire.proofs.Filled.{more-put}
use Rattle.co_wire.proofs.Fronts.{range-at}
use Rattle.co_wire.proofs.Spelled.{polynomial-spelled}
use Rattle.co_wire.proofs.bodies.read_polynomial.Goals as goal

pub returns-clause-read : goal.returns-clause-read
returns-clause-read c =
    let i = c.loop-k.invariant in
    let xs = c.from_parts.result in
    let first = c.from_parts.ensures.first_residues in
    let second = c.from_parts.ensures.second_residues in
    let n = c.args.degree in
    let long : length xs ≡ n = sym first.len ∙ i.first_degree in
    let all : c.loop-k.k ≡ n = omega (arith, c.loop-k-test.false, c.loop-k.auto.k-end, c.get-k-end.ensures.value) in (
      polynomial-spelled n c.args.from c.args.body.now xs (λ k. omega (arith, c.type_inv.body k)) c.requires.room long
          (λ k l. sym (first.each k (omega (arith, long))) ∙ i.first_put k (omega (arith, c.loop-k-test.false, c.get-k-end.ensures.value)))
          (λ k l. sym (second.each k (omega (arith, long))) ∙ i.second_put k (omega (arith, c.loop-k-test.false, c.get-k-end.ensures.value))),
      range-at c.args.body.now (c.args.from + 2 * c.loop-k.k) (c.args.from + 2 * n) (ap (λ (k : ℕ). c.args.from + 2 * k) all) i.in_range,
    )

pub read_residue-requires-clause-modulus : goal.read_residue-requires-clause-modulus
read_residue-requires-clause-modulus c = let even : (c.args.from + 2 * c.loop-k.k) % 2 ≡ 0 = omega (arith, c.requires.even) in rw even refl

pub read_residue-requires-in-loop-k-clause-modulus : goal.read_residue-requires-in-loop-k-clause-modulus
read_residue-requires-in-loop-k-clause-modulus c = let odd : (c.args.from + 2 * c.loop-k.k + 1) % 2 ≡ 1 = omega (arith, c.requires.even) in rw odd refl

pub loop-k-preserved : goal.loop-k-preserved
loop-k-preserved c =
    more-put c.args.degree c.args.body.now c.args.from c.loop-k.k c.loop-k.first c.loop-k.second c.set.new.self c.set-in-loop-k.new.self c.in_ok-residue.residue c.in_ok-residue-2.residue
    c.loop-k.invariant (omega (arith, c.loop-k-test.true, c.get-k-end.ensures.value)) c.set.ensures c.set-in-loop-k.ensures
    c.in_ok-residue.ensures.value c.in_ok-residue-2.ensures.value c.in_ok-residue-2.ensures.in_range
