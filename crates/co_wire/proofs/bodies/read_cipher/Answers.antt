-- The first polynomial, and the second behind it.
use Rattle.std.proofs.Common.{◌≡◌, ◌+◌, ◌*◌, ◌++◌, sym, subst, arith}
use Rattle.co_bfv.specs.Ciphertexts.{Ciphertext}
use Rattle.co_wire.specs.Bodies.{polynomial_bytes, cipher_bytes}
use Rattle.co_wire.specs.Parts.{AreInRangeTo, SpellsBetween}
use Rattle.co_wire.proofs.Fronts.{range-at, spells-then, spells-to}
use Rattle.co_wire.proofs.bodies.read_cipher.Goals as goal

pub returns-clause-read : goal.returns-clause-read
returns-clause-read c =
    let n = c.args.degree in
    let from = c.args.from in
    let body = c.args.body.now in
    let middle : from + 2 * n ≡ from + 2 * c.get.result = omega (arith, c.get.ensures.value) in
    let end : from + 2 * c.get.result + 2 * n ≡ from + 4 * n = omega (arith, c.get.ensures.value) in
    let first = polynomial_bytes c.in_ok-c0.c0 in
    let second = polynomial_bytes c.in_ok-c1.c1 in
    let one = spells-to from (from + 2 * n) (from + 2 * c.get.result) first body middle c.in_ok-c0.ensures.read.0 in
    let both = spells-then from (from + 2 * c.get.result) (from + 2 * c.get.result + 2 * n) first second body one c.in_ok-c1.ensures.read.0 in
    subst (λ (x : Ciphertext). SpellsBetween from (from + 4 * n) (cipher_bytes x) body × AreInRangeTo body (from + 4 * n)) (sym c.from_parts-cipher.ensures) (
      spells-to from (from + 2 * c.get.result + 2 * n) (from + 4 * n) (polynomial_bytes c.in_ok-c0.c0 ++ polynomial_bytes c.in_ok-c1.c1) body end both,
      range-at body (from + 2 * c.get.result + 2 * n) (from + 4 * n) end c.in_ok-c1.ensures.read.1,
    )
