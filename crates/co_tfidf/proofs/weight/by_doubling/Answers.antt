use Rattle.std.proofs.Common.{◌≡◌, ◌≤◌, ◌*◌, ◌^◌, ℕ, refl, sym, ap, ◌∙◌, arith}
use Rattle.std.proofs.Math.Nat.{pow-le-pow_left, one-le-pow, pow-suc, pow-zero}
use Rattle.std.proofs.lemmas.Nat.{pow-add}
use Rattle.co_tfidf.proofs.weight.by_doubling.Goals as goal

square : (n : ℕ) → n ^ 2 ≡ n * n
square n = pow-suc n 1 ∙ ap (λ x. x * n) (pow-suc n 0 ∙ ap (λ x. x * n) (pow-zero n) ∙ omega arith)

fourth : (n : ℕ) → n * n * (n * n) ≡ n ^ 4
fourth n = sym (pow-add n 2 2 ∙ rw square refl)

pub loop-bits-init : goal.loop-bits-init
loop-bits-init c =
    let d = c.args.documents in
    let f = c.args.df in
    let within : f ^ 4 ≤ d ^ 4 = pow-le-pow_left c.requires.within 4 in
    let many : d ^ 4 ≤ 65536 ^ 4 = pow-le-pow_left c.requires.many 4 in
    rw (c.from.ensures, c.from-2.ensures, c.from-3.ensures, c.from-4.ensures, fourth d, fourth f) (omega arith, within, refl, many)

pub returns-clause-greatest : goal.returns-clause-greatest
returns-clause-greatest c =
    let one : 1 ≤ c.args.df ^ 4 = one-le-pow 4 c.args.df c.requires.some in
    omega (arith, c.loop-bits.invariant)
