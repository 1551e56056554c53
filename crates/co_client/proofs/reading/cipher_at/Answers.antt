use Rattle.std.proofs.Common.{ℕ, ◌+◌, ◌<◌, ◌≤◌, ◌∙◌, ap, subst, arith, List, [], ◌∷◌, get_or}
use Rattle.co_math.proofs.Degrees.{degree_positive}
use Rattle.co_bfv.specs.Ciphertexts.{Ciphertext}
use Rattle.co_bfv.specs.Totals.{ciphertext_at}
use Rattle.co_wire.specs.Bodies.{SpellsCiphers}
use Rattle.co_wire.proofs.One_value.{one-list}
use Rattle.co_client.proofs.Spelled.{spelled-long, piece-spells}
use Rattle.co_client.proofs.Opened.{room-fits}
use Rattle.co_client.proofs.reading.cipher_at.Goals as goal

pub returns-clause-value : goal.returns-clause-value
returns-clause-value c = λ cs count s.
    let n = c.args.degree in
    let positive : 0 < n = subst (λ (k : ℕ). 0 < k) c.get-n.ensures.value (degree_positive c.get-n.result c.get-n.ensures.valid) in
    let within : c.args.at + 1 ≤ count = room-fits n count (c.args.at + 1) positive (omega (arith, c.requires, spelled-long n count cs c.args.body.now s)) in
    let read = subst (λ (bytes : List ℕ). SpellsCiphers n 1 c.in-Ok.ciphers.items bytes) c.piece_at.ensures c.in-Ok.ensures.spelled in
    let same = one-list n 1 c.in-Ok.ciphers.items (ciphertext_at cs c.args.at ∷ []) _ read (piece-spells n count cs c.args.body.now c.args.at s (omega arith)) in
    c.remove.ensures.value ∙ ap (λ (xs : List Ciphertext). get_or xs 0 c.remove.result) same
