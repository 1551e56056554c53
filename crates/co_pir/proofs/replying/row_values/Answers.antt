use Rattle.std.proofs.Common.{ℕ, ◌<◌, subst, arith, length}
use Rattle.std.proofs.lemmas.List.{get_or_read}
use Rattle.co_bfv.specs.Ciphertexts.{Ciphertext}
use Rattle.co_bfv.specs.Totals.{no_ciphertext}
use Rattle.co_spectra.specs.Values.{AreCipherValues}
use Rattle.co_pir.proofs.Keeping.{one_row}
use Rattle.co_pir.proofs.replying.row_values.Goals as goal

pub loop-row-preserved : goal.loop-row-preserved
loop-row-preserved c =
    let n = c.args.rows.now.degree in
    let v = c.in_ok-new.field-0 in
    let row = c.loop-row.row in
    let inside : row < length c.args.ciphers.items = omega (arith, c.requires.enough, c.rows-row-end.ensures, c.loop-row-test.true) in
    one_row n row c.args.ciphers.items c.loop-row.values.items c.push.new.self.items v c.loop-row.invariant
    (subst (λ (x : Ciphertext). AreCipherValues n x v) (get_or_read c.args.ciphers.items row c.index-cipher.result.now inside c.index-cipher.ensures no_ciphertext)
    (subst (λ (k : ℕ). AreCipherValues k c.index-cipher.result.now v) c.tables.ensures c.in_ok-new.ensures))
    c.in_ok-push.ensures.items
