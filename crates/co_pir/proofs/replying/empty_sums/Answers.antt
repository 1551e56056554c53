-- One ciphertext of zeros more.
use Rattle.std.proofs.Common.{◌≡◌, ◌+◌, sym, ap, subst, ◌∙◌, length, All}
use Rattle.std.proofs.lemmas.List.{length-append}
use Rattle.std.proofs.lemmas.List.Elements.{All-push}
use Rattle.co_bfv.specs.Ciphertexts.{zero_ciphertext}
use Rattle.co_pir.proofs.replying.empty_sums.Goals as goal

pub loop-chunk-preserved : goal.loop-chunk-preserved
loop-chunk-preserved c =
    let n = c.args.rows.now.degree in
    let before = c.loop-chunk.invariant in (
      ap length c.in_ok-push.ensures.items ∙ length-append c.loop-chunk.sums.items _ ∙ ap (λ k. k + 1) before.0,
      subst (All (λ x. x ≡ zero_ciphertext n)) (sym c.in_ok-push.ensures.items)
          (All-push (λ x. x ≡ zero_ciphertext n) c.loop-chunk.sums.items c.in_ok-zero.field-0 before.1 (c.in_ok-zero.ensures.value ∙ ap zero_ciphertext c.degree.ensures.value)),
    )
