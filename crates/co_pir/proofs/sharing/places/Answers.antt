use Rattle.std.proofs.Common.{◌≡◌, ◌+◌, sym, ap, subst, ◌∙◌, length, length-append, All}
use Rattle.std.proofs.lemmas.List.Elements.{All-push}
use Rattle.co_pir.proofs.sharing.places.Goals as goal

pub loop-place-preserved : goal.loop-place-preserved
loop-place-preserved g c =
    let before = c.loop-place.invariant in (
      ap length c.in_ok-push.ensures.items ∙ length-append c.loop-place.places.items _ ∙ ap (λ k. k + 1) before.0,
      subst (All (λ h. h.steps ≡ 0)) (sym c.in_ok-push.ensures.items) (All-push (λ h. h.steps ≡ 0) c.loop-place.places.items _ before.1 c.part.ensures),
    )
