-- So many of the level's ciphertexts are halved, and the rest are in their places.
use Rattle.co_pir.proofs.Taking.{IsTaking}
use Rattle.co_pir.proofs.sharing.double_by.Given as goal

abbrev pub invariant-loop-place : goal.invariant-loop-place
invariant-loop-place g l = IsTaking (λ h. h.pair) (λ h. h.steps) l.exponent l.key l.ciphers l.fn.steps l.place-iterator.rest.items l.evens.items l.odds.items l.steps
