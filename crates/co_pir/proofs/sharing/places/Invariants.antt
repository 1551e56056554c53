-- So many empty places.
use Rattle.std.proofs.Common.{◌≡◌, length, All}
use Rattle.co_pir.proofs.sharing.places.Given as goal

abbrev pub invariant-loop-place : goal.invariant-loop-place
invariant-loop-place g l = (length l.places.items ≡ l.place) × All (λ h. h.steps ≡ 0) l.places.items
