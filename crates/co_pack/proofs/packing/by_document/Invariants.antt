-- What the loop of `by_document` keeps.
use Rattle.std.proofs.Common.{◌≡◌, ◌<◌, ℕ, length, get_or}
use Rattle.co_pack.specs.Packing.{no_place}
use Rattle.co_pack.proofs.packing.by_document.Given as goal

abbrev pub invariant-loop-s : goal.invariant-loop-s
invariant-loop-s l = (length l.places.items ≡ length l.order) × ((s : ℕ) → s < l.s → get_or l.places.items (get_or l.order s 0) no_place ≡ get_or l.placed s no_place)
