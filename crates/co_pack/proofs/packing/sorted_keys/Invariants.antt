-- What the loop of `sorted_keys` keeps.
use Rattle.std.proofs.Common.{◌≡◌, map}
use Rattle.std.specs.List.{range_with_len}
use Rattle.co_pack.proofs.Keys.{key_of}
use Rattle.co_pack.proofs.packing.sorted_keys.Given as goal

abbrev pub invariant-loop-document : goal.invariant-loop-document
invariant-loop-document l = l.keys.items ≡ map (key_of l.lengths) (range_with_len 0 l.document)
