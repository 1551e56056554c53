use Rattle.std.proofs.Common.{subst}
use Rattle.co_noise.specs.Bounds.{HasRoom}
use Rattle.co_server.proofs.loaded.Loaded.new.Goals as goal

pub invariant_of-result : goal.invariant_of-result
invariant_of-result c = record {
  library = c.shape.ensures.library;
  tested_is = c.requires;
  room = subst HasRoom c.requires c.shape-2.ensures.room;
  weights_are = c.in_ok-weights.ensures;
  buckets_are = c.in_ok-buckets.ensures;
  bins_are = c.in_ok-bins.ensures;
}
