use Rattle.std.proofs.Common.{◌∙◌, ap, arith}
use Rattle.co_link.specs.Taken.{behind}
use Rattle.co_link.proofs.Buffers.{taken_more}
use Rattle.co_link.proofs.taking.fill.Goals as goal

pub filling-preserved : goal.filling-preserved
filling-preserved g c =
    let took = c.in-Ok-take_behind.ensures.taken in
    let was = g.S.Source.left c.filling.source in
    let now = g.S.Source.left c.take_behind.new.source in
    let n = c.filling.filled in
    record {
      filled = omega (arith, took.within);
      most = omega (arith, c.in-Ok.ensures.most);
      moved =
          taken_more c.make_room.new.buffer.items c.take_behind.new.buffer.items n c.in-Ok-take_behind.count was now c.take_behind.ensures.below took
          ∙ ap (λ front. behind front was) c.make_room.ensures.below
          ∙ c.filling.invariant.moved;
      same = c.in-Ok-take_behind.ensures.cause.same ∙ c.filling.invariant.same;
      beside = c.take_behind.ensures.beside ∙ c.filling.invariant.beside;
    }
