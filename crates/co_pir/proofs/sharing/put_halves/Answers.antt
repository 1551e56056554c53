use Rattle.std.proofs.lemmas.Result.{on_ok_weaker}
use Rattle.co_pir.proofs.Taking.{one_step}
use Rattle.co_pir.proofs.sharing.put_halves.Goals as goal

pub returns : goal.returns
returns g c = record {
  even = c.halves.ensures.even;
  odd = c.halves.ensures.odd;
  step = on_ok_weaker c.halves.result (one_step c.args.place.now.steps c.halves.new.steps c.requires.none) c.halves.ensures.step;
}
