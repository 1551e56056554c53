use Rattle.std.proofs.Common.{◌≡◌, ℕ, ◌∙◌, sym, ap, subst, List, Ok}
use Rattle.co_link.specs.declared.messages.Target.TheVariants.{Public}
use Rattle.co_noise.specs.Shapes.{Numbers}
use Rattle.co_noise.proofs.Room.{test_of-same}
use Rattle.co_wire.specs.Public.{ArePublic, public_of}
use Rattle.co_rounds.specs.Answers.{reply_with}
use Rattle.co_client.specs.Rounds.{Comes}
use Rattle.co_client.proofs.publishing.consult.Goals as goal

pub returns-clause-found : goal.returns-clause-found
returns-clause-found g c =
    let was = g.K.Link.exchanges c.args.link.now in
    let now = g.K.Link.exchanges c.ask.new.link in
    let body = c.in_ok-body.body in
    let s = c.in-Ok.public.0 in
    let terms = c.in-Ok.public.1 in
    let shape : c.in-Ok-test.tested ≡ s = test_of-same s c.in-Ok-test.tested (sym c.test.ensures ∙ c.in-Ok-test.is) in
    record {
      public = record {
        body = body;
        comes = subst (λ (b : List ℕ). Comes was now (record { target = Public; body = b }) (reply_with 200 body)) c.new.ensures c.in_ok-body.ensures.came;
        read = ap public_of (sym c.as_slice-2.ensures) ∙ c.in-Ok.ensures.exact ∙ ap (λ (x : Numbers). Ok (x, terms)) (sym shape);
        good = subst (λ (x : Numbers). ArePublic x terms) (sym shape) c.in-Ok.ensures.found.0;
      };
      passes = c.shape.ensures.passes;
    }
