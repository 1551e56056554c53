use Rattle.std.proofs.Common.{◌≡◌, ◌≢◌, ℕ, inl, ◌∙◌, sym, ap, subst, refl, arith, Bool, false, List, [], length}
use Rattle.std.specs.Prelude.{IsTrue, ◌↔◌}
use Rattle.std.proofs.lemmas.Bool.{true≢false}
use Rattle.std.proofs.lemmas.List.{nil_from_length}
use Rattle.co_link.specs.declared.messages.Target.TheVariants.{Keys as ForKeys}
use Rattle.co_noise.specs.Shapes.{levels}
use Rattle.co_bfv.specs.Draws.{secret_draw}
use Rattle.co_switch.specs.Draws.{key_set_draw}
use Rattle.co_wire.specs.Bodies.{keys_bytes}
use Rattle.co_rounds.specs.Answers.{reply_with}
use Rattle.co_client.specs.Rounds.{Comes, keys_asked, keys_request}
use Rattle.co_client.proofs.starting.start.Goals as goal

not-empty : (b : Bool) (xs : List ℕ) → (IsTrue b ↔ (xs ≡ [])) → b ≡ false → length xs ≢ 0
not-empty b xs said is long = true≢false (sym (said.1 (nil_from_length xs long)) ∙ is)

pub returns-then-not-is_empty-clause-refused : goal.returns-then-not-is_empty-clause-refused
unfolding keys_asked keys_request
returns-then-not-is_empty-clause-refused g c =
    let s = c.args.tested.now in
    let stream = g.R.Rng.stream c.args.rng.now in
    let was = g.K.Link.exchanges c.args.link.now in
    let now = g.K.Link.exchanges c.ask.new.link in
    let reply = c.in_ok-reply.reply in
    let degree : c.of-degree.result ≡ s.degree = grind arith in
    let drawn = secret_draw s.degree stream in
    let secret : c.in-Ok.secret ≡ drawn.0 = c.in-Ok.ensures.value ∙ ap (λ (n : ℕ). (secret_draw n stream).0) degree in
    let rest : g.R.Rng.stream c.sample_secret.new.rng ≡ drawn.1 = c.in-Ok.ensures.rest ∙ ap (λ (n : ℕ). (secret_draw n stream).1) degree in
    let keys : c.in-Ok-make_keys.keys ≡ (keys_asked s stream).0 = c.in-Ok-make_keys.ensures.value ∙ (λ t. (key_set_draw (secret t) (levels s) (rest t)).0) in
    let body : c.in-Ok-write_keys.body ≡ keys_bytes (keys_asked s stream).0 = c.in-Ok-write_keys.ensures ∙ ap keys_bytes keys in
    record {
      target_is = refl;
      body = reply;
      bad = inl (not-empty c.is_empty.result reply c.is_empty.ensures c.if-not-is_empty.true, omega arith);
      comes = subst (λ (b : List ℕ). Comes was now (record { target = ForKeys; body = b }) (reply_with 200 reply)) body c.in_ok-reply.ensures.came;
    }
