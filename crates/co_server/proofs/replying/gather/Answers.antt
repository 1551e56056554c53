use Rattle.std.proofs.Common.{◌≡◌, ◌<◌, [], ◌∙◌, ap, ℕ, arith, length}
use Rattle.std.specs.List.{flat_map, range_with_len}
use Rattle.std.proofs.lemmas.List.{get_or_default}
use Rattle.co_bfv.specs.Ciphertexts.{Ciphertext}
use Rattle.co_bfv.specs.Totals.{ciphertext_at}
use Rattle.co_pir.specs.Replies.{retrieved}
use Rattle.co_rounds.specs.Serving.{bucket_table, gathered}
use Rattle.co_server.proofs.Levels.{flat-more}
use Rattle.co_server.proofs.replying.gather.Goals as goal

pub returns : goal.returns
unfolding gathered
returns g c =
    let end : c.loop-b.b ≡ length c.args.queries.now = omega arith in
    c.loop-b.invariant ∙ ap (λ (n : ℕ). flat_map (λ b. retrieved (bucket_table c.args.loaded.now b) c.args.keys.now (ciphertext_at c.args.queries.now b)) (range_with_len 0 n)) (end ∙ c.requires.queries.count_is)

pub loop-b-preserved : goal.loop-b-preserved
loop-b-preserved g c =
    let low : c.loop-b.b < length c.args.queries.now = omega (arith, c.loop-b-test.true) in
    flat-more (λ b. retrieved (bucket_table c.args.loaded.now b) c.args.keys.now (ciphertext_at c.args.queries.now b)) c.loop-b.b c.loop-b.replies.items c.append.new.self.items c.in_ok-more.more.items c.loop-b.invariant c.in_ok-append.ensures.items (c.in_ok-more.ensures ∙ ap (λ (q : Ciphertext). retrieved (bucket_table c.args.loaded.now c.loop-b.b) c.args.keys.now q)
    (c.index-queries-b.is ∙ get_or_default c.args.queries.now c.loop-b.b c.index-queries-b.result (record { c0 = []; c1 = [] }) low))
