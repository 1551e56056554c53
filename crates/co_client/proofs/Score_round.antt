-- The round of scores, from its exchange.
use Rattle.std.proofs.Common.{◌≡◌, ℕ, ◌≤◌, inr, ap, subst, ◌∙◌, arith, ℤ, List, length, Option}
use Rattle.std.proofs.lemmas.List.{length-take}
use Rattle.std.proofs.lemmas.List.FromFn.{length-map-range_with_len}
use Rattle.co_link.specs.declared.messages.Request.{Request}
use Rattle.co_link.specs.declared.messages.Exchange.{Exchange}
use Rattle.co_link.specs.declared.messages.Target.TheVariants.{Score}
use Rattle.co_noise.specs.Shapes.{Numbers, document_blocks}
use Rattle.co_bfv.specs.Ciphertexts.{Ciphertext}
use Rattle.co_text.specs.declared.ranks.Ranked.{Ranked}
use Rattle.co_text.specs.Order.{in_order}
use Rattle.co_text.specs.Ranking.{ranking, hit_cmp, scored}
use Rattle.co_wire.specs.Bodies.{SpellsCiphers}
use Rattle.co_wire.specs.Lengths.{reply_size}
use Rattle.co_rounds.specs.Answers.{reply_with}
use Rattle.co_rounds.specs.Scoring.{score_read, scores_read}
use Rattle.co_client.specs.declared.fault.SearchFault.TheVariants.{OutOfMemory}
use Rattle.co_client.specs.Openings.{AreSpelled}
use Rattle.co_client.specs.Rounds.{Comes, RoundFails, Ranks}
use Rattle.co_client.proofs.Spelled.{spelled-long}

-- want of memory behind the exchange
pub memory-round : (size : ℕ) (was now : Option (List Exchange)) (r : Request) (body : List ℕ) → Comes was now r (reply_with 200 body) → RoundFails size was now r OutOfMemory
memory-round size was now r body c = inr (record { reply = reply_with 200 body; comes = c })

pub spelled-same : (n m count many : ℕ) (xs ys : List ℕ) → n ≡ m → count ≡ many → xs ≡ ys → AreSpelled n count xs → AreSpelled m many ys
spelled-same n m count many xs ys a b e h = subst (λ (zs : List ℕ). AreSpelled m many zs) e (subst (λ (k : ℕ). AreSpelled m k xs) b (subst (λ (k : ℕ). AreSpelled k count xs) a h))

pub ranking-few : (most : ℕ) (scores : List ℕ) → length (ranking most scores) ≤ most
unfolding ranking
ranking-few most scores = omega (arith, length-take most (in_order hit_cmp (scored 0 scores)))

module _ (s : Numbers) (secret : List ℤ) (body : List ℕ) (spelled : AreSpelled s.degree (document_blocks s) body) where
  pub scores-whole : length body ≡ reply_size s Score
  scores-whole = spelled-long s.degree (document_blocks s) spelled.ciphers body spelled.spelled

  module _ (scores : List ℕ) (read : (cs : List Ciphertext) → SpellsCiphers s.degree (document_blocks s) cs body → scores ≡ scores_read s secret cs) where
    pub scores-long : length scores ≡ s.documents
    scores-long = ap length (read spelled.ciphers spelled.spelled) ∙ length-map-range_with_len (score_read s.degree secret spelled.ciphers) 0 s.documents

    pub scores-rank : (was now : Option (List Exchange)) (r : Request) (hits : List Ranked) → Comes was now r (reply_with 200 body) → hits ≡ ranking s.hits scores → Ranks s secret was now r hits
    scores-rank was now r hits c e = record {
      body = body;
      comes = c;
      replies = spelled.ciphers;
      spelled = spelled.spelled;
      are = e ∙ ap (λ (xs : List ℕ). ranking s.hits xs) (read spelled.ciphers spelled.spelled);
    }
