-- What score replies mean, by the formulas alone.
use Rattle.std.proofs.Common.{ℕ, ◌<◌, sym, subst, List, length, get_or}
use Rattle.co_bfv.specs.Ciphertexts.{Ciphertext}
use Rattle.co_bfv.specs.Totals.{no_ciphertext, IsOfDegree}
use Rattle.co_switch.specs.Keys.{Keys}
use Rattle.co_rot.proofs.Rotated.{AreRotationKeys}
use Rattle.co_rot.proofs.Keyed.{rotation_keys_are}
use Rattle.co_matvec.specs.Weights.{WeightMatrix, keyword_blocks}
use Rattle.co_matvec.specs.Replies.{CanScore, AreScoreReplies, AreOnlyScoreReplies, MeanScores, ShowScores}
use Rattle.co_matvec.proofs.Shown.{reply_shows, reply_scores}
use Rattle.co_matvec.proofs.Only.{replies_only}

module _ (w : WeightMatrix) (keys : Keys) (query replies : List Ciphertext) (h : CanScore w keys query) (r : AreScoreReplies w keys query replies) where
  set : AreRotationKeys w.degree (length keys.rotations) keys
  set = subst (λ (n : ℕ). AreRotationKeys n (length keys.rotations) keys) h.keys_of_degree (rotation_keys_are keys h.key_set)

  whole : (b : ℕ) → b < keyword_blocks w → IsOfDegree w.degree (get_or query b no_ciphertext)
  whole b l = let u = subst (λ (x : ℕ). b < x) (sym h.blocks) l in record { cipher = h.ciphers b no_ciphertext u; degree = h.query_degree b no_ciphertext u }

  pub replies_mean : MeanScores w keys query replies
  replies_mean s keywords k i l = reply_shows w keys query i (length keys.rotations) (get_or replies i no_ciphertext) s keywords h.degree set h.blocks whole (r.each i l) k

  pub replies_show : ShowScores w keys query replies
  replies_show s keywords k few small i l = reply_scores w keys query i (length keys.rotations) (get_or replies i no_ciphertext) s keywords h.degree set h.blocks whole (r.each i l) k few small

  pub replies_one : AreOnlyScoreReplies w keys query replies
  replies_one = replies_only w keys query replies h.degree r
