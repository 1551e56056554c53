-- What a request for scores, records or a document asks, and the replies to its queries.
use Rattle.std.specs.Prelude.{◌≡◌, ℕ, List}
use Rattle.co_link.specs.declared.messages.Target.{Target}
use Rattle.co_link.specs.declared.messages.Target.TheVariants.{Public, Keys as ForKeys, Score, Meta, Document}
use Rattle.co_noise.specs.Shapes.{Numbers, keyword_blocks}
use Rattle.co_bucket.specs.Lists.{bucket_count}
use Rattle.co_bfv.specs.Ciphertexts.{Ciphertext}
use Rattle.co_bfv.specs.Totals.{ciphertext_at}
use Rattle.co_switch.specs.Keys.{Keys}
use Rattle.co_library.specs.Libraries.{Parts}
use Rattle.co_matvec.specs.Replies.{AreScoreReplies}
use Rattle.co_pir.specs.Replies.{retrieved}
use Rattle.co_rounds.specs.Serving.{weights_of, gathered, bin_table}

-- how many queries a request has
abbrev pub query_count : Numbers → Target → ℕ
query_count s Public = 0
query_count s ForKeys = 0
query_count s Score = keyword_blocks s
query_count s Meta = bucket_count s.hits
query_count s Document = 1

-- the replies to them
abbrev pub AreReplies : Parts → Keys → Target → List Ciphertext → List Ciphertext → Type 0
AreReplies l keys Public queries replies = ⊥
AreReplies l keys ForKeys queries replies = ⊥
AreReplies l keys Score queries replies = AreScoreReplies (weights_of l) keys queries replies
AreReplies l keys Meta queries replies = replies ≡ gathered l keys queries
AreReplies l keys Document queries replies =
    replies ≡ retrieved (bin_table l) keys (ciphertext_at queries 0)
