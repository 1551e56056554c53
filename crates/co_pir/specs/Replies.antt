-- The reply of a retrieval.
use Rattle.std.specs.Prelude.{ℕ, List, map}
use Rattle.std.specs.List.{range_with_len}
use Rattle.co_bfv.specs.Ciphertexts.{Ciphertext, plain_product}
use Rattle.co_bfv.specs.Totals.{ciphertext_at, ciphertext_total}
use Rattle.co_math.specs.Logarithms.{log2_up}
use Rattle.co_switch.specs.Keys.{Keys}
use Rattle.co_pir.specs.Expansions.{expanded}
use Rattle.co_pir.specs.Tables.{Table, payload_at}

-- for a chunk, the sum over the rows of the expanded ciphertext of the row times the payload
-- polynomial of the row's chunk
unfoldable pub chunk_reply : Table → List Ciphertext → ℕ → Ciphertext
chunk_reply t cs chunk = ciphertext_total t.degree t.rows (λ r. plain_product (ciphertext_at cs r)
    (payload_at t r chunk))

-- one ciphertext for each chunk
unfoldable pub table_reply : Table → List Ciphertext → List Ciphertext
table_reply t cs = map (chunk_reply t cs) (range_with_len 0 t.chunks)

-- the reply to a query: that of its expansion to a ciphertext for each row
abbrev pub retrieved : Table → Keys → Ciphertext → List Ciphertext
retrieved t keys query = table_reply t (expanded keys query (log2_up t.rows))
