-- The reply to a query, by the formulas alone.
use Rattle.std.proofs.Common.{ℕ, ◌<◌, refl, sym, ◌∙◌, arith, ℤ, length}
use Rattle.std.proofs.lemmas.List.Elements.{All-get_or}
use Rattle.co_math.specs.Logarithms.{log2_up}
use Rattle.co_noise.specs.Bounds.{retrieve_bound}
use Rattle.co_bfv.specs.Ciphertexts.{Ciphertext}
use Rattle.co_switch.specs.Keys.{Keys, IsKey, no_key}
use Rattle.co_pir.specs.Expansions.{expanded}
use Rattle.co_pir.specs.Tables.{Table, row_bytes}
use Rattle.co_pir.specs.Meanings.{AsksRow, CanRetrieve, MeansBytes, IsExpansion}
use Rattle.co_pir.specs.Replies.{retrieved}
use Rattle.co_math.proofs.Logarithms.{log2_up-is}
use Rattle.co_pir.proofs.Expanding.{length-expanded}
use Rattle.co_pir.proofs.Asked.{CanExpand, expanded_means}
use Rattle.co_pir.proofs.Gathering.{row_means}

module _ (t : Table) (keys : Keys) (query : Ciphertext) (h : CanRetrieve t keys query) where
  expands : CanExpand keys query t.rows
  expands = record {
    whole = h.whole;
    key_set = h.key_set;
    degree = h.keys_of_degree ∙ sym h.query_degree;
    known = λ i l. let u : i < length keys.expansions = omega (arith, h.enough_keys) in All-get_or IsKey keys.expansions i no_key u h.key_set.expansions.each;
    enough = h.enough_keys;
    logarithm = log2_up-is t.rows;
    few = omega (arith, h.table.few, h.query_degree);
  }

  expansion : IsExpansion keys query t.rows (expanded keys query (log2_up t.rows))
  expansion = record {
    items = refl;
    enough = omega (arith, length-expanded keys query (log2_up t.rows), (log2_up-is t.rows).reaches);
    means = expanded_means keys query t.rows expands;
  }

  pub retrieved_means : (s : ℤ → ℤ) (row : ℕ) → AsksRow s keys query t.rows row → MeansBytes t.degree s (retrieved t keys query) (row_bytes t row) (retrieve_bound t.degree t.rows)
  retrieved_means s row asks = row_means keys query t (expanded keys query (log2_up t.rows)) (retrieved t keys query) h.table h.whole h.query_degree expansion refl s row asks
