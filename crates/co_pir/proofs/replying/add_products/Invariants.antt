-- The sum of the first j rows of the piece, by its values.
use Rattle.std.proofs.Common.{◌≡◌, ◌*◌, List}
use Rattle.co_bfv.specs.Ciphertexts.{Ciphertext}
use Rattle.co_spectra.specs.Sums.{IsCipherSumOf}
use Rattle.co_pir.specs.Kept.{AreRowValues}
use Rattle.co_pir.specs.Units.{piece_sum}
use Rattle.co_pir.proofs.replying.add_products.Given as goal

abbrev pub invariant-loop-turn : goal.invariant-loop-turn
invariant-loop-turn l = record {
  degree : l.products.degree ≡ l.rows.degree;
  counted : l.products.c0.count ≡ 3 * l.turn;
  sum : (cs : List Ciphertext) → AreRowValues l.rows.degree l.rows.rows cs l.values → IsCipherSumOf (piece_sum l.rows cs l.chunk l.piece (3 * l.turn)) l.products;
}

abbrev pub invariant-loop-j : goal.invariant-loop-j
invariant-loop-j l = record {
  degree : l.products.degree ≡ l.rows.degree;
  counted : l.products.c0.count ≡ l.j;
  sum : (cs : List Ciphertext) → AreRowValues l.rows.degree l.rows.rows cs l.values → IsCipherSumOf (piece_sum l.rows cs l.chunk l.piece l.j) l.products;
}
