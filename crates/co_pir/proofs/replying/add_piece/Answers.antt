use Rattle.std.proofs.Common.{ap, ◌∙◌}
use Rattle.co_bfv.specs.Ciphertexts.{ciphertext_sum}
use Rattle.co_pir.specs.Units.{piece_sum, rows_of}
use Rattle.co_pir.proofs.Answering.{none_gathered}
use Rattle.co_pir.proofs.replying.add_piece.Goals as goal

pub add_products-requires-clause-empty : goal.add_products-requires-clause-empty
add_products-requires-clause-empty c cs =
    none_gathered c.args.rows.now cs c.args.chunk c.args.piece c.degree.result c.in_ok-products.products c.degree.ensures.value c.in_ok-products.ensures.none

pub returns-clause-sum : goal.returns-clause-sum
returns-clause-sum c cs v =
    let t = c.args.rows.now in
    c.add_in.ensures.value
    ∙ ap (ciphertext_sum c.args.sum.now) (c.in_ok-found.ensures.value (piece_sum t cs c.args.chunk c.args.piece (rows_of t c.args.piece)) (c.add_products.ensures.sum cs v))
