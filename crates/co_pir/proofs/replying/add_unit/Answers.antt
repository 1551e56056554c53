-- The chunk of a unit.
use Rattle.std.proofs.Common.{◌<◌, ◌^◌, ◌∙◌, arith, div-le_self}
use Rattle.co_pir.proofs.Answering.{chunk_inside, mod_inside}
use Rattle.co_pir.proofs.replying.add_unit.Goals as goal

pub overflow_cast-chunk : goal.overflow_cast-chunk
overflow_cast-chunk c =
    let small : c.args.unit < 2 ^ 32 = omega (arith, c.requires.unit, c.units-piece.ensures.value, c.units-piece.ensures.few) in
    omega (arith, small, div-le_self c.args.unit c.from-pieces.result)

pub bounds-sums-chunk : goal.bounds-sums-chunk
bounds-sums-chunk c = omega (arith, chunk_inside c.args.rows.now c.args.unit c.from-pieces.result (c.from-pieces.ensures ∙ c.pieces.ensures.value) (omega (arith, c.from-pieces.ensures, c.pieces.ensures.some)) c.requires.unit, c.requires.sums)

pub add_piece-added-requires-clause-chunk : goal.add_piece-added-requires-clause-chunk
add_piece-added-requires-clause-chunk c = chunk_inside c.args.rows.now c.args.unit c.from-pieces.result (c.from-pieces.ensures ∙ c.pieces.ensures.value) (omega (arith, c.from-pieces.ensures, c.pieces.ensures.some)) c.requires.unit

pub add_piece-added-requires-clause-piece : goal.add_piece-added-requires-clause-piece
add_piece-added-requires-clause-piece c = mod_inside c.args.rows.now c.args.unit c.from-pieces.result (c.from-pieces.ensures ∙ c.pieces.ensures.value) (omega (arith, c.from-pieces.ensures, c.pieces.ensures.some))
