-- One row of the piece after another.
use Rattle.std.proofs.Common.{◌≡◌, ℕ, ◌+◌, ◌-◌, ◌*◌, ◌/◌, ◌<◌, min, refl, ap, subst, sym, ◌∙◌, arith}
use Rattle.co_bfv.specs.Totals.{ciphertext_at}
use Rattle.co_math.proofs.Degrees.{degree_most}
use Rattle.co_spectra.specs.Sums.{IsCipherSumOf}
use Rattle.co_spectra.specs.Values.{CipherValues, AreCipherValues, ArePlainValues}
use Rattle.co_pir.specs.Tables.{payload_at}
use Rattle.co_pir.specs.Units.{piece_sum, rows_of}
use Rattle.co_pir.proofs.Answering.{piece_inside, row_inside, one_gathered, three_gathered}
use Rattle.co_pir.proofs.replying.add_products.Goals as goal

pub overflow_mul-first : goal.overflow_mul-first
overflow_mul-first c = let h = piece_inside c.args.rows.now.rows c.args.piece c.requires.piece in let few = c.degree.ensures.table.few in omega (arith, h, few, degree_most c.args.rows.now.degree c.degree.ensures.table.degree)

pub loop-turn-init : goal.loop-turn-init
loop-turn-init c = record { degree = c.requires.degree; counted = c.requires.none; sum = λ cs v. c.requires.empty cs }

pub loop-turn-preserved : goal.loop-turn-preserved
loop-turn-preserved c =
    let t = c.args.rows.now in
    let i = c.loop-turn.invariant in
    let at = 3 * c.loop-turn.turn in
    let row = c.args.piece * 64 + at in
    let size = c.min-count.ensures ∙ ap (λ k. min 64 (k - c.args.piece * 64)) c.rows.ensures in
    let inside : (k : ℕ) → at + k < c.min-count.result → row + k < t.rows = λ k l. omega (arith, row_inside t.rows c.args.piece c.min-count.result (at + k) c.requires.piece size l) in
    let up : at + 3 ≡ 3 * (c.loop-turn.turn + 1) = omega arith in
    record {
      degree = c.add_three.ensures.degree ∙ i.degree;
      counted = c.add_three.ensures.count ∙ ap (λ k. k + 3) i.counted ∙ up;
      sum = λ cs v. subst (λ (k : ℕ). IsCipherSumOf (piece_sum t cs c.args.chunk c.args.piece k) c.add_three.new.self) up
          (three_gathered t cs c.args.chunk c.args.piece at row c.add_three.new.self refl
          (c.add_three.ensures.products (piece_sum t cs c.args.chunk c.args.piece at) (ciphertext_at cs row) (ciphertext_at cs (row + 1)) (ciphertext_at cs (row + 2))
          (payload_at t row c.args.chunk) (payload_at t (row + 1) c.args.chunk) (payload_at t (row + 2) c.args.chunk) (i.sum cs v)
          (subst (λ (k : ℕ). AreCipherValues k (ciphertext_at cs (row)) c.index-values-row.result) (sym i.degree)
          (subst (λ (x : CipherValues). AreCipherValues t.degree (ciphertext_at cs (row)) x) (sym c.index-values-row.is) (v.each (row) c.index-values-row.result (omega (arith, inside 0 (omega (arith, c.loop-turn-test.true)))))))
          (subst (λ (k : ℕ). ArePlainValues k (payload_at t (row) c.args.chunk) c.payload.result.now) (sym i.degree) c.payload.ensures)
          (subst (λ (k : ℕ). AreCipherValues k (ciphertext_at cs (row + 1)) c.index-values-row-in-loop-turn.result) (sym i.degree)
          (subst (λ (x : CipherValues). AreCipherValues t.degree (ciphertext_at cs (row + 1)) x) (sym c.index-values-row-in-loop-turn.is) (v.each (row + 1) c.index-values-row-in-loop-turn.result (inside 1 (omega (arith, c.loop-turn-test.true))))))
          (subst (λ (k : ℕ). ArePlainValues k (payload_at t (row + 1) c.args.chunk) c.payload-in-loop-turn.result.now) (sym i.degree) c.payload-in-loop-turn.ensures)
          (subst (λ (k : ℕ). AreCipherValues k (ciphertext_at cs (row + 2)) c.index-values-row-in-loop-turn-2.result) (sym i.degree)
          (subst (λ (x : CipherValues). AreCipherValues t.degree (ciphertext_at cs (row + 2)) x) (sym c.index-values-row-in-loop-turn-2.is) (v.each (row + 2) c.index-values-row-in-loop-turn-2.result (inside 2 (omega (arith, c.loop-turn-test.true))))))
          (subst (λ (k : ℕ). ArePlainValues k (payload_at t (row + 2) c.args.chunk) c.payload-in-loop-turn-2.result.now) (sym i.degree) c.payload-in-loop-turn-2.ensures)));
    }

pub loop-j-init : goal.loop-j-init
loop-j-init c =
    let i = c.loop-turn.invariant in
    let done : 3 * c.loop-turn.turn ≡ c.min-count.result / 3 * 3 = omega arith in
    record {
      degree = i.degree;
      counted = i.counted ∙ done;
      sum = λ cs v. subst (λ (k : ℕ). IsCipherSumOf (piece_sum c.args.rows.now cs c.args.chunk c.args.piece k) c.loop-turn.products) done (i.sum cs v);
    }

pub loop-j-preserved : goal.loop-j-preserved
loop-j-preserved c =
    let t = c.args.rows.now in
    let i = c.loop-j.invariant in
    let j = c.loop-j.j in
    let row = c.args.piece * 64 + j in
    let n = c.loop-j.products.degree in
    let inside = row_inside t.rows c.args.piece c.min-count.result j c.requires.piece (c.min-count.ensures ∙ ap (λ k. min 64 (k - c.args.piece * 64)) c.rows.ensures) c.loop-j-test.true in
    record {
      degree = c.add_product.ensures.degree ∙ i.degree;
      counted = c.add_product.ensures.count ∙ ap (λ k. k + 1) i.counted;
      sum = λ cs v. one_gathered t cs c.args.chunk c.args.piece j c.add_product.new.self
          (c.add_product.ensures.product (piece_sum t cs c.args.chunk c.args.piece j) (ciphertext_at cs row) (payload_at t row c.args.chunk) (i.sum cs v)
          (subst (λ (k : ℕ). AreCipherValues k (ciphertext_at cs row) c.index-values-row-in-loop-j.result) (sym i.degree)
          (subst (λ (x : CipherValues). AreCipherValues t.degree (ciphertext_at cs row) x) (sym c.index-values-row-in-loop-j.is) (v.each row c.index-values-row-in-loop-j.result inside)))
          (subst (λ (k : ℕ). ArePlainValues k (payload_at t row c.args.chunk) c.payload-in-loop-j.result.now) (sym i.degree) c.payload-in-loop-j.ensures));
    }

pub returns-clause-sum : goal.returns-clause-sum
returns-clause-sum c cs v =
    let t = c.args.rows.now in
    let all : c.loop-j.j ≡ c.min-count.result = omega arith in
    let count : c.loop-j.j ≡ rows_of t c.args.piece = all ∙ c.min-count.ensures ∙ ap (λ k. min 64 (k - c.args.piece * 64)) c.rows.ensures in
    subst (λ (k : ℕ). IsCipherSumOf (piece_sum t cs c.args.chunk c.args.piece k) c.loop-j.products) count (c.loop-j.invariant.sum cs v)
