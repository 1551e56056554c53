use Rattle.std.proofs.Common.{ℕ, ◌/◌, ◌%◌, ◌∙◌, sym, ap, subst}
use Rattle.co_ring.specs.Polynomials.{Polynomial, degree_of}
use Rattle.co_spectra.specs.Values.{ArePlainValues}
use Rattle.co_pir.specs.Kept.{IsPayloadOf}
use Rattle.co_pir.specs.Tables.{chunk_bytes, payload_at}
use Rattle.co_pir.proofs.Keeping.{one_payload}
use Rattle.co_pir.proofs.Replied.{length-payload}
use Rattle.co_pir.proofs.table.payload_values.Goals as goal

pub plain_spectrum-requires-clause-degree : goal.plain_spectrum-requires-clause-degree
plain_spectrum-requires-clause-degree c =
    let rows = c.rows-rows.result in
    ap (λ (p : Polynomial). degree_of p) c.in_ok-payload.ensures ∙ length-payload c.args.contents.now.degree (chunk_bytes c.args.contents.now (c.loop-place.place % rows) (c.loop-place.place / rows)) ∙ sym c.requires

pub loop-place-preserved : goal.loop-place-preserved
loop-place-preserved c =
    let t = c.args.contents.now in
    let place = c.loop-place.place in
    let rows = c.rows-rows.result in
    let v = c.in_ok-plain_spectrum.field-0 in
    one_payload t place c.loop-place.values.items c.push.new.self.items v c.loop-place.invariant
    (subst (λ (r : ℕ). IsPayloadOf t (place % r) (place / r) v) c.rows-rows.ensures
    (subst (λ (n : ℕ). ArePlainValues n (payload_at t (place % rows) (place / rows)) v) c.requires
    (subst (λ (p : Polynomial). ArePlainValues c.args.tables.now p.coeffs v) c.in_ok-payload.ensures c.in_ok-plain_spectrum.ensures)))
    c.in_ok-push.ensures.items
