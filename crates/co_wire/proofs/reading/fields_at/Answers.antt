use Rattle.std.proofs.Common.{ℕ, List, Ok, drop, sym, ap, ◌∙◌, arith}
use Rattle.co_noise.specs.Shapes.{Numbers}
use Rattle.co_wire.specs.Reading.{Left, left}
use Rattle.co_wire.specs.Public.{ArePublic, fields, fields_bytes}
use Rattle.co_wire.proofs.Formats.{stands_at}
use Rattle.co_wire.proofs.Public_format.{fields_format}
use Rattle.co_wire.proofs.reading.fields_at.Goals as goal

pub returns : goal.returns
returns c =
    let found = c.in_ok-shape.ensures in
    let place = stands_at fields (λ (p : Numbers × List (List ℕ)). fields_bytes p.0 p.1) (λ p. ArePublic p.0 p.1) fields_format c.args.bytes.now c.args.at (c.in_ok-shape.shape, c.in_ok-shape.terms) c.read_fields.new.cursor
    (λ i. omega (arith, c.type_inv.bytes i)) c.requires (ap fields (sym c.new-cursor.ensures) ∙ found) in
    let end = c.place.ensures in
    (ap fields (sym c.new-cursor.ensures) ∙ found ∙ ap (λ (s : Left). Ok ((c.in_ok-shape.shape, c.in_ok-shape.terms), s)) (place.0 ∙ ap (λ (n : ℕ). left n (drop n c.args.bytes.now)) (sym end)), omega (arith, place.1))
