-- How long published bytes are at most.
use Rattle.std.proofs.Common.{◌≡◌, ℕ, ◌*◌, ◌≤◌, List, [], ◌∷◌, length, length-append, Option, Some, None, refl, ap, arith}
use Rattle.std.specs.Prelude.{nat_le}
use Rattle.std.specs.List.{flat_map}
use Rattle.std.proofs.lemmas.Bool.{leb-true}
use Rattle.std.proofs.lemmas.List.Concat.{flat_map-cons}
use Rattle.co_noise.specs.Shapes.{Numbers}
use Rattle.co_noise.proofs.Ranges.{ranges}
use Rattle.co_wire.specs.Reading.{IsChain}
use Rattle.co_wire.specs.Public.{IsTerm, ArePublic, shape_bytes, term_bytes, fields_bytes, public_word, public_bytes}
use Rattle.co_wire.proofs.Ranges.{both}

terms_few : (before : Option (List ℕ)) (ts : List (List ℕ)) → IsChain IsTerm before ts → length (flat_map term_bytes ts) ≤ length ts * 65
terms_few before [] each = omega arith
terms_few before (t ∷ ts) each =
    let high = leb-true (length t) 64 (both (nat_le 1 (length t)) (nat_le (length t) 64) each.0.size).1 in
    omega (arith, high, ap length (flat_map-cons term_bytes t ts), length-append (term_bytes t) (flat_map term_bytes ts), terms_few (Some t) ts each.1)

pub fields_few : (s : Numbers) (ts : List (List ℕ)) → ArePublic s ts → length (fields_bytes s ts) ≤ 8519712
fields_few s ts h =
    let shape : length (shape_bytes s) ≡ 32 = refl in
    let terms = terms_few None ts h.each in
    let most = (ranges s h.good.ranges).terms_high in
    omega (arith, shape, terms, most, h.count, length-append (shape_bytes s) (flat_map term_bytes ts))

pub public_few : (s : Numbers) (ts : List (List ℕ)) → ArePublic s ts → length (public_bytes s ts) ≤ 8519720
public_few s ts h = let word : length public_word ≡ 8 = refl in omega (arith, word, fields_few s ts h, length-append public_word (fields_bytes s ts))
