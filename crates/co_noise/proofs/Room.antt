-- A shape that passes the test leaves room.
use Rattle.std.proofs.Common.{◌≡◌, ◌*◌, Bool, true, false, refl, Ok, Err, Result}
use Rattle.std.specs.Prelude.{nat_le, nat_lt, if◌then◌else◌}
use Rattle.std.proofs.lemmas.Bool.{leb-false, ltb-false}
use Rattle.co_math.specs.Parameters.{q}
use Rattle.co_noise.specs.Shapes.{Numbers}
use Rattle.co_noise.specs.Bounds.{score_bound, retrieve_bound, test_of, HasRoom}
use Rattle.co_noise.specs.declared.testing.TestFault.{TestFault}

-- an answer behind a fault is one where the fault's comparison fails
passed : (b : Bool) (fault : TestFault) (others : Result Numbers TestFault) (s : Numbers) → (if b then Err fault else others) ≡ Ok s → (b ≡ false) × (others ≡ Ok s)
passed true fault others s e = absurd cc
passed false fault others s e = (refl, e)

pub room : (s : Numbers) → test_of s ≡ Ok s → HasRoom s
unfolding test_of
room s e =
    let p1 = passed (nat_lt s.degree s.rows) _ _ s e in
    let p2 = passed (nat_lt s.degree s.bins) _ _ s p1.1 in
    let p3 = passed (nat_le q (2 * score_bound s)) _ _ s p2.1 in
    let p4 = passed (nat_le q (2 * retrieve_bound s.degree s.rows)) _ _ s p3.1 in
    let p5 = passed (nat_le q (2 * retrieve_bound s.degree s.bins)) _ _ s p4.1 in
    record {
      rows = ltb-false s.degree s.rows p1.0;
      bins = ltb-false s.degree s.bins p2.0;
      score_fits = leb-false q (2 * score_bound s) p3.0;
      records_fit = leb-false q (2 * retrieve_bound s.degree s.rows) p4.0;
      bins_fit = leb-false q (2 * retrieve_bound s.degree s.bins) p5.0;
    }

-- the shape that passed is the shape that was tested
same_step : (b : Bool) (fault : TestFault) (others : Result Numbers TestFault) (m : Numbers) → (if b then Err fault else others) ≡ Ok m → others ≡ Ok m
same_step true fault others m e = absurd cc
same_step false fault others m e = e

pub test_of-same : (s m : Numbers) → test_of s ≡ Ok m → m ≡ s
unfolding test_of
test_of-same s m e =
    let e1 = same_step (nat_lt s.degree s.rows) _ _ m e in
    let e2 = same_step (nat_lt s.degree s.bins) _ _ m e1 in
    let e3 = same_step (nat_le q (2 * score_bound s)) _ _ m e2 in
    let e4 = same_step (nat_le q (2 * retrieve_bound s.degree s.rows)) _ _ m e3 in
    let e5 = same_step (nat_le q (2 * retrieve_bound s.degree s.bins)) _ _ m e4 in
    cc
