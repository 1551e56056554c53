-- What a shape's ranges say, by orders.
use Rattle.std.proofs.Common.{◌≡◌, ℕ, ◌+◌, ◌-◌, ◌*◌, ◌%◌, ◌^◌, ◌<◌, ◌≤◌, Bool, true, false, refl, arith}
use Rattle.std.specs.Prelude.{IsTrue, ◌&&◌, nat_le}
use Rattle.std.proofs.lemmas.Bool.{leb-true}
use Rattle.std.proofs.Math.Nat.{mul-le-mul, mul-le-mul_right, pow-le-pow_right}
use Rattle.co_math.specs.Degrees.{is_degree}
pub use Rattle.co_math.proofs.Degrees.{degree_ranges}
use Rattle.co_noise.specs.Shapes.{Numbers, HasRanges, is_within, is_chunk_count, are_in_range}

pub both : (a b : Bool) → IsTrue (a && b) → IsTrue a × IsTrue b
both true b h = (refl, h)
both false b h = absurd cc

below : (a b : ℕ) → IsTrue (nat_le a b) → a ≤ b
below a b h = leb-true a b h

pub within : (low high n : ℕ) → IsTrue (is_within low high n) → (low ≤ n) × (n ≤ high)
within low high n h = let p = both (nat_le low n) (nat_le n high) h in (below low n p.0, below n high p.1)

pub ranges : (s : Numbers) → IsTrue (are_in_range s) → HasRanges s
ranges s h =
    let p7 = both _ (is_chunk_count s.degree s.chunks) h in
    let p6 = both _ (is_within 1 65536 s.bins) p7.0 in
    let p5 = both _ (is_within 1 65536 s.rows) p6.0 in
    let p4 = both _ (is_within 0 4294967295 s.salt) p5.0 in
    let p3 = both _ (is_within 1 64 s.hits) p4.0 in
    let p2 = both _ (is_within 0 131072 s.terms) p3.0 in
    let p1 = both (is_degree s.degree) (is_within 1 65536 s.documents) p2.0 in
    let chunks = both (is_within 1 131072 s.chunks) (nat_le (s.chunks * (2 * s.degree)) 4194304) p7.1 in
    let d = degree_ranges s.degree p1.0 in
    let documents = within 1 65536 s.documents p1.1 in
    let terms = within 0 131072 s.terms p2.1 in
    let hits = within 1 64 s.hits p3.1 in
    let salt = within 0 4294967295 s.salt p4.1 in
    let rows = within 1 65536 s.rows p5.1 in
    let bins = within 1 65536 s.bins p6.1 in
    let range = within 1 131072 s.chunks chunks.0 in
    record {
      degree = d.degree;
      degree_low = d.low;
      degree_high = d.high;
      degree_even = d.even;
      documents_low = documents.0;
      documents_high = documents.1;
      terms_high = terms.1;
      hits_low = hits.0;
      hits_high = hits.1;
      salt_high = omega (arith, salt.1);
      rows_low = rows.0;
      rows_high = rows.1;
      bins_low = bins.0;
      bins_high = bins.1;
      chunks_low = range.0;
      chunks_high = range.1;
      bin_high = below (s.chunks * (2 * s.degree)) 4194304 chunks.1;
    }

-- ---- bounds of noise

pub powers_small : (l : ℕ) → l ≤ 16 → 2 ^ l ≤ 65536
powers_small l le = let two : 0 < 2 = omega arith in pow-le-pow_right {n = 2} two {i = l} {j = 16} le

-- the product of five numbers by their bounds, with a factor 32768
product_bound : (a b d x y e : ℕ) → a ≤ x → b ≤ y → d ≤ e → a * b * 32768 * d ≤ x * y * 32768 * e
product_bound a b d x y e pa pb pd =
    let ab : a * b ≤ x * y = mul-le-mul pa pb in
    let abc : a * b * 32768 ≤ x * y * 32768 = mul-le-mul_right 32768 ab in
    mul-le-mul abc pd

pub score_small : (k h n f l s : ℕ) → k ≤ 16384 → h ≤ 2048 → n ≤ 4096 → f ≡ 1409045 → l ≤ 16 → s < 2 ^ 52 → k * h * n * 32768 * (f + l * s) < 2 ^ 112
score_small k h n f l s pk ph pn pf pl ps =
    let kh : k * h ≤ 16384 * 2048 = mul-le-mul pk ph in
    let se : s ≤ 2 ^ 52 = omega arith in
    let ls : l * s ≤ 16 * 2 ^ 52 = mul-le-mul pl se in
    let d : f + l * s ≤ 2 ^ 57 = omega arith in
    let all = product_bound (k * h) n (f + l * s) (16384 * 2048) 4096 (2 ^ 57) kh pn d in
    omega (arith, all)

pub retrieve_small : (i n f l s : ℕ) → i ≤ 65536 → n ≤ 4096 → f ≡ 1409045 → l ≤ 16 → s < 2 ^ 52
    → i * n * 32768 * ((1 * 2 ^ l) % 2 ^ 128 * f + ((1 * 2 ^ l) % 2 ^ 128 - 1) * s) < 2 ^ 112
retrieve_small i n f l s pi pn pf pl ps =
    let small = powers_small l pl in
    let p : (1 * 2 ^ l) % 2 ^ 128 ≤ 65536 = omega arith in
    let fe : f ≤ 1409045 = omega arith in
    let pf2 : (1 * 2 ^ l) % 2 ^ 128 * f ≤ 65536 * 1409045 = mul-le-mul p fe in
    let p1 : (1 * 2 ^ l) % 2 ^ 128 - 1 ≤ 65535 = omega arith in
    let se : s ≤ 2 ^ 52 = omega arith in
    let ps2 : ((1 * 2 ^ l) % 2 ^ 128 - 1) * s ≤ 65535 * 2 ^ 52 = mul-le-mul p1 se in
    let d : (1 * 2 ^ l) % 2 ^ 128 * f + ((1 * 2 ^ l) % 2 ^ 128 - 1) * s ≤ 2 ^ 68 = omega (arith, pf2, ps2) in
    let all = product_bound i n ((1 * 2 ^ l) % 2 ^ 128 * f + ((1 * 2 ^ l) % 2 ^ 128 - 1) * s) 65536 4096 (2 ^ 68) pi pn d in
    omega (arith, all)
