-- Places of a packing lie apart in the bytes of all bins.
use Rattle.std.proofs.Common.{ℕ, ◌+◌, ◌*◌, ◌≤◌, ◌<◌, List, ap, inl, inr, arith}
use Rattle.std.proofs.lemmas.Bool.{cases_order}
use Rattle.std.proofs.Math.Nat.{mul-le-mul_right}
use Rattle.co_pack.specs.declared.packing.Place.{Place}
use Rattle.co_pack.specs.Packing.{place_at, IsPacked}
use Rattle.co_pack.proofs.Inside.{inside_bin, one_bin}
use Rattle.co_library.specs.Publishing.{start_of}
use Rattle.co_library.specs.Packings.{AreApart}

-- a place in a lower bin ends before one in a higher bin begins
lower : (size : ℕ) (p q : Place) → p.offset + p.length ≤ size → p.bin < q.bin → start_of size p + p.length ≤ start_of size q
lower size p q fits below =
    let above : p.bin + 1 ≤ q.bin = omega arith in
    let up : (p.bin + 1) * size ≤ q.bin * size = mul-le-mul_right size above in
    omega arith

pub places_apart : (lengths : List ℕ) (size : ℕ) (places : List Place) (bins : ℕ) → IsPacked lengths size places bins → AreApart size bins lengths places
places_apart lengths size places bins packed = record {
  many = packed.many;
  long = packed.lengths_are;
  within = λ i below.
      let in_bins : (place_at places i).bin + 1 ≤ bins = omega (arith, packed.count.within i (omega (arith, packed.many))) in
      let up : ((place_at places i).bin + 1) * size ≤ bins * size = mul-le-mul_right size in_bins in
      omega (arith, inside_bin lengths size places bins packed i below);
  apart = λ i j in_i in_j differ.
      elim (cases_order (place_at places i).bin (place_at places j).bin) [
        | inl same ↦ elim (one_bin lengths size places bins packed i j in_i in_j differ same) [ inl h ↦ inl (omega (arith, ap (λ (b : ℕ). b * size) same)) | inr h ↦ inr (omega (arith, ap (λ (b : ℕ). b * size) same)) ]
        | inr (inl below) ↦ inl (lower size (place_at places i) (place_at places j) (inside_bin lengths size places bins packed i in_i) below)
        | inr (inr above) ↦ inr (lower size (place_at places j) (place_at places i) (inside_bin lengths size places bins packed j in_j) above)
      ];
}
