-- Polynomials of small integers, by their residues.
use Rattle.std.proofs.Common.{◌≡◌, ℕ, suc, ◌-◌, ◌<◌, sym, ap, subst, ◌∙◌, arith, ℤ, pos, negsuc, true, false, List, length, map, w8}
use Rattle.std.proofs.lemmas.Bool.{leb-false}
use Rattle.std.proofs.lemmas.List.{get_or-map, length-map}
use lib.IntN.{nat_abs}
use lib.Signed.{le_z}
use mir.Val.{SFits}
use Rattle.co_math.specs.Residues.{residue}
use Rattle.co_math.specs.Coefficients.{AreResidues, residues_of, signed_coefficients}
use Rattle.co_math.proofs.Residues.{residue_small}
use Rattle.co_math.proofs.Reduced.{opposite_some}
use Rattle.co_math.specs.Parameters.{q, first_modulus, second_modulus}
use Rattle.co_rns.specs.Residue_pairs.{AreResiduesOf}
use Rattle.co_rns.specs.Pairs.{IsWhole}
use Rattle.co_rns.proofs.Composing.{all_composed_are}
use Rattle.co_rns.proofs.Wholes.{split_back}
use Rattle.co_math.proofs.Residue_lists.{residues_of-is, signed-low}

pub small_kept : (m : ℕ) (v : ℤ) → 128 < m → SFits w8 v → le_z (pos 0) v ≡ true → nat_abs v ≡ residue m v
small_kept m (pos a) l f e = sym (residue_small m a (omega (arith, f.sfits)))
small_kept m (negsuc a) l f e = cc

pub small_under : (m : ℕ) (v : ℤ) → 128 < m → SFits w8 v → le_z (pos 0) v ≡ false → m - nat_abs v ≡ residue m v
small_under m (pos a) l f e = absurd (omega (arith, leb-false 0 a e))
small_under m (negsuc a) l f e = opposite_some m (suc a) (omega (arith, f.sfits)) (omega arith)

pub signed_residues : (m n : ℕ) (xs : List ℤ) → length xs ≡ n → AreResidues m n (signed_coefficients xs) (map (residue m) xs)
signed_residues m n xs l = record {
  len = length-map xs (residue m) ∙ l;
  each = λ k u. get_or-map (residue m) xs k (pos 0) 0 (omega (arith, l)) ∙ ap (residue m) (sym (signed-low xs k (omega (arith, l))));
}

-- a polynomial modulo q whose residues are those of f
pub whole_residues : (n : ℕ) (f : ℤ → ℤ) (v xs ys : List ℕ) → IsWhole v → AreResiduesOf first_modulus v xs → AreResiduesOf second_modulus v ys
    → AreResidues first_modulus n f xs → AreResidues second_modulus n f ys → v ≡ residues_of q n f
whole_residues n f v xs ys w x y r s = residues_of-is q n f v (subst (AreResidues q n f) (split_back v xs ys w.below x y) (all_composed_are n f xs ys r s))
