-- Sums of ciphertexts over units.
use Rattle.std.proofs.Common.{◌≡◌, ℕ, ◌+◌, ◌*◌, ◌/◌, ◌%◌, ◌<◌, refl, sym, ◌∙◌, ⊎_elim, arith, ℤ, ◌+ℤ◌, List, [], ◌∷◌, ◌++◌}
use Rattle.std.proofs.lemmas.Bool.{cases_lt}
use Rattle.std.proofs.Math.Nat.{mul-le-mul_right, div-add-mod, mod-lt}
use Rattle.co_math.specs.Parameters.{q}
use Rattle.co_math.specs.Polynomials.{plus}
use Rattle.co_math.specs.Coefficients.{coefficients, residues_of}
use Rattle.co_math.proofs.Residues.{cong-add}
use Rattle.co_bfv.specs.Ciphertexts.{Ciphertext, ciphertext_sum, zero_ciphertext}
use Rattle.co_bfv.specs.Totals.{ciphertext_total}
use Rattle.co_math.proofs.Residue_lists.{length-residues_of}
use Rattle.co_bfv.proofs.Totals.{residues_same, residues_agree_low, part-suc, sum-parts, total_of_totals}
use Rattle.co_crew.specs.Crew.{IsEach}
use Rattle.co_crew.specs.Sums.{total_over, units_total}
use Rattle.co_crew.proofs.Orders.{total_over-append, total_over-snoc, each-total_over, total-subtrees}

pub units-none : (n : ℕ) (f : ℕ → Ciphertext) → units_total n f [] ≡ zero_ciphertext n
unfolding units_total zero_ciphertext
units-none n f = refl

-- one unit more
pub units-snoc : (n : ℕ) (f : ℕ → Ciphertext) (us : List ℕ) (u : ℕ) → ciphertext_sum (units_total n f us) (f u) ≡ units_total n f (us ++ u ∷ [])
unfolding units_total
units-snoc n f us u =
    sum-parts n (units_total n f us) (f u) (length-residues_of q n (λ x. total_over (λ v. coefficients (f v).c0 x) us))
    ∙ (λ t. record {
      c0 = part-suc n (λ x. total_over (λ v. coefficients (f v).c0 x) us) (coefficients (f u).c0) t;
      c1 = part-suc n (λ x. total_over (λ v. coefficients (f v).c1 x) us) (coefficients (f u).c1) t;
    })
    ∙ (λ t. record {
      c0 = residues_of q n (λ x. sym (total_over-snoc (λ v. coefficients (f v).c0 x) us u) t);
      c1 = residues_of q n (λ x. sym (total_over-snoc (λ v. coefficients (f v).c1 x) us u) t);
    })

part-append : (n : ℕ) (f : ℤ → ℕ → ℤ) (us vs : List ℕ)
    → residues_of q n (plus (coefficients (residues_of q n (λ x. total_over (f x) us))) (coefficients (residues_of q n (λ x. total_over (f x) vs)))) ≡ residues_of q n (λ x. total_over (f x) (us ++ vs))
unfolding plus
part-append n f us vs =
    residues_same n (plus (coefficients (residues_of q n (λ x. total_over (f x) us))) (coefficients (residues_of q n (λ x. total_over (f x) vs)))) (λ x. total_over (f x) us +ℤ total_over (f x) vs)
    (λ k l. cong-add q (residues_agree_low n (λ x. total_over (f x) us) k l) (residues_agree_low n (λ x. total_over (f x) vs) k l))
    ∙ (λ t. residues_of q n (λ x. sym (total_over-append (f x) us vs) t))

-- the units of two workers
pub units-append : (n : ℕ) (f : ℕ → Ciphertext) (us vs : List ℕ) → ciphertext_sum (units_total n f us) (units_total n f vs) ≡ units_total n f (us ++ vs)
unfolding units_total
units-append n f us vs =
    sum-parts n (units_total n f us) (units_total n f vs) (length-residues_of q n (λ x. total_over (λ v. coefficients (f v).c0 x) us))
    ∙ (λ t. record {
      c0 = part-append n (λ x u. coefficients (f u).c0 x) us vs t;
      c1 = part-append n (λ x u. coefficients (f u).c1 x) us vs t;
    })

-- each unit once, in any order
pub units-each : (n : ℕ) (f : ℕ → Ciphertext) (units : ℕ) (us : List ℕ) → IsEach units us → units_total n f us ≡ ciphertext_total n units f
unfolding units_total ciphertext_total
units-each n f units us each t = record {
  c0 = residues_of q n (λ x. each-total_over (λ u. coefficients (f u).c0 x) units us each t);
  c1 = residues_of q n (λ x. each-total_over (λ u. coefficients (f u).c1 x) units us each t);
}

-- the units of all rows are the rows
pub units-rows : (n K U Z : ℕ) (g : ℕ → ℕ → Ciphertext)
    → ciphertext_total n (K * U) (λ unit. ciphertext_total n Z (λ j. g (unit / U) (unit % U * Z + j))) ≡ ciphertext_total n K (λ k. ciphertext_total n (U * Z) (g k))
units-rows n K U Z g =
    total_of_totals n (K * U) (λ unit. Z) (λ unit j. g (unit / U) (unit % U * Z + j))
    ∙ (λ t. record {
      c0 = residues_of q n (λ x. total-subtrees K U Z (λ k i. coefficients (g k i).c0 x) t);
      c1 = residues_of q n (λ x. total-subtrees K U Z (λ k i. coefficients (g k i).c1 x) t);
    })
    ∙ sym (total_of_totals n K (λ k. U * Z) g)

-- a unit, by its row and its place there
pub record IsPlaced (rows count unit : ℕ) : Type 0 where
  pub row : unit / count < rows
  pub place : unit % count < count

pub placed : (rows count unit : ℕ) → 0 < count → unit < rows * count → IsPlaced rows count unit
placed rows count unit some l =
    let whole = div-add-mod unit count in
    let inside : unit % count < count = mod-lt unit some in
    record {
      row = ⊎_elim (λ v. v) (λ v. absurd (let m = mul-le-mul_right count v in omega arith)) (cases_lt (unit / count) rows);
      place = inside;
    }
