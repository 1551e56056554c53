-- The slots of a decrypted ciphertext are those of what it means.
use Rattle.std.proofs.Common.{◌≡◌, ℕ, ◌*◌, ◌<◌, sym, ap, ◌∙◌, arith, ℤ, List, length, get_or}
use Rattle.std.proofs.lemmas.List.{ext_get_or}
use Rattle.co_math.specs.Parameters.{q, plain_modulus}
use Rattle.co_math.specs.Residues.{residue}
use Rattle.co_math.specs.Coefficients.{coefficients, signed_coefficients, AreBelow, AreResidues}
use Rattle.co_math.proofs.Residues.{residue_small}
use Rattle.co_math.proofs.Terms.{coefficient-low}
use Rattle.co_slots.specs.Slots.{slot}
use Rattle.co_bfv.specs.Ciphertexts.{Ciphertext, ciphertext_degree}
use Rattle.co_bfv.specs.Encryptions.{decrypted}
use Rattle.co_bfv.proofs.Encrypted.{decrypted_are}
use Rattle.co_matvec.specs.Replies.{MeansSlots}

-- residues of a polynomial with reduced coefficients are its coefficients
pub reduced_own : (n : ℕ) (xs ys : List ℕ) → length xs ≡ n → AreBelow plain_modulus xs → AreResidues plain_modulus n (coefficients xs) ys → ys ≡ xs
reduced_own n xs ys e b h =
    ext_get_or 0 ys xs (h.len ∙ sym e)
    (λ i l.
    let u : i < length xs = omega (arith, h.len) in
    h.each i (omega (arith, h.len)) ∙ ap (residue plain_modulus) (coefficient-low xs i u) ∙ residue_small plain_modulus (get_or xs i 0) (b i u))

pub slot_opened : (n : ℕ) (secret : List ℤ) (c : Ciphertext) (slots : ℕ → ℕ) (b : ℕ) → ciphertext_degree c ≡ n → MeansSlots n (signed_coefficients secret) c slots b → 2 * b < q
    → (p : ℕ) → p < n → slot (decrypted secret c) p ≡ slots p
slot_opened n secret c slots b degree h room p l =
    let are = decrypted_are secret c (coefficients h.message) b h.means room in
    let same : decrypted secret c ≡ h.message = reduced_own (ciphertext_degree c) h.message (decrypted secret c) (h.spelled.len ∙ sym degree) h.spelled.reduced are in
    ap (λ (xs : List ℕ). slot xs p) same ∙ h.spelled.each p l
