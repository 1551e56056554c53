-- Ciphertexts that are read one after another.
use Rattle.std.proofs.Common.{◌≡◌, ℕ, ◌+◌, ◌*◌, sym, ap, subst, ◌∙◌, arith, List, [], ◌∷◌, ◌++◌, length, length-append, take}
use Rattle.std.specs.Prelude.{All}
use Rattle.std.proofs.lemmas.List.{flat_map_more}
use Rattle.std.proofs.lemmas.List.Elements.{All-push}
use Rattle.co_bfv.specs.Ciphertexts.{Ciphertext, IsCiphertext, ciphertext_degree}
use Rattle.co_wire.specs.Bodies.{cipher_bytes, ciphers_bytes}
use Rattle.co_wire.specs.Parts.{AreInRangeTo, SpellsBetween}

-- the first i ciphertexts are read, up to the residue `at`
pub record AreRead (n : ℕ) (body : List ℕ) (i at : ℕ) (cs : List Ciphertext) : Type 0 where
  pub at_is : at ≡ i * (4 * n)
  pub count : length cs ≡ i
  pub ciphers : All IsCiphertext cs
  pub degrees : All (λ c. ciphertext_degree c ≡ n) cs
  pub spelled : SpellsBetween 0 at (ciphers_bytes cs) body
  pub in_range : AreInRangeTo body at

pub one-read : (n : ℕ) (body : List ℕ) (i at : ℕ) (cs next : List Ciphertext) (c : Ciphertext) → AreRead n body i at cs → next ≡ cs ++ c ∷ [] → IsCiphertext c → ciphertext_degree c ≡ n
    → SpellsBetween at (at + 4 * n) (cipher_bytes c) body → AreInRangeTo body (at + 4 * n) → AreRead n body (i + 1) (at + 4 * n) next
one-read n body i at cs next c h e whole degree spelled range = record {
  at_is = omega (arith, h.at_is);
  count = omega (arith, ap length e, length-append cs (c ∷ []), h.count);
  ciphers = subst (All IsCiphertext) (sym e) (All-push IsCiphertext cs c h.ciphers whole);
  degrees = subst (All (λ x. ciphertext_degree x ≡ n)) (sym e) (All-push (λ x. ciphertext_degree x ≡ n) cs c h.degrees degree);
  spelled = spelled ∙ ap (λ (ys : List ℕ). ys ++ cipher_bytes c) h.spelled ∙ flat_map_more cipher_bytes (take (7 * 0) body) cs c ∙ ap (λ (xs : List Ciphertext). take (7 * 0) body ++ ciphers_bytes xs) (sym e);
  in_range = range;
}
