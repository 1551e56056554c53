-- One value more in a list of values, and what is found in it.
use Rattle.std.proofs.Common.{◌≡◌, ℕ, ◌+◌, ◌*◌, ◌/◌, ◌%◌, ◌<◌, sym, ap, subst, ◌∙◌, ⊎_elim, arith, List, [], ◌∷◌, ◌++◌, length, get_or, length-append}
use Rattle.std.proofs.lemmas.Bool.{cases_lt}
use Rattle.std.proofs.lemmas.List.{get_or_append_left}
use Rattle.std.proofs.lemmas.Nat.{div-mul-add, mod-mul-add}
use Rattle.std.proofs.Math.Seq.{get_or-append_seam}
use Rattle.co_rns.specs.Spectra.{PairValues}
use Rattle.co_spectra.specs.Values.{CipherValues, AreCipherValues}
use Rattle.co_bfv.specs.Ciphertexts.{Ciphertext}
use Rattle.co_pir.specs.Kept.{ArePayloadValues, AreRowValues, IsPayloadOf}
use Rattle.co_pir.specs.Tables.{Table}
use Rattle.co_pir.proofs.Gathering.{piece-room}

module _ {A : Type 0} (P : ℕ → A → Type 0) (i : ℕ) (xs ys : List A) (x : A) (len : length xs ≡ i) (each : (j : ℕ) (d : A) → j < i → P j (get_or xs j d)) (last : P i x) (e : ys ≡ xs ++ x ∷ []) where
  pub pushed-length : length ys ≡ i + 1
  pushed-length = ap length e ∙ omega (arith, length-append xs (x ∷ []), len)

  pub pushed-each : (j : ℕ) (d : A) → j < i + 1 → P j (get_or ys j d)
  pushed-each j d l = subst (λ (zs : List A). P j (get_or zs j d)) (sym e) (⊎_elim
      (λ u. subst (P j) (sym (get_or_append_left xs (x ∷ []) d j (omega (arith, len)))) (each j d u))
      (λ u.
      let same : length xs ≡ j = omega (arith, len) in
      let here : i ≡ j = omega arith in
      subst (P j) (sym (ap (λ k. get_or (xs ++ x ∷ []) k d) (sym same) ∙ get_or-append_seam xs x [] d)) (subst (λ (k : ℕ). P k x) here last))
      (cases_lt j i))

pub one_payload : (t : Table) (i : ℕ) (xs ys : List PairValues) (x : PairValues) → ArePayloadValues t i xs → IsPayloadOf t (i % t.rows) (i / t.rows) x → ys ≡ xs ++ x ∷ [] → ArePayloadValues t (i + 1) ys
one_payload t i xs ys x h last e =
    let P : ℕ → PairValues → Type 0 = λ (place : ℕ) (v : PairValues). IsPayloadOf t (place % t.rows) (place / t.rows) v in
    record { len = pushed-length P i xs ys x h.len h.each last e; each = pushed-each P i xs ys x h.len h.each last e }

pub one_row : (n i : ℕ) (cs : List Ciphertext) (xs ys : List CipherValues) (x : CipherValues) → AreRowValues n i cs xs → AreCipherValues n (get_or cs i (record { c0 = []; c1 = [] })) x → ys ≡ xs ++ x ∷ [] → AreRowValues n (i + 1) cs ys
one_row n i cs xs ys x h last e =
    let P : ℕ → CipherValues → Type 0 = λ (row : ℕ) (v : CipherValues). AreCipherValues n (get_or cs row (record { c0 = []; c1 = [] })) v in
    record { len = pushed-length P i xs ys x h.len h.each last e; each = pushed-each P i xs ys x h.len h.each last e }

-- the values of a chunk of a row
pub payload-found : (t : Table) (values : List PairValues) (row chunk : ℕ) (v d : PairValues) → ArePayloadValues t (t.chunks * t.rows) values → row < t.rows → chunk < t.chunks → v ≡ get_or values (chunk * t.rows + row) d → IsPayloadOf t row chunk v
payload-found t values row chunk v d h l u e =
    let room = piece-room t.rows chunk t.chunks u in
    subst (IsPayloadOf t row chunk) (sym e)
    (subst (λ (c : ℕ). IsPayloadOf t row c (get_or values (chunk * t.rows + row) d)) (div-mul-add chunk t.rows row l)
    (subst (λ (r : ℕ). IsPayloadOf t r ((chunk * t.rows + row) / t.rows) (get_or values (chunk * t.rows + row) d)) (mod-mul-add chunk t.rows row l)
    (h.each (chunk * t.rows + row) d (omega (arith, room, l)))))
