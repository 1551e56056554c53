-- The scores that replies show, block by block.
use Rattle.std.proofs.Common.{◌≡◌, ℕ, ◌+◌, ◌-◌, ◌*◌, ◌/◌, ◌%◌, ◌<◌, ◌≤◌, min, refl, sym, ap, subst, ◌∙◌, ⊎_elim, arith, ℤ, List, [], ◌++◌, length, get_or, take, map, length-append}
use Rattle.std.specs.List.{range_with_len}
use Rattle.std.proofs.lemmas.Bool.{cases_lt}
use Rattle.std.proofs.lemmas.Grind.{div_ceil_times}
use Rattle.std.proofs.lemmas.Nat.{div-mul-add}
use Rattle.std.proofs.Math.Nat.{mod-eq-sub-div-mul, mul-le-mul_right}
use Rattle.co_math.specs.Parameters.{plain_modulus}
use Rattle.co_math.specs.Coefficients.{AreBelow}
use Rattle.co_math.proofs.Residues.{residue-lt}
use Rattle.std.proofs.lemmas.List.{ext_get_or, length-take, get_or-take, get_or_append_left, get_or-append_right}
use Rattle.std.proofs.lemmas.List.FromFn.{length-map-range_with_len, get_or-map-range_with_len}
use Rattle.co_slots.specs.Slots.{slot, AreSlots}
use Rattle.co_noise.specs.Shapes.{Numbers, document_blocks}
use Rattle.co_bfv.specs.Ciphertexts.{Ciphertext}
use Rattle.co_bfv.specs.Totals.{ciphertext_at}
use Rattle.co_bfv.specs.Encryptions.{decrypted}
use Rattle.co_wire.specs.Bodies.{SpellsCiphers}
use Rattle.co_rounds.specs.Scoring.{score_read, scores_read}

-- the scores of the first documents, up to those of so many blocks
abbrev pub scores_to : Numbers → List ℤ → List Ciphertext → ℕ → List ℕ
scores_to s secret cs blocks = map (score_read s.degree secret cs) (range_with_len 0 (min (blocks * s.degree) s.documents))

abbrev pub AreScoresTo : Numbers → List ℤ → List ℕ → ℕ → List ℕ → Type 0
AreScoresTo s secret body blocks scores = (cs : List Ciphertext) → SpellsCiphers s.degree (document_blocks s) cs body → scores ≡ scores_to s secret cs blocks

pub none-scored : (s : Numbers) (secret : List ℤ) (body scores : List ℕ) → scores ≡ [] → AreScoresTo s secret body 0 scores
none-scored s secret body scores e cs h =
    let none : min (0 * s.degree) s.documents ≡ 0 = omega arith in
    e ∙ ap (λ (k : ℕ). map (score_read s.degree secret cs) (range_with_len 0 k)) (sym none)

-- one block more
pub one-scored : (s : Numbers) (secret : List ℤ) (cs : List Ciphertext) (i : ℕ) (slots scores next : List ℕ) → 0 < s.degree → length slots ≡ s.degree
    → ((p : ℕ) → p < s.degree → get_or slots p 0 ≡ slot (decrypted secret (ciphertext_at cs i)) p) → scores ≡ scores_to s secret cs i → next ≡ scores ++ take (s.documents - length scores) slots
    → next ≡ scores_to s secret cs (i + 1)
one-scored s secret cs i slots scores next positive long each h e =
    let n = s.degree in
    let f = score_read n secret cs in
    let was : length scores ≡ min (i * n) s.documents = ap length h ∙ length-map-range_with_len f 0 (min (i * n) s.documents) in
    let is = length-map-range_with_len f 0 (min ((i + 1) * n) s.documents) in
    let more = length-take (s.documents - length scores) slots in
    let whole = ap length e ∙ length-append scores (take (s.documents - length scores) slots) in
    let size : (i + 1) * n ≡ i * n + n = omega arith in
    ext_get_or 0 next (scores_to s secret cs (i + 1)) (omega (arith, whole, was, is, more, long, size))
    (λ j l.
    let within : j < min ((i + 1) * n) s.documents = omega (arith, l, whole, was, is, more, long, size) in
    ap (λ (xs : List ℕ). get_or xs j 0) e ∙ ⊎_elim (λ u. front j u) (λ u. behind j u (omega (arith, within, was, size)) (omega (arith, within))) (cases_lt j (length scores))
    ∙ sym (get_or-map-range_with_len f 0 (min ((i + 1) * n) s.documents) j j 0 within (omega arith)))
  where
    front : (j : ℕ) → j < length scores → get_or (scores ++ take (s.documents - length scores) slots) j 0 ≡ score_read s.degree secret cs j
    front j u =
        let f = score_read s.degree secret cs in
        let was : length scores ≡ min (i * s.degree) s.documents = ap length h ∙ length-map-range_with_len f 0 (min (i * s.degree) s.documents) in
        get_or_append_left scores (take (s.documents - length scores) slots) 0 j u ∙ ap (λ (xs : List ℕ). get_or xs j 0) h
        ∙ get_or-map-range_with_len f 0 (min (i * s.degree) s.documents) j j 0 (omega (arith, was)) (omega arith)

    behind : (j : ℕ) → length scores ≤ j → j < length scores + s.degree → j < s.documents → get_or (scores ++ take (s.documents - length scores) slots) j 0 ≡ score_read s.degree secret cs j
    behind j u v w =
        let n = s.degree in
        let f = score_read n secret cs in
        let was : length scores ≡ min (i * n) s.documents = ap length h ∙ length-map-range_with_len f 0 (min (i * n) s.documents) in
        let start : length scores ≡ i * n = omega (arith, was, w) in
        let at = j - length scores in
        let split : j ≡ i * n + at = omega (arith, start) in
        let block : j / n ≡ i = ap (λ (k : ℕ). k / n) split ∙ div-mul-add i n at (omega (arith, start)) in
        let column : j % n ≡ at = mod-eq-sub-div-mul j n ∙ ap (λ (k : ℕ). j - k * n) block ∙ omega (arith, start) in
        get_or-append_right scores (take (s.documents - length scores) slots) (length scores) j 0 refl u
        ∙ get_or-take (s.documents - length scores) slots at 0 (omega arith) ∙ each at (omega arith)
        ∙ (λ t. slot (decrypted secret (ciphertext_at cs (sym block t))) (sym column t))

-- the blocks hold all documents
pub all-scored : (s : Numbers) (secret : List ℤ) (cs : List Ciphertext) (blocks : ℕ) → 0 < s.degree → document_blocks s ≤ blocks → scores_to s secret cs blocks ≡ scores_read s secret cs
unfolding document_blocks
all-scored s secret cs blocks positive l =
    let whole = (div_ceil_times s.documents s.degree positive).0 in
    let more = mul-le-mul_right s.degree l in
    let all : min (blocks * s.degree) s.documents ≡ s.documents = omega (arith, whole, more) in
    ap (λ (k : ℕ). map (score_read s.degree secret cs) (range_with_len 0 k)) all

-- slots are below t
slot-below : (xs : List ℕ) (p : ℕ) → slot xs p < plain_modulus
unfolding slot
slot-below xs p = residue-lt plain_modulus _ (omega arith)

pub slots-below : (coeffs slots : List ℕ) → AreSlots coeffs slots → AreBelow plain_modulus slots
slots-below coeffs slots h p l = subst (λ (x : ℕ). x < plain_modulus) (sym (h.each p (omega (arith, h.len)))) (slot-below coeffs p)
