-- The numbers of diagonals and of entries.
use Rattle.std.proofs.Common.{◌≡◌, ℕ, true, ◌+◌, ◌*◌, ◌-◌, ◌/◌, ◌%◌, ◌<◌, ◌≤◌, ◌&&◌, sym, ap, subst, ◌∙◌, ⊎_elim, arith, List, get_or, max, All, eqb}
use Rattle.std.proofs.Math.Nat.{mod-lt, div-mul-le_self, mul-le-mul_left, mul-le-mul_right}
use Rattle.std.proofs.lemmas.Nat.{mod-mul-add}
use Rattle.std.specs.Int.{div_ceil}
use Rattle.std.proofs.lemmas.Grind.{div_ceil_times}
use Rattle.co_noise.specs.Shapes.{keyword_blocks as keyword_blocks_of, document_blocks as document_blocks_of}
use Rattle.std.proofs.lemmas.Bool.{cases_lt, eqb-true}
use Rattle.co_matvec.specs.Weights.{WeightMatrix, keyword_blocks, document_blocks}
use Rattle.co_matvec.specs.Diagonals.{on_diagonal}
use Rattle.co_matvec.specs.Ranges.{diagonal_number, entry_number}
use Rattle.co_crew.proofs.Crews.{both_true}

-- the turn from a document's column to a term's
turned-back : (h x i t : ℕ) → x < h → i < h → t ≡ (x + i) % h → (t + h - x) % h ≡ i
turned-back h x i t l u e = ⊎_elim
    (λ v.
    let sum : x + i ≡ 0 * h + (x + i) = omega arith in
    let is : t ≡ x + i = e ∙ ap (λ y. y % h) sum ∙ mod-mul-add 0 h (x + i) v in
    let back : t + h - x ≡ 1 * h + i = omega (arith, is) in
    ap (λ y. y % h) back ∙ mod-mul-add 1 h i u)
    (λ v.
    let sum : x + i ≡ 1 * h + (x + i - h) = omega arith in
    let is : t ≡ x + i - h = e ∙ ap (λ y. y % h) sum ∙ mod-mul-add 1 h (x + i - h) (omega arith) in
    let back : t + h - x ≡ 0 * h + i = omega (arith, is) in
    ap (λ y. y % h) back ∙ mod-mul-add 0 h i u)
    (cases_lt (x + i) h)

-- an entry on a diagonal has its number
pub numbered : (n words a k i term document : ℕ) → i < n / 2 → on_diagonal n a k i term document ≡ true → entry_number n words term document ≡ diagonal_number words (n / 2) a k i
unfolding entry_number diagonal_number
numbered n words a k i term document l e =
    let h = n / 2 in
    let last = both_true (eqb (document / n) a && eqb (term / h) k) (eqb (term % h) ((document % n % h + i) % h)) e in
    let first = both_true (eqb (document / n) a) (eqb (term / h) k) last.0 in
    let block = eqb-true (document / n) a first.0 in
    let word = eqb-true (term / h) k first.1 in
    let turn = turned-back h (document % n % h) i (term % h) (mod-lt (document % n) (positive l)) l (eqb-true (term % h) ((document % n % h + i) % h) last.1) in
    (λ t. (block t * words + word t) * h + turn t)
  where
    positive : {x y : ℕ} → x < y → 0 < y
    positive {x} {y} u = omega arith

-- the number of a diagonal is one of them
pub number-below : (blocks words h a k i : ℕ) → a < blocks → k < words → i < h → diagonal_number words h a k i < blocks * (words * h)
unfolding diagonal_number
number-below blocks words h a k i l u v =
    let rows : a * words + k + 1 ≤ blocks * words = let more : (a + 1) * words ≤ blocks * words = mul-le-mul_right words (omega arith) in omega arith in
    let all : (a * words + k + 1) * h ≤ blocks * words * h = mul-le-mul_right h rows in
    omega arith

quotient-below : (x k b : ℕ) → x < b * k → x / k < b
quotient-below x k b l = ⊎_elim (λ u. u) (λ u. let more : b * k ≤ x / k * k = mul-le-mul_right k u in let low = div-mul-le_self x k in absurd (omega arith)) (cases_lt (x / k) b)

-- so is an entry's
pub entry-below : (n documents terms blocks words term document : ℕ) → 1 < n → documents ≤ blocks * n → terms ≤ words * (n / 2) → term < terms → document < documents → entry_number n words term document < blocks * (words * (n / 2))
unfolding entry_number
entry-below n documents terms blocks words term document rows d t l u =
    let h = n / 2 in
    let half : 0 < h = omega arith in
    number-below blocks words h (document / n) (term / h) ((term % h + h - document % n % h) % h)
    (quotient-below document n blocks (omega arith)) (quotient-below term h words (omega arith)) (mod-lt (term % h + h - document % n % h) half)

-- the steps of an entry's number are no greater than it
module _ (n words term document numbers : ℕ) (rows : 1 < n) (l : entry_number n words term document < numbers) where
  pub number-below-inner : document / n * words + term / (n / 2) < numbers
  unfolding entry_number diagonal_number
  number-below-inner =
      let y = document / n * words + term / (n / 2) in
      let half : 1 ≤ n / 2 = omega arith in
      let more : y * 1 ≤ y * (n / 2) = mul-le-mul_left y half in
      omega (arith, l, more)

  pub number-below-outer : (document / n * words + term / (n / 2)) * (n / 2) < numbers
  unfolding entry_number diagonal_number
  number-below-outer = omega (arith, l)

-- so are those of a diagonal's number, which is one of them
module _ (w : WeightMatrix) (heads words half a k i : ℕ) (e : heads ≡ document_blocks w * (keyword_blocks w * (w.degree / 2))) (f : words ≡ keyword_blocks w) (g : half ≡ w.degree / 2)
    (l : a < document_blocks w) (u : k < keyword_blocks w) (v : i < w.degree / 2) where
  pub number-is : (a * words + k) * half + i ≡ diagonal_number (keyword_blocks w) (w.degree / 2) a k i
  unfolding diagonal_number
  number-is t = (a * f t + k) * g t + i

  pub number-fits : (a * words + k) * half + i < heads
  number-fits = omega (arith, number-is, e, number-below (document_blocks w) (keyword_blocks w) (w.degree / 2) a k i l u v)

  pub number-fits-inner : a * words + k < heads
  number-fits-inner =
      let some : 1 ≤ half = omega (arith, g, v) in
      let more : (a * words + k) * 1 ≤ (a * words + k) * half = mul-le-mul_left (a * words + k) some in
      omega (arith, number-fits, more)

-- all blocks have all documents, and all terms
blocks-enough : (w : WeightMatrix) → 0 < w.degree → w.documents ≤ document_blocks w * w.degree
unfolding document_blocks document_blocks_of
blocks-enough w z = (div_ceil_times w.documents w.degree z).0

-- the blocks have room for all terms
pub words-enough : (w : WeightMatrix) → 0 < w.degree / 2 → w.terms ≤ keyword_blocks w * (w.degree / 2)
unfolding keyword_blocks keyword_blocks_of
words-enough w z =
    let some : div_ceil w.terms (w.degree / 2) ≤ max 1 (div_ceil w.terms (w.degree / 2)) = omega arith in
    let enough = (div_ceil_times w.terms (w.degree / 2) z).0 in
    let more = mul-le-mul_right (w.degree / 2) some in
    omega (arith, enough, more)

pub entries-below : (w : WeightMatrix) (n words numbers : ℕ) (es : List (ℕ × ℕ × ℕ)) → 1 < w.degree → n ≡ w.degree → words ≡ keyword_blocks w → numbers ≡ document_blocks w * (keyword_blocks w * (w.degree / 2))
    → All (λ e. (e.0 < w.terms) × (e.1 < w.documents)) es → All (λ e. entry_number n words e.0 e.1 < numbers) es
entries-below w n words numbers es rows e f g h i d l =
    let r = h i d l in
    let half : 0 < w.degree / 2 = omega arith in
    let low = entry-below w.degree w.documents w.terms (document_blocks w) (keyword_blocks w) (get_or es i d).0 (get_or es i d).1 rows (blocks-enough w (omega arith)) (words-enough w half) r.0 r.1 in
    subst (λ (x : ℕ). entry_number n words (get_or es i d).0 (get_or es i d).1 < x) (sym g)
    (subst (λ (x : ℕ). entry_number x words (get_or es i d).0 (get_or es i d).1 < document_blocks w * (keyword_blocks w * (w.degree / 2))) (sym e)
    (subst (λ (x : ℕ). entry_number w.degree x (get_or es i d).0 (get_or es i d).1 < document_blocks w * (keyword_blocks w * (w.degree / 2))) (sym f) low))

pub some-words : (w : WeightMatrix) → 0 < keyword_blocks w
unfolding keyword_blocks keyword_blocks_of
some-words w = omega arith
