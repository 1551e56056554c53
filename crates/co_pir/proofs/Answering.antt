-- All units together are the reply; the sums of two workers add up.
use Rattle.std.proofs.Common.{◌≡◌, ℕ, suc, ◌+◌, ◌-◌, ◌*◌, ◌/◌, ◌%◌, ◌^◌, ◌<◌, ◌≤◌, ◌≢◌, refl, sym, ap, subst, ◌∙◌, ⊎_elim, arith, false, cond, min, eqb, eq-eqb, List, [], ◌∷◌, ◌++◌, length, All}
use Rattle.std.specs.Prelude.{◌==◌, if◌then◌else◌}
use Rattle.std.specs.Int.{div_ceil}
use Rattle.std.proofs.lemmas.Bool.{cases_eq}
use Rattle.std.proofs.lemmas.Grind.{div_ceil_times}
use Rattle.std.proofs.Math.Nat.{mod-lt, mul-le-mul_left, mul-le-mul_right}
use Rattle.std.proofs.lemmas.Nat.{div_below}
use Rattle.std.proofs.lemmas.Bool.Decides.{nat_tests}
use Rattle.std.proofs.lemmas.List.{ext_get_or, length-set, get_or-set_other, get_or-set_same}
use Rattle.std.proofs.lemmas.List.Elements.{All-from_get_or}
use Rattle.co_math.specs.Parameters.{q}
use Rattle.co_math.specs.Coefficients.{coefficients, IsDegree, residues_of}
use Rattle.co_bfv.specs.Ciphertexts.{Ciphertext, ciphertext_sum, zero_ciphertext, plain_product}
use Rattle.co_bfv.specs.Totals.{no_ciphertext, ciphertext_at, IsOfDegree, ciphertext_total}
use Rattle.co_bfv.proofs.Totals.{total_of_totals, ciphertext_total-zero, ciphertext_total-suc, ciphertext_total-IsOfDegree, ciphertext_sum-zero, ciphertext_sum-IsOfDegree}
use Rattle.co_board.specs.Once.{sum_below}
use Rattle.co_board.proofs.Counts.{sum_below-constant}
use Rattle.co_switch.specs.Steps.{raised, HasRisen}
use Rattle.co_switch.proofs.Rising.{raised-zero, raised-up}
use Rattle.co_crew.specs.Crew.{IsEach}
use Rattle.co_crew.specs.Sums.{units_total, AreAdded}
use Rattle.co_crew.proofs.Unit_sums.{units-none, units-snoc, units-append, units-each}
use Rattle.co_spectra.specs.Sums.{CipherSums, IsCipherSumOf, three_added}
use Rattle.co_pir.specs.Tables.{Table, payload_at}
use Rattle.co_pir.specs.Replies.{chunk_reply, table_reply}
use Rattle.co_spectra.specs.Values.{CipherValues}
use Rattle.co_pir.specs.Kept.{AreRowValues}
use Rattle.co_pir.specs.Units.{pieces, unit_count, rows_of, piece_sum, unit_sum, AreUnitSums, AreHeldSums, AddsUnit}
use Rattle.co_pir.proofs.Gathering.{length-table_reply, table_reply-at}
use Rattle.co_pir.proofs.Pieces.{chunk_pieces}

-- each unit once: the sum over all rows
all-units : (t : Table) (cs : List Ciphertext) (chunk : ℕ) → chunk < t.chunks → ciphertext_total t.degree (unit_count t) (unit_sum t cs chunk) ≡ chunk_reply t cs chunk
unfolding unit_sum piece_sum chunk_reply ciphertext_total
all-units t cs chunk l =
    let f : ℕ → Ciphertext = λ (r : ℕ). plain_product (ciphertext_at cs r) (payload_at t r chunk) in
    total_of_totals t.degree (unit_count t) (λ unit. if unit / pieces t == chunk then rows_of t (unit % pieces t) else 0) (λ unit j. f (unit % pieces t * 64 + j))
    ∙ (λ i. record {
      c0 = residues_of q t.degree (λ x. chunk_pieces t.rows (λ r. coefficients (f r).c0 x) t.chunks (pieces t) chunk refl l i);
      c1 = residues_of q t.degree (λ x. chunk_pieces t.rows (λ r. coefficients (f r).c1 x) t.chunks (pieces t) chunk refl l i);
    })

-- where an answer's units stand once each in a sum, the sum is the reply
pub units_answered : (t : Table) (cs : List Ciphertext) (units : List ℕ) (replies : List Ciphertext) → IsEach (unit_count t) units → AreUnitSums t cs units replies → replies ≡ table_reply t cs
units_answered t cs units replies each h =
    ext_get_or no_ciphertext replies (table_reply t cs) (h.count ∙ sym (length-table_reply t cs))
    (λ chunk l. let u : chunk < t.chunks = subst (λ (x : ℕ). chunk < x) h.count l in
    h.each chunk l ∙ units-each t.degree (unit_sum t cs chunk) (unit_count t) units each ∙ all-units t cs chunk u ∙ sym (table_reply-at t cs chunk u))

-- nothing was added yet
pub none_summed : (t : Table) (cs replies : List Ciphertext) → IsDegree t.degree → length replies ≡ t.chunks → All (λ c. c ≡ zero_ciphertext t.degree) replies → AreUnitSums t cs [] replies
none_summed t cs replies d len zeros = record {
  count = len;
  whole = λ a x l. zero_whole (zeros a x l);
  each = λ chunk l. zeros chunk no_ciphertext l ∙ sym (units-none t.degree (unit_sum t cs chunk));
}
  where
    zero_whole : {c : Ciphertext} → c ≡ zero_ciphertext t.degree → IsOfDegree t.degree c
    zero_whole e = subst (IsOfDegree t.degree) (sym e) (subst (IsOfDegree t.degree) (ciphertext_total-zero t.degree (λ j. no_ciphertext)) (ciphertext_total-IsOfDegree t.degree 0 (λ j. no_ciphertext) d))

-- sums of degree n, added
pub both_whole : (n : ℕ) (before others after : List Ciphertext) → IsDegree n → All (IsOfDegree n) before → AreAdded before others after → All (IsOfDegree n) after
both_whole n before others after d h added = All-from_get_or (IsOfDegree n) after no_ciphertext (λ a l.
    let u : a < length before = omega (arith, added.count) in
    subst (IsOfDegree n) (sym (added.each a u)) (ciphertext_sum-IsOfDegree n (ciphertext_at before a) (ciphertext_at others a) d (h a no_ciphertext u).degree))

-- what two workers have, added
pub both_summed : (t : Table) (cs : List Ciphertext) (us vs : List ℕ) (before others after : List Ciphertext) → IsDegree t.degree → AreUnitSums t cs us before → AreUnitSums t cs vs others → AreAdded before others after
    → AreUnitSums t cs (us ++ vs) after
both_summed t cs us vs before others after d h g added = record {
  count = added.count ∙ h.count;
  whole = both_whole t.degree before others after d h.whole added;
  each = λ chunk l.
      let u : chunk < length before = omega (arith, added.count) in
      let v : chunk < length others = omega (arith, h.count, g.count) in
      added.each chunk u ∙ (λ i. ciphertext_sum (h.each chunk u i) (g.each chunk v i)) ∙ units-append t.degree (unit_sum t cs chunk) us vs;
}

-- no row was added
module _ (t : Table) (cs : List Ciphertext) (chunk piece : ℕ) (before : Ciphertext) (whole : IsOfDegree t.degree before) where
  pub no_row : before ≡ ciphertext_sum before (piece_sum t cs chunk piece 0)
  unfolding piece_sum
  no_row = sym (ap (ciphertext_sum before) (ciphertext_total-zero t.degree (λ j. plain_product (ciphertext_at cs (piece * 64 + j)) (payload_at t (piece * 64 + j) chunk))) ∙ ciphertext_sum-zero t.degree before whole)

-- the rows of a piece by their values, one after another
module _ (t : Table) (cs : List Ciphertext) (chunk piece : ℕ) where
  pub none_gathered : (n : ℕ) (s : CipherSums) → n ≡ t.degree → IsCipherSumOf (zero_ciphertext n) s → IsCipherSumOf (piece_sum t cs chunk piece 0) s
  unfolding piece_sum
  none_gathered n s e h =
      subst (λ (c : Ciphertext). IsCipherSumOf c s) (ap zero_ciphertext e ∙ sym (ciphertext_total-zero t.degree (λ j. plain_product (ciphertext_at cs (piece * 64 + j)) (payload_at t (piece * 64 + j) chunk)))) h

  next_sum : (count row next : ℕ) → row ≡ piece * 64 + count → next ≡ count + 1
      → ciphertext_sum (piece_sum t cs chunk piece count) (plain_product (ciphertext_at cs row) (payload_at t row chunk)) ≡ piece_sum t cs chunk piece next
  unfolding piece_sum
  next_sum count row next e f =
      let term : ℕ → Ciphertext = λ (j : ℕ). plain_product (ciphertext_at cs (piece * 64 + j)) (payload_at t (piece * 64 + j) chunk) in
      let up : suc count ≡ next = omega arith in
      ap (λ k. ciphertext_sum (ciphertext_total t.degree count term) (plain_product (ciphertext_at cs k) (payload_at t k chunk))) e
      ∙ ciphertext_total-suc t.degree count term ∙ ap (λ k. ciphertext_total t.degree k term) up

  pub one_gathered : (count : ℕ) (new : CipherSums) → IsCipherSumOf (ciphertext_sum (piece_sum t cs chunk piece count) (plain_product (ciphertext_at cs (piece * 64 + count)) (payload_at t (piece * 64 + count) chunk))) new
      → IsCipherSumOf (piece_sum t cs chunk piece (count + 1)) new
  one_gathered count new h = subst (λ (c : Ciphertext). IsCipherSumOf c new) (next_sum count (piece * 64 + count) (count + 1) refl refl) h

  -- three rows in one pass
  pub three_gathered : (count row : ℕ) (new : CipherSums) → row ≡ piece * 64 + count
      → IsCipherSumOf (three_added (piece_sum t cs chunk piece count) (ciphertext_at cs row) (ciphertext_at cs (row + 1)) (ciphertext_at cs (row + 2))
      (payload_at t row chunk) (payload_at t (row + 1) chunk) (payload_at t (row + 2) chunk)) new
      → IsCipherSumOf (piece_sum t cs chunk piece (count + 3)) new
  three_gathered count row new e h =
      let term : ℕ → Ciphertext = λ (k : ℕ). plain_product (ciphertext_at cs k) (payload_at t k chunk) in
      let sum : ℕ → Ciphertext = piece_sum t cs chunk piece in
      let one : ciphertext_sum (sum count) (term row) ≡ sum (count + 1) = next_sum count row (count + 1) e refl in
      let two : ciphertext_sum (sum (count + 1)) (term (row + 1)) ≡ sum (count + 2) = next_sum (count + 1) (row + 1) (count + 2) (omega (arith, e)) (omega arith) in
      let three : ciphertext_sum (sum (count + 2)) (term (row + 2)) ≡ sum (count + 3) = next_sum (count + 2) (row + 2) (count + 3) (omega (arith, e)) (omega arith) in
      subst (λ (c : Ciphertext). IsCipherSumOf c new)
      (ap (λ c. ciphertext_sum (ciphertext_sum c (term (row + 1))) (term (row + 2))) one
      ∙ ap (λ c. ciphertext_sum c (term (row + 2))) two ∙ three) h

-- a unit more
pub unit_added : (t : Table) (cs : List Ciphertext) (us : List ℕ) (unit : ℕ) (before after : List Ciphertext) → IsDegree t.degree → AreUnitSums t cs us before → AddsUnit t cs unit before after → AreUnitSums t cs (us ++ unit ∷ []) after
unfolding unit_sum
unit_added t cs us unit before after d h added =
    let k = unit / pieces t in
    let p = unit % pieces t in
    let new = ciphertext_sum (ciphertext_at before k) (piece_sum t cs k p (rows_of t p)) in
    let len : length after ≡ length before = ap length added.is ∙ length-set before k new in
    let own : ciphertext_at after k ≡ new = ap (λ xs. ciphertext_at xs k) added.is ∙ get_or-set_same before k new no_ciphertext added.chunk_in in
    let other : (a : ℕ) → a ≢ k → ciphertext_at after a ≡ ciphertext_at before a = λ a ne. ap (λ xs. ciphertext_at xs a) added.is ∙ get_or-set_other before k a new no_ciphertext ne in
    record {
      count = len ∙ h.count;
      whole = All-from_get_or (IsOfDegree t.degree) after no_ciphertext (λ a l. ⊎_elim
          (λ e. subst (λ (x : ℕ). IsOfDegree t.degree (ciphertext_at after x)) (sym e) (subst (IsOfDegree t.degree) (sym own)
          (ciphertext_sum-IsOfDegree t.degree (ciphertext_at before k) (piece_sum t cs k p (rows_of t p)) d (h.whole k no_ciphertext added.chunk_in).degree)))
          (λ ne. subst (IsOfDegree t.degree) (sym (other a ne)) (h.whole a no_ciphertext (omega (arith, len))))
          (cases_eq a k));
      each = λ a l. ⊎_elim
          (λ e. subst (λ (x : ℕ). ciphertext_at after x ≡ units_total t.degree (unit_sum t cs x) (us ++ unit ∷ [])) (sym e)
          (own ∙ ap (λ c. ciphertext_sum c (piece_sum t cs k p (rows_of t p))) (h.each k added.chunk_in)
          ∙ ap (λ b. ciphertext_sum (units_total t.degree (unit_sum t cs k) us) (piece_sum t cs k p (cond b (rows_of t p) 0))) (sym (eq-eqb k k refl))
          ∙ units-snoc t.degree (unit_sum t cs k) us unit))
          (λ ne. let v : a < length before = omega (arith, len) in
          other a ne ∙ no_row t cs a p (ciphertext_at before a) (h.whole a no_ciphertext v)
          ∙ ap (λ c. ciphertext_sum c (piece_sum t cs a p 0)) (h.each a v)
          ∙ ap (λ b. ciphertext_sum (units_total t.degree (unit_sum t cs a) us) (piece_sum t cs a p (cond b (rows_of t p) 0))) (sym (no k a (λ e. ne (sym e))))
          ∙ units-snoc t.degree (unit_sum t cs a) us unit)
          (cases_eq a k);
    }
  where
    no : (k c : ℕ) → k ≢ c → eqb k c ≡ false
    no k c ne = grind (arith, nat_tests)

-- the first row of a piece is a row
pub piece_inside : (rows piece : ℕ) → piece < div_ceil rows 64 → piece * 64 < rows
piece_inside rows piece l = let h = (div_ceil_times rows 64 (omega arith)).1 in let more : (piece + 1) * 64 ≤ div_ceil rows 64 * 64 = mul-le-mul_right 64 (omega arith) in omega arith

-- a unit is of a chunk and of a piece that there are
pub chunk_inside : (t : Table) (unit p : ℕ) → p ≡ pieces t → 0 < p → unit < unit_count t → unit / p < t.chunks
chunk_inside t unit p is some within = div_below unit p t.chunks some (subst (λ (k : ℕ). unit < t.chunks * k) (sym is) within)

pub mod_inside : (t : Table) (unit p : ℕ) → p ≡ pieces t → 0 < p → unit % p < pieces t
mod_inside t unit p is some = subst (λ (k : ℕ). unit % p < k) is (mod-lt unit some)

-- a row of a piece is a row
pub row_inside : (rows piece count j : ℕ) → piece < div_ceil rows 64 → count ≡ min 64 (rows - piece * 64) → j < count → piece * 64 + j < rows
row_inside rows piece count j l e u = let h = piece_inside rows piece l in omega arith

-- units can be numbered by 32 bits
pub units_fit : (chunks pieces : ℕ) → chunks ≤ 2097152 → pieces ≤ 64 → chunks * pieces ≤ 2 ^ 32
units_fit chunks pieces few small = let a = mul-le-mul_right pieces few in let b = mul-le-mul_left 2097152 small in omega arith

-- the steps of the expansion alone
pub expansion_alone : (start most now : ℕ) → now ≡ raised start most → HasRisen start most now
expansion_alone start most now e = let up = raised-up start most in record { at_least = omega (arith, e, up); at_most = omega (arith, e) }

-- the units take no step beyond those of the expansion
module _ (start most units expanded now : ℕ) (e : expanded ≡ raised start most) where
  no_cost : raised expanded (sum_below units (λ i. 0)) ≡ raised start most
  no_cost = ap (raised expanded) (sum_below-constant units 0 ∙ nothing units) ∙ raised-zero expanded ∙ e
    where
      nothing : (k : ℕ) → k * 0 ≡ 0
      nothing k = omega arith

  pub expansion_stepped : now ≡ raised expanded (sum_below units (λ i. 0)) → now ≡ raised start most
  expansion_stepped f = f ∙ no_cost

  pub expansion_risen : HasRisen expanded (sum_below units (λ i. 0)) now → HasRisen start most now
  expansion_risen h = let up = raised-up start most in record { at_least = omega (arith, h.at_least, e, up); at_most = omega (arith, h.at_most, no_cost) }

-- the same of sums for each expansion with the values
pub none_held : (t : Table) (values : List CipherValues) (replies : List Ciphertext) → IsDegree t.degree → length replies ≡ t.chunks → All (λ c. c ≡ zero_ciphertext t.degree) replies → AreHeldSums t values [] replies
none_held t values replies d len zeros =
    let none = none_summed t [] replies d len zeros in
    record { count = none.count; whole = none.whole; each = λ cs v. none_summed t cs replies d len zeros }

pub both_held : (t : Table) (values : List CipherValues) (us vs : List ℕ) (before others after : List Ciphertext) → IsDegree t.degree → AreHeldSums t values us before → AreHeldSums t values vs others → AreAdded before others after
    → AreHeldSums t values (us ++ vs) after
both_held t values us vs before others after d h g added = record {
  count = added.count ∙ h.count;
  whole = both_whole t.degree before others after d h.whole added;
  each = λ cs v. both_summed t cs us vs before others after d (h.each cs v) (g.each cs v) added;
}

pub unit_held : (t : Table) (values : List CipherValues) (us : List ℕ) (unit : ℕ) (before after : List Ciphertext) → IsDegree t.degree → AreHeldSums t values us before → length after ≡ length before → All (IsOfDegree t.degree) after
    → ((cs : List Ciphertext) → AreRowValues t.degree t.rows cs values → AddsUnit t cs unit before after) → AreHeldSums t values (us ++ unit ∷ []) after
unit_held t values us unit before after d h len whole added = record {
  count = len ∙ h.count;
  whole = whole;
  each = λ cs v. unit_added t cs us unit before after d (h.each cs v) (added cs v);
}
