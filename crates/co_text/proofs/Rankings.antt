-- The ranking is the one list that its law describes.
use Rattle.std.proofs.Common.{◌≡◌, ℕ, zero, suc, ◌+◌, ◌<◌, ◌==◌, min, Bool, true, false, cond, ◌||◌, List, [], ◌∷◌, length, take, drop, refl, sym, ap, ◌∙◌, subst, arith, nat_lt, Some}
use Rattle.std.specs.Prelude.{All, count_by, slice_get, fold, map}
use Rattle.std.specs.List.{list_any, AllByRecursion, IsDistinct}
use Rattle.std.specs.List.Sorted.{IsStrictlySortedBy}
use Rattle.std.specs.BTreeSet.{insert_key}
use Rattle.std.specs.Ordering.{nat_cmp, ordering_then, ordering_reverse, eq_by_cmp, is_eq}
use Rattle.std.specs.Cmp.{IsTotalOrder, Equal-is, nat_cmp_is, tied_itself}
use Rattle.std.specs.declared.cmp.Ordering.{Ordering}
use Rattle.std.specs.declared.cmp.Ordering.TheVariants.{Less, Equal, Greater}
use Rattle.std.specs.declared.cmp.Reverse.{Reverse}
use Rattle.std.proofs.lemmas.Bool.{ltb-true, lt-ltb, eqb-true, eq-eqb, or_left, or_right, or_from, or_parts, true≢false}
use Rattle.std.proofs.lemmas.Cmp.{nat_cmp_total, then_total, back_total, on_total}
use Rattle.std.proofs.lemmas.List.{length-take, take-append-drop, take-map}
use Rattle.std.proofs.lemmas.List.Elements.{All-nil, All-cons, All-head, All-tail, All-take}
use Rattle.std.proofs.lemmas.List.Folds.{list_any-append}
use Rattle.std.proofs.lemmas.List.Sums.{sum_by-cons}
use Rattle.std.proofs.lemmas.Map.Keys.{IsDistinct-cons}
use Rattle.std.proofs.lemmas.Map.Lookups.{exact_pairs, exact_unsigned}
use Rattle.co_text.specs.declared.ranks.Ranked.{Ranked}
use Rattle.co_text.specs.Order.{in_order}
use Rattle.co_text.specs.Ranking.{hit_cmp, scored, ranking, IsScored, IsRanking}
use Rattle.co_text.specs.Keys.{key_cmp, shown}
use Rattle.co_text.proofs.Sorted.{one_unless, front_before, all_at, sorted_take}
use Rattle.co_text.proofs.InOrder.{in_order-sorted, in_order-members, in_order-all, length-in_order, front_fold}
use Rattle.co_text.proofs.MapInsert.{map-insert_key}

hit_total : IsTotalOrder hit_cmp
hit_total = then_total (back_total (on_total (λ (r : Ranked). r.score) nat_cmp_total)) (on_total (λ (r : Ranked). r.document) nat_cmp_total)

back_exact : (a b : ℕ) → nat_cmp b a ≡ Equal → a ≡ b
back_exact a b tied = sym (exact_unsigned b a tied)

-- documents that are tied are one
hit_exact : (a b : Ranked) → hit_cmp a b ≡ Equal → a ≡ b
hit_exact a b tied =
    let whole : ℕ × ℕ → Ranked = λ p. record { document = p.1; score = p.0 } in
    ap whole (exact_pairs (λ (x y : ℕ). nat_cmp y x) nat_cmp back_exact exact_unsigned (a.score, a.document) (b.score, b.document) tied)

decides : (a b : Ranked) → eq_by_cmp hit_cmp a b ≡ true → a ≡ b
decides a b same = hit_exact a b ((Equal-is (hit_cmp a b)).0 same)

-- ---- the documents of score at least 1

module _ (scores : List ℕ) where
  each_at : (n s : ℕ) (ss : List ℕ) → slice_get scores n ≡ Some s → All (IsScored scores) (scored (n + 1) ss) → (b : Bool) → nat_lt 0 s ≡ b
      → All (IsScored scores) (cond b (record { document = n; score = s } ∷ scored (n + 1) ss) (scored (n + 1) ss))
  each_at n s ss here rest true some = All-cons (IsScored scores) (record { document = n; score = s }) (scored (n + 1) ss) (record { score = here; some = ltb-true 0 s some }) rest
  each_at n s ss here rest false none = rest

  each_scored : (n : ℕ) (ss : List ℕ) → ((i s : ℕ) → slice_get ss i ≡ Some s → slice_get scores (n + i) ≡ Some s) → All (IsScored scores) (scored n ss)
  each_scored n [] same = All-nil (IsScored scores)
  each_scored n (s ∷ ss) same =
      let first : n + 0 ≡ n = omega arith in
      let here : slice_get scores n ≡ Some s = ap (slice_get scores) (sym first) ∙ same 0 s refl in
      each_at n s ss here
      (each_scored (n + 1) ss (λ i t is. let next : (n + 1) + i ≡ n + suc i = omega arith in ap (slice_get scores) next ∙ same (suc i) t is))
      (nat_lt 0 s) refl

less_is : (a b : ℕ) → a < b → nat_cmp a b ≡ Less
less_is a b less = sym (nat_cmp_is a b Less less)

then_less : (a b : Ordering) → b ≡ Less → is_eq (ordering_then a b) ≡ false
then_less Less b is = refl
then_less Equal b is = ap is_eq is
then_less Greater b is = refl

apart_at : (r : Ranked) (n s : ℕ) (rest : List Ranked) → r.document < n → AllByRecursion (λ h. eq_by_cmp hit_cmp r h ≡ false) rest
    → (b : Bool) → AllByRecursion (λ h. eq_by_cmp hit_cmp r h ≡ false) (cond b (record { document = n; score = s } ∷ rest) rest)
apart_at r n s rest below others true = (then_less (nat_cmp s r.score) (nat_cmp r.document n) (less_is r.document n below), others)
apart_at r n s rest below others false = others

scored_apart : (r : Ranked) (n : ℕ) (ss : List ℕ) → r.document < n → AllByRecursion (λ h. eq_by_cmp hit_cmp r h ≡ false) (scored n ss)
scored_apart r n [] below = tt
scored_apart r n (s ∷ ss) below = apart_at r n s (scored (n + 1) ss) below (scored_apart r (n + 1) ss (omega (arith, below))) (nat_lt 0 s)

once_at : (n s : ℕ) (ss : List ℕ) → IsDistinct (eq_by_cmp hit_cmp) (scored (n + 1) ss) → (b : Bool)
    → IsDistinct (eq_by_cmp hit_cmp) (cond b (record { document = n; score = s } ∷ scored (n + 1) ss) (scored (n + 1) ss))
once_at n s ss rest true =
    let r : Ranked = record { document = n; score = s } in
    IsDistinct-cons (eq_by_cmp hit_cmp) r (scored (n + 1) ss) (scored_apart r (n + 1) ss (omega arith)) rest
once_at n s ss rest false = rest

scored_once : (n : ℕ) (ss : List ℕ) → IsDistinct (eq_by_cmp hit_cmp) (scored n ss)
unfolding IsDistinct
scored_once n [] = tt
scored_once n (s ∷ ss) = once_at n s ss (scored_once (n + 1) ss) (nat_lt 0 s)

long_at : (n s : ℕ) (rest : List Ranked) (count : ℕ) → length rest ≡ count → (b : Bool) → length (cond b (record { document = n; score = s } ∷ rest) rest) ≡ cond b 1 0 + count
long_at n s rest count is true = omega (arith, is)
long_at n s rest count is false = omega (arith, is)

length-scored : (n : ℕ) (ss : List ℕ) → length (scored n ss) ≡ count_by (nat_lt 0) ss
length-scored n [] = refl
length-scored n (s ∷ ss) = long_at n s (scored (n + 1) ss) (count_by (nat_lt 0) ss) (length-scored (n + 1) ss) (nat_lt 0 s) ∙ sym (sum_by-cons (λ t. cond (nat_lt 0 t) 1 0) s ss)

behind : (r h : Ranked) (rest : List Ranked) → list_any (eq_by_cmp hit_cmp r) rest ≡ true → (b : Bool) → list_any (eq_by_cmp hit_cmp r) (cond b (h ∷ rest) rest) ≡ true
behind r h rest is true = or_right (eq_by_cmp hit_cmp r h) (list_any (eq_by_cmp hit_cmp r) rest) is
behind r h rest is false = is

first_at : (r : Ranked) (rest : List Ranked) (b : Bool) → b ≡ true → list_any (eq_by_cmp hit_cmp r) (cond b (r ∷ rest) rest) ≡ true
first_at r rest true is = or_left (eq_by_cmp hit_cmp r r) (list_any (eq_by_cmp hit_cmp r) rest) (ap is_eq (tied_itself hit_total r))
first_at r rest false is = absurd (true≢false (sym is))

-- a document of score at least 1 is among them
scored_has : (n i s : ℕ) (ss : List ℕ) → slice_get ss i ≡ Some s → 0 < s → list_any (eq_by_cmp hit_cmp (record { document = n + i; score = s })) (scored n ss) ≡ true
scored_has n i s [] is some = absurd cc
scored_has n zero s (t ∷ ss) is some =
    let same : t ≡ s = cc in
    let first : n + 0 ≡ n = omega arith in
    let whole : ℕ → ℕ → Ranked = λ d x. record { document = d; score = x } in
    ap (λ d. list_any (eq_by_cmp hit_cmp (whole d s)) (scored n (t ∷ ss))) first
    ∙ ap (λ x. list_any (eq_by_cmp hit_cmp (whole n x)) (scored n (t ∷ ss))) (sym same)
    ∙ first_at (whole n t) (scored (n + 1) ss) (nat_lt 0 t) (ap (nat_lt 0) same ∙ lt-ltb 0 s some)
scored_has n (suc i) s (t ∷ ss) is some =
    let next : n + suc i ≡ (n + 1) + i = omega arith in
    let whole : ℕ → Ranked = λ d. record { document = d; score = s } in
    behind (whole (n + suc i)) (record { document = n; score = t }) (scored (n + 1) ss)
    (ap (λ d. list_any (eq_by_cmp hit_cmp (whole d)) (scored (n + 1) ss)) next ∙ scored_has (n + 1) i s ss is some) (nat_lt 0 t)

-- ---- the ranking

other_document : (r h : Ranked) → (h.document == r.document) ≡ false → (b : Bool) → eq_by_cmp hit_cmp r h ≡ b → b ≡ false
other_document r h apart true same =
    let document : h.document ≡ r.document = ap (λ (x : Ranked). x.document) (sym (decides r h same)) in
    absurd (true≢false (sym (eq-eqb h.document r.document document) ∙ apart))
other_document r h apart false same = refl

no_member : (r : Ranked) (hits : List Ranked) → list_any (λ h. h.document == r.document) hits ≡ false → list_any (eq_by_cmp hit_cmp r) hits ≡ false
no_member r [] none = refl
no_member r (h ∷ hs) none =
    let parts = or_parts (h.document == r.document) (list_any (λ x. x.document == r.document) hs) none in
    or_from (eq_by_cmp hit_cmp r h) (list_any (eq_by_cmp hit_cmp r) hs) (other_document r h parts.0 (eq_by_cmp hit_cmp r h) refl) (no_member r hs parts.1)

module _ (most : ℕ) (scores : List ℕ) where
  all : List Ranked
  all = in_order hit_cmp (scored 0 scores)

  all_sorted : IsStrictlySortedBy hit_cmp all
  unfolding all
  all_sorted = in_order-sorted hit_cmp hit_total (scored 0 scores)

  outside : (r : Ranked) → IsScored scores r → list_any (eq_by_cmp hit_cmp r) (take most all) ≡ false → list_any (eq_by_cmp hit_cmp r) (drop most all) ≡ true
  unfolding all
  outside r is out =
      let whole : ℕ → Ranked = λ d. record { document = d; score = r.score } in
      let first : r.document ≡ 0 + r.document = omega arith in
      ap (λ b. b || list_any (eq_by_cmp hit_cmp r) (drop most all)) (sym out)
      ∙ sym (list_any-append (eq_by_cmp hit_cmp r) (take most all) (drop most all))
      ∙ ap (list_any (eq_by_cmp hit_cmp r)) (take-append-drop most all)
      ∙ in_order-members hit_cmp hit_total r (scored 0 scores)
      ∙ ap (λ d. list_any (eq_by_cmp hit_cmp (whole d)) (scored 0 scores)) first
      ∙ scored_has 0 r.document r.score scores is.score is.some

  pub is_ranking : IsRanking most scores (ranking most scores)
  unfolding all ranking
  is_ranking = record {
    scored = All-take (IsScored scores) most all (in_order-all hit_cmp (IsScored scores) (scored 0 scores) (each_scored scores 0 scores (λ i s is. let here : 0 + i ≡ i = omega arith in ap (slice_get scores) here ∙ is)));
    ordered = sorted_take hit_cmp most all all_sorted;
    count = length-take most all ∙ ap (min most) (length-in_order hit_cmp hit_total (scored 0 scores) (scored_once 0 scores) ∙ length-scored 0 scores);
    best = λ r is none.
        front_before hit_cmp (eq_by_cmp hit_cmp) decides r (take most all) (drop most all)
        (subst (IsStrictlySortedBy hit_cmp) (sym (take-append-drop most all)) all_sorted) (outside r is (no_member r (take most all) none));
  }

  -- documents with scores are one where their numbers are
  one_document : (r h : Ranked) → IsScored scores r → IsScored scores h → (h.document == r.document) ≡ true → eq_by_cmp hit_cmp r h ≡ true
  one_document r h is_r is_h same =
      let document : h.document ≡ r.document = eqb-true h.document r.document same in
      let one : Some h.score ≡ Some r.score = sym is_h.score ∙ ap (slice_get scores) document ∙ is_r.score in
      let score : h.score ≡ r.score = cc in
      let whole : ℕ → ℕ → Ranked = λ d s. record { document = d; score = s } in
      let equal : h ≡ r = ap (λ d. whole d h.score) document ∙ ap (whole r.document) score in
      ap (eq_by_cmp hit_cmp r) equal ∙ ap is_eq (tied_itself hit_total r)

  no_hit_at : (r h : Ranked) → IsScored scores r → IsScored scores h → eq_by_cmp hit_cmp r h ≡ false → (b : Bool) → (h.document == r.document) ≡ b → b ≡ false
  no_hit_at r h is_r is_h apart true same = absurd (true≢false (sym (one_document r h is_r is_h same) ∙ apart))
  no_hit_at r h is_r is_h apart false same = refl

  no_hit : (r : Ranked) → IsScored scores r → (hits : List Ranked) → All (IsScored scores) hits → list_any (eq_by_cmp hit_cmp r) hits ≡ false → list_any (λ h. h.document == r.document) hits ≡ false
  no_hit r is [] each out = refl
  no_hit r is (h ∷ hs) each out =
      let parts = or_parts (eq_by_cmp hit_cmp r h) (list_any (eq_by_cmp hit_cmp r) hs) out in
      or_from (h.document == r.document) (list_any (λ x. x.document == r.document) hs)
      (no_hit_at r h is (All-head (IsScored scores) h hs each) parts.0 (h.document == r.document) refl)
      (no_hit r is hs (All-tail (IsScored scores) h hs each) parts.1)

  -- one that only the other ranking has comes after each that only this one has
  comes_after : (hits others : List Ranked) → IsRanking most scores hits → IsRanking most scores others → (u w : Ranked)
      → list_any (eq_by_cmp hit_cmp u) others ≡ true → list_any (eq_by_cmp hit_cmp u) hits ≡ false → list_any (eq_by_cmp hit_cmp w) hits ≡ true → hit_cmp w u ≡ Less
  comes_after hits others left right u w there out here =
      let is : IsScored scores u = all_at hit_cmp (eq_by_cmp hit_cmp) decides (IsScored scores) u others right.scored there in
      all_at hit_cmp (eq_by_cmp hit_cmp) decides (λ h. hit_cmp h u ≡ Less) w hits (left.best u is (no_hit u is hits left.scored out)) here

  never : (w u : Ranked) → hit_cmp w u ≡ Less → hit_cmp u w ≡ Less → ⊥
  never w u one two = absurd (let both : Less ≡ Greater = sym one ∙ hit_total.antisymm w u ∙ ap ordering_reverse two in cc)

  pub one_ranking : (hits others : List Ranked) → IsRanking most scores hits → IsRanking most scores others → hits ≡ others
  one_ranking hits others left right =
      one_unless hit_cmp hit_total hit_exact hits others left.ordered right.ordered (left.count ∙ sym right.count)
      (λ u w there out here missing. never w u (comes_after hits others left right u w there out here) (comes_after others hits right left w u here missing there))

-- ---- the ranking as a set's keys keep it

kept_at : (most number s : ℕ) (old : List (Reverse ℕ × ℕ)) (ss : List ℕ) (b : Bool)
    → take most (fold (insert_key hit_cmp) (map shown (take most (cond b (insert_key key_cmp old (record { 0 = s }, number)) old))) (scored (number + 1) ss))
    ≡ take most (fold (insert_key hit_cmp) (map shown old) (cond b (record { document = number; score = s } ∷ scored (number + 1) ss) (scored (number + 1) ss)))
kept_at most number s old ss true =
    let k : Reverse ℕ × ℕ = (record { 0 = s }, number) in
    ap (λ a. take most (fold (insert_key hit_cmp) a (scored (number + 1) ss))) (sym (take-map shown most (insert_key key_cmp old k)) ∙ ap (take most) (map-insert_key key_cmp hit_cmp shown (λ x y. refl) old k))
    ∙ front_fold hit_cmp most (insert_key hit_cmp (map shown old) (shown k)) (scored (number + 1) ss)
kept_at most number s old ss false =
    ap (λ a. take most (fold (insert_key hit_cmp) a (scored (number + 1) ss))) (sym (take-map shown most old))
    ∙ front_fold hit_cmp most (map shown old) (scored (number + 1) ss)

-- a document that is put among the keys is put among the documents
pub kept_more : (most number s : ℕ) (old new : List (Reverse ℕ × ℕ)) (ss : List ℕ)
    → new ≡ take most (cond (nat_lt 0 s) (insert_key key_cmp old (record { 0 = s }, number)) old)
    → take most (fold (insert_key hit_cmp) (map shown new) (scored (number + 1) ss)) ≡ take most (fold (insert_key hit_cmp) (map shown old) (scored number (s ∷ ss)))
kept_more most number s old new ss is =
    ap (λ ks. take most (fold (insert_key hit_cmp) (map shown ks) (scored (number + 1) ss))) is ∙ kept_at most number s old ss (nat_lt 0 s)
