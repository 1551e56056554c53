-- Keys that are read pair by pair, and one after another.
use Rattle.std.proofs.Common.{◌≡◌, ℕ, ◌+◌, ◌*◌, ◌/◌, ◌%◌, ◌^◌, ◌<◌, ◌≤◌, refl, sym, ap, subst, ◌∙◌, arith, List, [], ◌∷◌, ◌++◌, length, length-append, get_or, take, map, append_assoc}
use Rattle.std.specs.Prelude.{All}
use Rattle.std.specs.List.{flat_map, range_with_len}
use Rattle.std.proofs.Math.Nat.{mul-le-mul_right}
use Rattle.std.proofs.lemmas.List.FromFn.{map-range_with_len_more}
use Rattle.std.proofs.lemmas.List.{take_more, length-take, append-nil, flat_map_more, map-append}
use Rattle.std.proofs.lemmas.List.Elements.{All-push}
use Rattle.std.proofs.lemmas.Nat.{pow_pos}
use Rattle.co_math.specs.Coefficients.{IsDegree}
use Rattle.co_noise.specs.Shapes.{Numbers, levels}
use Rattle.co_math.specs.Logarithms.{log2_up}
use Rattle.co_noise.specs.Bounds.{HasRoom}
use Rattle.co_rns.specs.Pairs.{IsWhole}
use Rattle.co_switch.specs.Keys.{Key, Keys, IsKey, AreKeysOf, key_degree, keys_degree, rotation_element, expansion_element}
use Rattle.co_switch.proofs.Elements.{half_of, levels-le}
use Rattle.co_wire.specs.Bodies.{polynomial_bytes, pairs_bytes, key_bytes}
use Rattle.co_wire.specs.Parts.{AreInRangeTo, SpellsBetween, AreReadPairs, AreReadKeys, IsSetRead}
use Rattle.co_wire.proofs.Fronts.{spells-none, spells-then, spells-to, spells-all}

-- one pair more
pub pairs-push : (xs ys : List (List ℕ)) (x y : List ℕ) → length ys ≡ length xs → pairs_bytes (xs ++ x ∷ []) (ys ++ y ∷ []) ≡ pairs_bytes xs ys ++ (polynomial_bytes x ++ polynomial_bytes y)
unfolding pairs_bytes
pairs-push [] [] x y len = ap (λ (zs : List ℕ). polynomial_bytes x ++ zs) (append-nil (polynomial_bytes y))
pairs-push [] (b ∷ bs) x y len = absurd (omega arith)
pairs-push (a ∷ xs) [] x y len = absurd (omega arith)
pairs-push (a ∷ xs) (b ∷ bs) x y len =
    ap (λ (zs : List ℕ). polynomial_bytes a ++ (polynomial_bytes b ++ zs)) (pairs-push xs bs x y (omega arith))
    ∙ ap (λ (zs : List ℕ). polynomial_bytes a ++ zs) (sym (append_assoc (polynomial_bytes b) (pairs_bytes xs bs) (polynomial_bytes x ++ polynomial_bytes y)))
    ∙ sym (append_assoc (polynomial_bytes a) (polynomial_bytes b ++ pairs_bytes xs bs) (polynomial_bytes x ++ polynomial_bytes y))

-- written: one digit more
pub pairs-more : (xs ys : List (List ℕ)) (k : ℕ) (before now mid last x y : List ℕ) → k < length xs → length ys ≡ length xs → now ≡ before ++ pairs_bytes (take k xs) (take k ys)
    → mid ≡ now ++ polynomial_bytes x → last ≡ mid ++ polynomial_bytes y → x ≡ get_or xs k [] → y ≡ get_or ys k [] → last ≡ before ++ pairs_bytes (take (k + 1) xs) (take (k + 1) ys)
pairs-more xs ys k before now mid last x y l len e f g a b =
    g ∙ ap (λ (zs : List ℕ). zs ++ polynomial_bytes y) f ∙ append_assoc now (polynomial_bytes x) (polynomial_bytes y)
    ∙ ap (λ (zs : List ℕ). zs ++ (polynomial_bytes x ++ polynomial_bytes y)) e ∙ append_assoc before (pairs_bytes (take k xs) (take k ys)) (polynomial_bytes x ++ polynomial_bytes y)
    ∙ (λ t. before ++ (pairs_bytes (take k xs) (take k ys) ++ (polynomial_bytes (a t) ++ polynomial_bytes (b t))))
    ∙ ap (λ (zs : List ℕ). before ++ zs) (sym (pairs-push (take k xs) (take k ys) (get_or xs k []) (get_or ys k []) (omega (arith, length-take k xs, length-take k ys, len)))
    ∙ (λ t. pairs_bytes (sym (take_more xs k [] l) t) (sym (take_more ys k [] (omega (arith, len))) t)))

-- ---- pairs

pub no-pairs : (n start : ℕ) (k0 k1 : List (List ℕ)) (body : List ℕ) → k0 ≡ [] → k1 ≡ [] → AreInRangeTo body start → AreReadPairs n start 0 start k0 k1 body
unfolding pairs_bytes
no-pairs n start k0 k1 body e f range =
    subst (λ (xs : List (List ℕ)). AreReadPairs n start 0 start xs k1 body) (sym e)
    (subst (λ (xs : List (List ℕ)). AreReadPairs n start 0 start [] xs body) (sym f)
    (record {
      at_is = omega arith;
      first_count = refl;
      second_count = refl;
      first_degree = λ i d l. absurd (omega arith);
      second_degree = λ i d l. absurd (omega arith);
      first_whole = λ i d l. absurd (omega arith);
      second_whole = λ i d l. absurd (omega arith);
      spelled = spells-none start body;
      in_range = range;
    }))

-- there is room for one more, at an even place
pub pair-room : (n start i at long : ℕ) → at ≡ start + i * (4 * n) → i < 6 → 7 * (start + 24 * n) ≤ long → 7 * (at + 4 * n) ≤ long
pair-room n start i at long e l room =
    let few : i ≤ 5 = omega arith in
    omega (arith, e, room, mul-le-mul_right (4 * n) few)

pub even-at : (n start i at : ℕ) → at ≡ start + i * (4 * n) → start % 2 ≡ 0 → at % 2 ≡ 0
even-at n start i at e even = omega (arith, e, even)

-- there is room for one part more of so many, and the next part begins at an even place
pub part-room : (size i at count start long : ℕ) → at ≡ start + i * size → i < count → 7 * (start + count * size) ≤ long → 7 * (at + size) ≤ long
part-room size i at count start long e l room =
    let next : i + 1 ≤ count = omega arith in
    omega (arith, e, room, mul-le-mul_right size next)

pub key-even : (n start i at : ℕ) → at ≡ start + i * (24 * n) → start % 2 ≡ 0 → at % 2 ≡ 0
key-even n start i at e even = omega (arith, e, even)

pub one-pair : (n start i at mid end next : ℕ) (k0 k1 after0 after1 : List (List ℕ)) (x y body : List ℕ) → AreReadPairs n start i at k0 k1 body → mid ≡ at + 2 * n → end ≡ mid + 2 * n → next ≡ end
    → after0 ≡ k0 ++ x ∷ [] → after1 ≡ k1 ++ y ∷ [] → length x ≡ n → length y ≡ n → IsWhole x → IsWhole y
    → SpellsBetween at mid (polynomial_bytes x) body → SpellsBetween mid end (polynomial_bytes y) body → AreInRangeTo body end → AreReadPairs n start (i + 1) next after0 after1 body
one-pair n start i at mid end next k0 k1 after0 after1 x y body h mid_is end_is next_is e f lx ly wx wy sx sy range = record {
  at_is = omega (arith, h.at_is, mid_is, end_is, next_is);
  first_count = omega (arith, ap length e, length-append k0 (x ∷ []), h.first_count);
  second_count = omega (arith, ap length f, length-append k1 (y ∷ []), h.second_count);
  first_degree = subst (All (λ p. length p ≡ n)) (sym e) (All-push (λ p. length p ≡ n) k0 x h.first_degree lx);
  second_degree = subst (All (λ p. length p ≡ n)) (sym f) (All-push (λ p. length p ≡ n) k1 y h.second_degree ly);
  first_whole = subst (All IsWhole) (sym e) (All-push IsWhole k0 x h.first_whole wx);
  second_whole = subst (All IsWhole) (sym f) (All-push IsWhole k1 y h.second_whole wy);
  spelled = spells-to start end next (pairs_bytes after0 after1) body (sym next_is)
      (subst (λ (zs : List ℕ). SpellsBetween start end zs body) pushed
      (spells-then start at end (pairs_bytes k0 k1) (polynomial_bytes x ++ polynomial_bytes y) body h.spelled (spells-then at mid end (polynomial_bytes x) (polynomial_bytes y) body sx sy)));
  in_range = subst (AreInRangeTo body) (sym next_is) range;
}
  where
    pushed : pairs_bytes k0 k1 ++ (polynomial_bytes x ++ polynomial_bytes y) ≡ pairs_bytes after0 after1
    pushed = sym (pairs-push k0 k1 x y (h.second_count ∙ sym h.first_count)) ∙ (λ t. pairs_bytes (sym e t) (sym f t))

-- the degree of the key of all pairs, and that it is a key
pub pairs-degree : (n element start at : ℕ) (k0 k1 : List (List ℕ)) (body : List ℕ) → AreReadPairs n start 6 at k0 k1 body → key_degree (record { element = element; k0 = k0; k1 = k1 }) ≡ n
pairs-degree n element start at k0 k1 body h = h.first_degree 0 [] (omega (arith, h.first_count))

pub pairs-key : (n element start at : ℕ) (k0 k1 : List (List ℕ)) (body : List ℕ) → AreReadPairs n start 6 at k0 k1 body → element % 2 ≡ 1 → element < 2 * n → IsKey (record { element = element; k0 = k0; k1 = k1 })
pairs-key n element start at k0 k1 body h odd within =
    let degree = pairs-degree n element start at k0 k1 body h in
    record {
      degree = (h.first_whole 0 [] (omega (arith, h.first_count))).degree;
      k0_count = h.first_count;
      k1_count = h.second_count;
      k0_degree = λ i d l. h.first_degree i d l ∙ sym degree;
      k1_degree = λ i d l. h.second_degree i d l ∙ sym degree;
      k0_whole = h.first_whole;
      k1_whole = h.second_whole;
      odd = odd;
      within = omega (arith, within, degree);
    }

-- ---- keys

pub two_at_least : (n : ℕ) → IsDegree n → 2 ≤ n
two_at_least n d = let h = half_of n d in omega (arith, h.is, pow_pos h.exponent)

pub no-keys : (n : ℕ) (element : ℕ → ℕ) (start : ℕ) (keys : List Key) (body : List ℕ) → keys ≡ [] → AreInRangeTo body start → AreReadKeys n element start 0 start keys body
no-keys n element start keys body e range = subst (λ (ks : List Key). AreReadKeys n element start 0 start ks body) (sym e) (record {
  at_is = omega arith;
  keys_are = record {
    count_is = refl;
    each = λ i d l. absurd (omega arith);
    degree = λ i d l. absurd (omega arith);
    elements = refl;
  };
  spelled = spells-none start body;
  in_range = range;
})

pub one-key : (n : ℕ) (element : ℕ → ℕ) (start i at next : ℕ) (keys after : List Key) (key : Key) (body : List ℕ) → AreReadKeys n element start i at keys body → next ≡ at + 24 * n → after ≡ keys ++ key ∷ []
    → key.element ≡ element i → key_degree key ≡ n → IsKey key → SpellsBetween at (at + 24 * n) (key_bytes key) body → AreInRangeTo body (at + 24 * n) → AreReadKeys n element start (i + 1) next after body
one-key n element start i at next keys after key body h next_is e el degree is spelled range = record {
  at_is = omega (arith, h.at_is, next_is);
  keys_are = record {
    count_is = omega (arith, ap length e, length-append keys (key ∷ []), h.keys_are.count_is);
    each = subst (All IsKey) (sym e) (All-push IsKey keys key h.keys_are.each is);
    degree = subst (All (λ k. key_degree k ≡ n)) (sym e) (All-push (λ k. key_degree k ≡ n) keys key h.keys_are.degree degree);
    elements = ap (map (λ k. k.element)) e ∙ map-append (λ k. k.element) keys (key ∷ []) ∙ (λ t. h.keys_are.elements t ++ el t ∷ []) ∙ sym (map-range_with_len_more element 0 i i (omega arith));
  };
  spelled = spells-to start (at + 24 * n) next (flat_map key_bytes after) body (sym next_is)
      (spelled ∙ ap (λ (zs : List ℕ). zs ++ key_bytes key) h.spelled ∙ flat_map_more key_bytes (take (7 * start) body) keys key ∙ ap (λ (ks : List Key). take (7 * start) body ++ flat_map key_bytes ks) (sym e));
  in_range = subst (AreInRangeTo body) (sym next_is) range;
}

-- ---- the set

-- a tested shape has at most one level more than rotation keys
pub few_levels : (s : Numbers) (n : ℕ) → n ≡ s.degree → IsDegree n → HasRoom s → levels s ≤ log2_up (n / 2) + 1
few_levels s n e d room =
    let h = half_of s.degree (subst IsDegree e d) in
    let log : log2_up (n / 2) ≡ h.exponent = ap (λ (m : ℕ). log2_up (m / 2)) e ∙ h.log in
    omega (arith, levels-le s h room, log)

pub set-read : (n turns more mid end : ℕ) (keys : Keys) (body : List ℕ) → IsDegree n → turns ≡ log2_up (n / 2) → more ≤ turns + 1 → length body ≡ (turns + more) * (6 * (28 * n))
    → AreReadKeys n (rotation_element n) 0 turns mid keys.rotations body → AreReadKeys n (expansion_element n) mid more end keys.expansions body → IsSetRead n more keys body
set-read n turns more mid end keys body d turns_are few long r x = record {
  set = record {
    degree = subst IsDegree (sym same) d;
    rotations = subst (λ (m : ℕ). AreKeysOf m (rotation_element m) keys.rotations) (sym same)
        (record { each = r.keys_are.each; degree = r.keys_are.degree; elements = r.keys_are.elements ∙ ap (λ (k : ℕ). map (rotation_element n) (range_with_len 0 k)) (sym r.keys_are.count_is) });
    expansions = subst (λ (m : ℕ). AreKeysOf m (expansion_element m) keys.expansions) (sym same)
        (record { each = x.keys_are.each; degree = x.keys_are.degree; elements = x.keys_are.elements ∙ ap (λ (k : ℕ). map (expansion_element n) (range_with_len 0 k)) (sym x.keys_are.count_is) });
    few_expansions = omega (arith, few, r.keys_are.count_is, x.keys_are.count_is);
  };
  degree = same;
  level_count = x.keys_are.count_is;
  spelled = spells-all end (flat_map key_bytes keys.rotations ++ flat_map key_bytes keys.expansions) body (ends turns more n mid end (length body) r.at_is x.at_is long)
      (spells-then 0 mid end (flat_map key_bytes keys.rotations) (flat_map key_bytes keys.expansions) body r.spelled x.spelled);
}
  where
    same : keys_degree keys ≡ n
    same = let h = half_of n d in ap (λ (k : ℕ). 2 * 2 ^ k) (r.keys_are.count_is ∙ turns_are ∙ h.log) ∙ sym h.is

    ends : (turns more n mid end long : ℕ) → mid ≡ 0 + turns * (24 * n) → end ≡ mid + more * (24 * n) → long ≡ (turns + more) * (6 * (28 * n)) → 7 * end ≡ long
    ends turns more n mid end long e f g =
        let split : (turns + more) * (6 * (28 * n)) ≡ turns * (168 * n) + more * (168 * n) = omega arith in
        omega (arith, e, f, g, split)
