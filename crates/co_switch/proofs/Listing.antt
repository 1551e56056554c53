-- Lists of drawn keys, and the set of them.
use Rattle.std.proofs.Common.{◌≡◌, ℕ, zero, suc, ◌+◌, ◌*◌, ◌/◌, ◌%◌, ◌^◌, ◌<◌, ◌≤◌, refl, sym, ap, subst, ◌∙◌, arith, ℤ, List, [], ◌∷◌, ◌++◌, map, length, All, length-append, add-one}
use Rattle.std.specs.List.{range_with_len}
use Rattle.std.proofs.lemmas.Nat.{pow_pos}
use Rattle.std.proofs.lemmas.List.{map-append}
use Rattle.std.proofs.lemmas.List.FromFn.{map-range_with_len_more}
use Rattle.std.proofs.lemmas.List.Elements.{All-nil, All-push}
use Rattle.rand_core.specs.Stream.{Stream}
use Rattle.co_math.specs.Coefficients.{IsDegree, signed_coefficients}
use Rattle.co_math.specs.Logarithms.{log2_up}
use Rattle.co_switch.specs.Keys.{Key, Keys, IsKey, IsGoodKey, AreKeysOf, AreKeys, AreGoodKeys, key_degree, keys_degree, rotation_element, expansion_element}
use Rattle.co_switch.specs.Draws.{key_draw, keys_draw, key_set_draw}
use Rattle.co_switch.proofs.Hiding.{degree-key_draw, element-key_draw, key_draw-IsKey, key_draw-good}
use Rattle.co_switch.proofs.Elements.{Half, rotation_element-odd, rotation_element-lt, expansion_element-odd, expansion_element-lt}

-- one more drawn key
pub keys_more : (secret : List ℤ) (element : ℕ → ℕ) (i : ℕ) (start now later : Stream) (keys more : List Key) (key : Key) (g : ℕ) → (keys, now) ≡ keys_draw secret element i start
    → g ≡ element i → key ≡ (key_draw secret g now).0 → later ≡ (key_draw secret g now).1 → more ≡ keys ++ key ∷ [] → (more, later) ≡ keys_draw secret element (i + 1) start
unfolding keys_draw
keys_more secret element i start now later keys more key g e eg ek el em =
    (λ t. ((em ∙ ap (λ k. keys ++ k ∷ []) (ek ∙ ap (λ m. (key_draw secret m now).0) eg)) t, (el ∙ ap (λ m. (key_draw secret m now).1) eg) t))
    ∙ ap (λ (p : List Key × Stream). (p.0 ++ (key_draw secret (element i) p.1).0 ∷ [], (key_draw secret (element i) p.1).1)) e
    ∙ ap (λ m. keys_draw secret element m start) (sym (add-one i))

pub no_keys : (secret : List ℤ) (element : ℕ → ℕ) (start : Stream) (keys : List Key) → keys ≡ [] → (keys, start) ≡ keys_draw secret element 0 start
unfolding keys_draw
no_keys secret element start keys e = λ t. (e t, start)

-- the first drawn keys: that they are keys, their number, degree and elements, and that they are good
pub record AreDrawn (secret : List ℤ) (element : ℕ → ℕ) (i : ℕ) (keys : List Key) : Type 0 where
  pub count : length keys ≡ i
  pub each : All IsKey keys
  pub degree : All (λ key. key_degree key ≡ length secret) keys
  pub elements : map (λ key. key.element) keys ≡ map element (range_with_len 0 i)
  pub good : All (IsGoodKey (signed_coefficients secret)) keys

pub keys_drawn : (secret : List ℤ) (element : ℕ → ℕ) (i : ℕ) (start : Stream) → IsDegree (length secret) → ((j : ℕ) → j < i → element j % 2 ≡ 1) → ((j : ℕ) → j < i → element j < 2 * length secret)
    → AreDrawn secret element i (keys_draw secret element i start).0
unfolding keys_draw
keys_drawn secret element zero start d odd within = record { count = refl; each = All-nil IsKey; degree = All-nil (λ key. key_degree key ≡ length secret); elements = refl; good = All-nil (IsGoodKey (signed_coefficients secret)) }
keys_drawn secret element (suc i) start d odd within =
    let before = keys_draw secret element i start in
    let h = keys_drawn secret element i start d (λ j l. odd j (omega arith)) (λ j l. within j (omega arith)) in
    let g = element i in
    let o = odd i (omega arith) in
    let key = (key_draw secret g before.1).0 in
    record {
      count = omega (arith, length-append before.0 (key ∷ []), h.count);
      each = All-push IsKey before.0 key h.each (key_draw-IsKey secret g before.1 d o (within i (omega arith)));
      degree = All-push (λ key. key_degree key ≡ length secret) before.0 key h.degree (degree-key_draw secret g before.1 d o);
      elements =
          map-append (λ key. key.element) before.0 (key ∷ [])
          ∙ (λ t. h.elements t ++ element-key_draw secret g before.1 d o t ∷ [])
          ∙ sym (map-range_with_len_more element 0 i i (omega arith))
          ∙ ap (λ m. map element (range_with_len 0 m)) (add-one i);
      good = All-push (IsGoodKey (signed_coefficients secret)) before.0 key h.good (key_draw-good secret g before.1 d o);
    }

listed : (n : ℕ) (secret : List ℤ) (element other : ℕ → ℕ) (i : ℕ) (keys : List Key) → AreDrawn secret element i keys → length secret ≡ n → other ≡ element → AreKeysOf n other keys
listed n secret element other i keys h e f = record {
  each = h.each;
  degree = subst (λ (m : ℕ). All (λ key. key_degree key ≡ m) keys) e h.degree;
  elements = h.elements ∙ (λ t. map (sym f t) (range_with_len 0 (sym h.count t)));
}

pub record HasCounts (n levels : ℕ) (keys : Keys) : Type 0 where
  pub rotations : length keys.rotations ≡ log2_up (n / 2)
  pub expansions : length keys.expansions ≡ levels
  pub degree : keys_degree keys ≡ n

module _ (secret : List ℤ) (d : IsDegree (length secret)) (levels : ℕ) (h : Half (length secret)) (few : levels ≤ h.exponent + 1) where
  two : 2 ≤ length secret
  two = omega (arith, h.is, pow_pos h.exponent)

  pub rotations_drawn : (start : Stream) → AreDrawn secret (rotation_element (length secret)) (log2_up (length secret / 2)) (keys_draw secret (rotation_element (length secret)) (log2_up (length secret / 2)) start).0
  rotations_drawn start = keys_drawn secret (rotation_element (length secret)) (log2_up (length secret / 2)) start d (λ j l. rotation_element-odd (length secret) j) (λ j l. rotation_element-lt (length secret) j (omega (arith, two)))

  pub expansions_drawn : (start : Stream) → AreDrawn secret (expansion_element (length secret)) levels (keys_draw secret (expansion_element (length secret)) levels start).0
  expansions_drawn start = keys_drawn secret (expansion_element (length secret)) levels start d (λ j l. expansion_element-odd (length secret) j h (omega (arith, few))) (λ j l. expansion_element-lt (length secret) j two)

  -- the drawn set is one
  pub key_set_draw-AreKeys : (start : Stream) → AreKeys (key_set_draw secret levels start).0
  unfolding key_set_draw
  key_set_draw-AreKeys start =
      let r = keys_draw secret (rotation_element (length secret)) (log2_up (length secret / 2)) start in
      let x = keys_draw secret (expansion_element (length secret)) levels r.1 in
      let a = rotations_drawn start in
      let b = expansions_drawn r.1 in
      let n : 2 * 2 ^ length r.0 ≡ length secret = ap (λ m. 2 * 2 ^ m) (a.count ∙ h.log) ∙ sym h.is in
      record {
        degree = subst IsDegree (sym n) d;
        rotations = listed (2 * 2 ^ length r.0) secret (rotation_element (length secret)) (rotation_element (2 * 2 ^ length r.0)) (log2_up (length secret / 2)) r.0 a (sym n) (ap rotation_element n);
        expansions = listed (2 * 2 ^ length r.0) secret (expansion_element (length secret)) (expansion_element (2 * 2 ^ length r.0)) levels x.0 b (sym n) (ap expansion_element n);
        few_expansions = omega (arith, a.count, b.count, h.log, few);
      }

  pub key_set_draw-good : (start : Stream) → AreGoodKeys (signed_coefficients secret) (key_set_draw secret levels start).0
  unfolding key_set_draw
  key_set_draw-good start =
      let r = keys_draw secret (rotation_element (length secret)) (log2_up (length secret / 2)) start in
      let a = rotations_drawn start in
      let b = expansions_drawn r.1 in
      record { rotations = a.good; expansions = b.good }

  -- how many there are, and of which degree
  pub key_set_draw-counts : (start : Stream) → HasCounts (length secret) levels (key_set_draw secret levels start).0
  unfolding key_set_draw
  key_set_draw-counts start =
      let r = keys_draw secret (rotation_element (length secret)) (log2_up (length secret / 2)) start in
      let a = rotations_drawn start in
      let b = expansions_drawn r.1 in
      record { rotations = a.count; expansions = b.count; degree = ap (λ m. 2 * 2 ^ m) (a.count ∙ h.log) ∙ sym h.is }

-- ---- for callers: the keys of a set, one by one

-- both lists are the drawn set
pub set_made : (secret : List ℤ) (levels count : ℕ) (start middle rest : Stream) (rotations expansions : List Key) → count ≡ levels
    → rotations ≡ (keys_draw secret (rotation_element (length secret)) (log2_up (length secret / 2)) start).0 → middle ≡ (keys_draw secret (rotation_element (length secret)) (log2_up (length secret / 2)) start).1
    → expansions ≡ (keys_draw secret (expansion_element (length secret)) count middle).0 → rest ≡ (keys_draw secret (expansion_element (length secret)) count middle).1
    → (record { rotations = rotations; expansions = expansions }, rest) ≡ key_set_draw secret levels start
unfolding key_set_draw
set_made secret levels count start middle rest rotations expansions el er em ex es =
    λ t. (record { rotations = er t; expansions = (ex ∙ (λ u. (keys_draw secret (expansion_element (length secret)) (el u) (em u)).0)) t }, (es ∙ (λ u. (keys_draw secret (expansion_element (length secret)) (el u) (em u)).1)) t)
