-- A body that spells ciphertexts or keys has its length, and its residues are in range.
use Rattle.std.proofs.Common.{◌≡◌, ℕ, zero, suc, ◌+◌, ◌*◌, ◌/◌, ◌%◌, ◌^◌, ◌<◌, cond, eqb, get_or, refl, sym, ap, subst, ◌∙◌, arith, List, [], ◌∷◌, ◌++◌, length, take, drop, append_assoc}
use Rattle.std.specs.Prelude.{All}
use Rattle.std.specs.List.{flat_map}
use Rattle.std.specs.Int.{w64, from_le_bytes}
use Rattle.std.proofs.lemmas.List.{take_at, drop_at, drop-drop, length-append}
use Rattle.std.proofs.lemmas.List.Concat.{flat_map-cons}
use Rattle.std.proofs.lemmas.List.Elements.{All-head, All-tail}
use Rattle.std.proofs.lemmas.Grind.{flat_map-append}
use Rattle.std.proofs.Math.Nat.{mod-lt, add-mod_left}
use Rattle.co_math.specs.Coefficients.{IsDegree}
use Rattle.co_math.specs.Parameters.{first_modulus, second_modulus}
use Rattle.co_math.specs.Logarithms.{log2_up}
use Rattle.co_bfv.specs.Ciphertexts.{Ciphertext, IsCiphertext, ciphertext_degree}
use Rattle.co_noise.specs.Shapes.{Numbers, levels}
use Rattle.co_switch.specs.Keys.{Key, Keys, IsKey, key_degree, keys_degree}
use Rattle.co_switch.proofs.Elements.{half_of}
use Rattle.co_wire.specs.declared.fault.WireFault.{WireFault}
use Rattle.co_wire.specs.declared.fault.WireFault.TheVariants.{Length, Range, Public, OutOfMemory}
use Rattle.co_wire.specs.Bodies.{residue_bytes, coefficient_bytes, polynomial_bytes, cipher_bytes, pairs_bytes, key_bytes, SpellsCiphers, SpellsKeys, residue_at, modulus_at}
use Rattle.co_wire.specs.BadBodies.{IsBadBody}
use Rattle.co_wire.proofs.One_value.{length-residue, length-coefficient, residue-again, power-one}

-- ---- residues

residue-here : (r : ℕ) (behind : List ℕ) → r < 2 ^ 56 → residue_at (residue_bytes r ++ behind) 0 ≡ r
unfolding residue_at
residue-here r behind small = ap (λ (ys : List ℕ). from_le_bytes w64 (ys ++ 0 ∷ [])) (take_at (residue_bytes r) behind 7 (length-residue r)) ∙ residue-again r small

residue-behind : (front behind : List ℕ) (k i : ℕ) → length front ≡ 7 * k → residue_at (front ++ behind) (k + i) ≡ residue_at behind i
unfolding residue_at
residue-behind front behind k i long =
    let split : 7 * (k + i) ≡ 7 * k + 7 * i = omega arith in
    ap (λ (ys : List ℕ). from_le_bytes w64 (take 7 ys ++ 0 ∷ []))
    (ap (λ (m : ℕ). drop m (front ++ behind)) split ∙ sym (drop-drop (7 * i) (7 * k) (front ++ behind)) ∙ ap (drop (7 * i)) (drop_at front behind (7 * k) long))

modulus-turns : (i : ℕ) → modulus_at (2 + i) ≡ modulus_at i
modulus-turns i = ap (λ (r : ℕ). cond (eqb r 0) first_modulus second_modulus) (add-mod_left 2 i)

polynomial-front : (x : ℕ) (xs : List ℕ) → polynomial_bytes (x ∷ xs) ≡ coefficient_bytes x ++ polynomial_bytes xs
unfolding polynomial_bytes
polynomial-front x xs = flat_map-cons coefficient_bytes x xs

polynomial-none : polynomial_bytes [] ≡ []
unfolding polynomial_bytes
polynomial-none = refl

residues-below : (xs : List ℕ) (i : ℕ) → i < 2 * length xs → residue_at (polynomial_bytes xs) i < modulus_at i
residues-below [] i l = absurd (omega arith)
residues-below (x ∷ xs) zero l =
    let small : x % first_modulus < first_modulus = mod-lt x (omega arith) in
    let front = polynomial-front x xs ∙ append_assoc (residue_bytes (x % first_modulus)) (residue_bytes (x % second_modulus)) (polynomial_bytes xs) in
    let is = ap (λ (ys : List ℕ). residue_at ys 0) front ∙ residue-here (x % first_modulus) (residue_bytes (x % second_modulus) ++ polynomial_bytes xs) (omega (arith, small)) in
    subst (λ (r : ℕ). r < first_modulus) (sym is) small
residues-below (x ∷ xs) (suc zero) l =
    let small : x % second_modulus < second_modulus = mod-lt x (omega arith) in
    let front = polynomial-front x xs ∙ append_assoc (residue_bytes (x % first_modulus)) (residue_bytes (x % second_modulus)) (polynomial_bytes xs) in
    let is = ap (λ (ys : List ℕ). residue_at ys 1) front
    ∙ residue-behind (residue_bytes (x % first_modulus)) (residue_bytes (x % second_modulus) ++ polynomial_bytes xs) 1 0 (length-residue (x % first_modulus))
    ∙ residue-here (x % second_modulus) (polynomial_bytes xs) (omega (arith, small)) in
    subst (λ (r : ℕ). r < second_modulus) (sym is) small
residues-below (x ∷ xs) (suc (suc i)) l =
    let next : suc (suc i) ≡ 2 + i = omega arith in
    let is = ap (λ (ys : List ℕ). residue_at ys (2 + i)) (polynomial-front x xs) ∙ residue-behind (coefficient_bytes x) (polynomial_bytes xs) 2 i (length-coefficient x) in
    subst (λ (k : ℕ). residue_at (polynomial_bytes (x ∷ xs)) k < modulus_at k) (sym next)
    (subst (λ (r : ℕ). r < modulus_at (2 + i)) (sym is) (subst (λ (m : ℕ). residue_at (polynomial_bytes xs) i < m) (sym (modulus-turns i)) (residues-below xs i (omega arith))))

pub length-polynomial : (xs : List ℕ) → length (polynomial_bytes xs) ≡ 14 * length xs
length-polynomial [] = ap length polynomial-none
length-polynomial (x ∷ xs) = omega (arith, ap length (polynomial-front x xs), length-append (coefficient_bytes x) (polynomial_bytes xs), length-coefficient x, length-polynomial xs)

-- a body of coefficients has no fault
good-body : (size : ℕ) (body xs : List ℕ) (fault : WireFault) → body ≡ polynomial_bytes xs → size ≡ 14 * length xs → IsBadBody size body fault → fault ≡ OutOfMemory
good-body size body xs (Length wanted found) is long h = let real = ap length is ∙ length-polynomial xs in absurd (h.2 (omega (arith, h.0, h.1, real, long)))
good-body size body xs (Range place) is long h =
    let first = h.1 in
    let within : first.which < 2 * length xs = omega (arith, first.is, first.within, ap length is, length-polynomial xs) in
    let below = subst (λ (ys : List ℕ). residue_at ys first.which < modulus_at first.which) (sym is) (residues-below xs first.which within) in
    absurd (omega (arith, below, first.here))
good-body size body xs (Public place) is long h = absurd h
good-body size body xs OutOfMemory is long h = refl

-- ---- bodies of many parts

joined : (xs ys : List ℕ) → polynomial_bytes xs ++ polynomial_bytes ys ≡ polynomial_bytes (xs ++ ys)
unfolding polynomial_bytes
joined xs ys = sym (flat_map-append coefficient_bytes xs ys)

spelled-by : {X : Type 0} (spell part : X → List ℕ) → ((x : X) → spell x ≡ polynomial_bytes (part x)) → (xs : List X) → flat_map spell xs ≡ polynomial_bytes (flat_map part xs)
spelled-by spell part each [] = sym polynomial-none
spelled-by spell part each (x ∷ xs) =
    flat_map-cons spell x xs ∙ (λ t. each x t ++ spelled-by spell part each xs t) ∙ joined (part x) (flat_map part xs) ∙ ap polynomial_bytes (sym (flat_map-cons part x xs))

length-parts : {X : Type 0} (part : X → List ℕ) (k : ℕ) (xs : List X) → All (λ x. length (part x) ≡ k) xs → length (flat_map part xs) ≡ length xs * k
length-parts part k [] h = omega arith
length-parts part k (x ∷ xs) h =
    omega (arith, ap length (flat_map-cons part x xs), length-append (part x) (flat_map part xs), All-head (λ y. length (part y) ≡ k) x xs h, length-parts part k xs (All-tail (λ y. length (part y) ≡ k) x xs h))

abbrev cipher_part : Ciphertext → List ℕ
cipher_part c = c.c0 ++ c.c1

parts-long : (n : ℕ) (cs : List Ciphertext) → All IsCiphertext cs → All (λ c. ciphertext_degree c ≡ n) cs → All (λ c. length (cipher_part c) ≡ 2 * n) cs
parts-long n cs a b i d l = omega (arith, length-append (get_or cs i d).c0 (get_or cs i d).c1, (a i d l).one_degree, b i d l)

pub good-list : (n count : ℕ) (cs : List Ciphertext) (body : List ℕ) (fault : WireFault) → SpellsCiphers n count cs body → IsBadBody (count * (28 * n)) body fault → fault ≡ OutOfMemory
good-list n count cs body fault h =
    let long = length-parts cipher_part (2 * n) cs (parts-long n cs h.ciphers.ciphers h.ciphers.degrees) in
    let size : count * (28 * n) ≡ 14 * (length cs * (2 * n)) = ap (λ (k : ℕ). k * (28 * n)) (sym h.ciphers.count_is) ∙ omega arith in
    good-body (count * (28 * n)) body (flat_map cipher_part cs) fault (h.spelled ∙ spelled-by cipher_bytes cipher_part (λ c. joined c.c0 c.c1) cs) (size ∙ ap (λ (k : ℕ). 14 * k) (sym long))

-- ---- key sets

abbrev pairs_part : List (List ℕ) → List (List ℕ) → List ℕ
pairs_part [] ys = []
pairs_part (x ∷ xs) [] = []
pairs_part (x ∷ xs) (y ∷ ys) = x ++ (y ++ pairs_part xs ys)

pairs-spelled : (xs ys : List (List ℕ)) → pairs_bytes xs ys ≡ polynomial_bytes (pairs_part xs ys)
unfolding pairs_bytes polynomial_bytes
pairs-spelled [] ys = refl
pairs-spelled (x ∷ xs) [] = refl
pairs-spelled (x ∷ xs) (y ∷ ys) =
    ap (λ (zs : List ℕ). polynomial_bytes x ++ (polynomial_bytes y ++ zs)) (pairs-spelled xs ys) ∙ ap (λ (zs : List ℕ). polynomial_bytes x ++ zs) (joined y (pairs_part xs ys)) ∙ joined x (y ++ pairs_part xs ys)

pairs-long : (n : ℕ) (xs ys : List (List ℕ)) → length ys ≡ length xs → All (λ p. length p ≡ n) xs → All (λ p. length p ≡ n) ys → length (pairs_part xs ys) ≡ length xs * (2 * n)
pairs-long n [] ys l a b = omega arith
pairs-long n (x ∷ xs) [] l a b = absurd (omega arith)
pairs-long n (x ∷ xs) (y ∷ ys) l a b =
    let P = λ (p : List ℕ). length p ≡ n in
    omega (arith, length-append x (y ++ pairs_part xs ys), length-append y (pairs_part xs ys), All-head P x xs a, All-head P y ys b, pairs-long n xs ys (omega arith) (All-tail P x xs a) (All-tail P y ys b))

abbrev key_part : Key → List ℕ
key_part key = pairs_part key.k0 key.k1

keys-long : (n : ℕ) (keys : List Key) → All IsKey keys → All (λ k. key_degree k ≡ n) keys → All (λ k. length (key_part k) ≡ 12 * n) keys
keys-long n keys a b i d l =
    let key = get_or keys i d in
    let is = a i d l in
    let long = pairs-long (key_degree key) key.k0 key.k1 (is.k1_count ∙ sym is.k0_count) is.k0_degree is.k1_degree in
    long ∙ (λ t. is.k0_count t * (2 * b i d l t)) ∙ omega arith

pub good-keys : (s : Numbers) (keys : Keys) (body : List ℕ) (fault : WireFault) → SpellsKeys s keys body → IsBadBody ((log2_up (s.degree / 2) + levels s) * (6 * (28 * s.degree))) body fault → fault ≡ OutOfMemory
good-keys s keys body fault h =
    let n = s.degree in
    let is = h.keys_for in
    let at = λ (ks : List Key) (a : All IsKey ks) (b : All (λ k. key_degree k ≡ keys_degree keys) ks). length-parts key_part (12 * n) ks (keys-long n ks a (subst (λ (m : ℕ). All (λ k. key_degree k ≡ m) ks) is.degree b)) in
    let turns = at keys.rotations is.set.rotations.each is.set.rotations.degree in
    let expansions = at keys.expansions is.set.expansions.each is.set.expansions.degree in
    let half = half_of n (subst IsDegree is.degree is.set.degree) in
    let many : log2_up (n / 2) ≡ length keys.rotations = half.log ∙ power-one half.exponent (length keys.rotations) (sym half.is ∙ sym is.degree) in
    let size : (log2_up (n / 2) + levels s) * (6 * (28 * n)) ≡ 14 * (length keys.rotations * (12 * n) + length keys.expansions * (12 * n)) = (λ t. (many t + sym is.level_count t) * (6 * (28 * n))) ∙ omega arith in
    let all = length-append (flat_map key_part keys.rotations) (flat_map key_part keys.expansions) ∙ (λ t. turns t + expansions t) in
    good-body ((log2_up (n / 2) + levels s) * (6 * (28 * n))) body (flat_map key_part keys.rotations ++ flat_map key_part keys.expansions) fault
    (h.spelled ∙ (λ t. spelled-by key_bytes key_part (λ k. pairs-spelled k.k0 k.k1) keys.rotations t ++ spelled-by key_bytes key_part (λ k. pairs-spelled k.k0 k.k1) keys.expansions t) ∙ joined (flat_map key_part keys.rotations) (flat_map key_part keys.expansions))
    (size ∙ ap (λ (k : ℕ). 14 * k) (sym all))
