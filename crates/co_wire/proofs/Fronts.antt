-- Parts of a body, from the front on.
use Rattle.std.proofs.Common.{◌≡◌, ℕ, ◌*◌, sym, ap, subst, ◌∙◌, arith, List, [], ◌++◌, length, take, append_assoc}
use Rattle.std.proofs.lemmas.List.{take_all, append-nil}
use Rattle.co_wire.specs.Parts.{AreInRangeTo, SpellsBetween}

pub range-none : (body : List ℕ) → AreInRangeTo body 0
range-none body k below = absurd (omega arith)

pub range-at : (body : List ℕ) (i j : ℕ) → i ≡ j → AreInRangeTo body i → AreInRangeTo body j
range-at body i j e h = subst (AreInRangeTo body) e h

-- nothing is spelled between a place and itself
pub spells-none : (i : ℕ) (body : List ℕ) → SpellsBetween i i [] body
spells-none i body = sym (append-nil (take (7 * i) body))

-- one part behind another
pub spells-then : (i j k : ℕ) (x y body : List ℕ) → SpellsBetween i j x body → SpellsBetween j k y body → SpellsBetween i k (x ++ y) body
spells-then i j k x y body p q = q ∙ ap (λ (zs : List ℕ). zs ++ y) p ∙ append_assoc (take (7 * i) body) x y

pub spells-to : (i j k : ℕ) (x body : List ℕ) → j ≡ k → SpellsBetween i j x body → SpellsBetween i k x body
spells-to i j k x body e p = subst (λ (m : ℕ). SpellsBetween i m x body) e p

-- all of the body
pub spells-all : (j : ℕ) (x body : List ℕ) → 7 * j ≡ length body → SpellsBetween 0 j x body → body ≡ x
spells-all j x body long p =
    let none : 7 * 0 ≡ 0 = omega arith in
    sym (take_all (7 * j) body (omega (arith, long))) ∙ p ∙ ap (λ (m : ℕ). take m body ++ x) none
