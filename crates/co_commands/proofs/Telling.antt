-- A line that is put in parts.
use Rattle.std.proofs.Common.{◌≡◌, ℕ, ◌≤◌, List, [], ◌∷◌, ◌++◌, Option, Some, None, Ok, refl, sym, ap, subst, ◌∙◌, append_assoc, append-nil, map, take, length, ◌+◌, ◌<◌, get_or, true, Bor, arith}
use Rattle.std.specs.Prelude.{Result, is_ok, Err, codes, decimal}
use Rattle.std.proofs.lemmas.List.{take_more}
use mathlib.Core.Bool.{true≢false}
use Rattle.co_link.specs.Causes.{Rose}
use Rattle.co_link.specs.Held.{Appends, TookWhole}
use Rattle.co_link.specs.declared.sink.Failed.{Failed}
use Rattle.co_commands.specs.Outside.{SinkState}
use Rattle.co_commands.specs.Refusals.{flat, numbers_text, Says}

-- no piece
pub took_nothing : (was : Option (List ℕ)) → TookWhole was was []
took_nothing None = refl
took_nothing (Some old) = ap Some (sym (append-nil old))

-- two pieces, one after the other, are one
pub took_more : (was mid is : Option (List ℕ)) (p q : List ℕ) → TookWhole was mid p → TookWhole mid is q
    → TookWhole was is (p ++ q)
took_more None mid is p q first second = subst (λ (m : Option (List ℕ)). TookWhole m is q) first second
took_more (Some old) mid is p q first second =
    subst (λ (m : Option (List ℕ)). TookWhole m is q) first second ∙ ap Some (append_assoc old p q)

-- one part more
pub flat-more : {A : Type 0} (f : A → List ℕ) (xs : List A) (x : A) → flat (map f (xs ++ x ∷ [])) ≡ flat (map f xs) ++ f x
flat-more f [] x = append-nil (f x)
flat-more f (y ∷ ys) x = ap (λ (t : List ℕ). f y ++ t) (flat-more f ys x) ∙ sym (append_assoc (f y) (flat (map f ys)) (f x))

appended : (was is : Option (List ℕ)) (piece : List ℕ) (r : Result (Unit {0}) Failed) → is_ok r ≡ true → Appends was is piece r → TookWhole was is piece
appended was is piece (Ok u) ok took = took
appended was is piece (Err failed) ok took = absurd (true≢false (sym ok))

-- the parts up to this one were put, and this one too
pub part_more : (xs : List (Bor (List ℕ))) (i : ℕ) (d : Bor (List ℕ)) (was mid is : Option (List ℕ)) (piece : List ℕ) (r : Result (Unit {0}) Failed)
    → i < length xs → piece ≡ (get_or xs i d).now → is_ok r ≡ true
    → TookWhole was mid (flat (map (λ x. x.now) (take i xs))) → Appends mid is piece r
    → TookWhole was is (flat (map (λ x. x.now) (take (i + 1) xs)))
part_more xs i d was mid is piece r within same ok first second =
    let now : Bor (List ℕ) → List ℕ = λ x. x.now in
    let all = took_more was mid is (flat (map now (take i xs))) piece first (appended mid is piece r ok second) in
    let text : flat (map now (take i xs)) ++ piece ≡ flat (map now (take (i + 1) xs)) =
    ap (λ (t : List ℕ). flat (map now (take i xs)) ++ t) same ∙ sym (flat-more now (take i xs) (get_or xs i d))
    ∙ ap (λ (ys : List (Bor (List ℕ))). flat (map now ys)) (sym (take_more xs i d within)) in
    subst (λ (t : List ℕ). TookWhole was is t) text all

-- three puts, of which none failed where the count didn't rise
pub said : (a b c d : ℕ) (was one two is : Option (List ℕ)) (p q r : List ℕ) → a ≤ b → b ≤ c → c ≤ d
    → (¬ (Rose a b) → TookWhole was one p) → (¬ (Rose b c) → TookWhole one two q) → (¬ (Rose c d) → TookWhole two is r)
    → ¬ (Rose a d) → TookWhole was is (p ++ (q ++ r))
said a b c d was one two is p q r ab bc cd first second third kept =
    let rest = took_more one two is q r (second (λ rose. kept (omega (arith, rose)))) (third (λ rose. kept (omega (arith, rose)))) in
    took_more was one is p (q ++ r) (first (λ rose. kept (omega (arith, rose)))) rest

-- an equal text is said by the same line
pub says_as : (a b : List ℕ) (was is : SinkState) → a ≡ b → Says a was is → Says b was is
says_as a b was is same says = subst (λ (text : List ℕ). Says text was is) same says

-- four puts, likewise
pub put_four : (a b c d e : ℕ) (was one two three is : Option (List ℕ)) (p q r s : List ℕ) → a ≤ b → b ≤ c → c ≤ d → d ≤ e
    → (¬ (Rose a b) → TookWhole was one p) → (¬ (Rose b c) → TookWhole one two q) → (¬ (Rose c d) → TookWhole two three r) → (¬ (Rose d e) → TookWhole three is s)
    → ¬ (Rose a e) → TookWhole was is (p ++ (q ++ (r ++ s)))
put_four a b c d e was one two three is p q r s ab bc cd de first second third fourth kept =
    took_more was one is p (q ++ (r ++ s)) (first (λ rose. kept (omega (arith, rose))))
    (said b c d e one two three is q r s bc cd de second third fourth (λ rose. kept (omega (arith, rose))))

-- one number more
numbers_text-more : (ns : List ℕ) (n : ℕ) → numbers_text (ns ++ n ∷ []) ≡ numbers_text ns ++ (32 ∷ decimal n)
numbers_text-more [] n = append-nil (32 ∷ decimal n)
numbers_text-more (m ∷ ms) n =
    ap (λ (t : List ℕ). (32 ∷ decimal m) ++ t) (numbers_text-more ms n) ∙ sym (append_assoc (32 ∷ decimal m) (numbers_text ms) (32 ∷ decimal n))

-- the numbers up to this one were put, and this one too
pub number_more : (ns : List ℕ) (i d : ℕ) (was mid is : Option (List ℕ)) (digits : List ℕ) → i < length ns → digits ≡ decimal (get_or ns i d)
    → TookWhole was mid (numbers_text (take i ns)) → TookWhole mid is (flat (codes " " ∷ digits ∷ []))
    → TookWhole was is (numbers_text (take (i + 1) ns))
number_more ns i d was mid is digits within same first second =
    let all = took_more was mid is (numbers_text (take i ns)) (32 ∷ (digits ++ [])) first second in
    let text : numbers_text (take i ns) ++ (32 ∷ (digits ++ [])) ≡ numbers_text (take (i + 1) ns) =
    ap (λ (t : List ℕ). numbers_text (take i ns) ++ (32 ∷ t)) (append-nil digits ∙ same) ∙ sym (numbers_text-more (take i ns) (get_or ns i d))
    ∙ ap numbers_text (sym (take_more ns i d within)) in
    subst (λ (t : List ℕ). TookWhole was is t) text all
