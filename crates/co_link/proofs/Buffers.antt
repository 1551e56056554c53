-- The read buffer: what a take adds to what is held.
use Rattle.std.proofs.Common.{◌≡◌, ℕ, ◌+◌, ◌≤◌, List, ◌++◌, length, take, drop, Option, Some, None, refl, sym, ap, ◌∙◌, arith, append_assoc}
use Rattle.std.specs.Prelude.{option_map, IfSome}
use Rattle.std.specs.List.{between}
use Rattle.std.proofs.lemmas.List.{drop-append-le, take-append-drop, length-take-le, drop-take, drop-drop}
use Rattle.std.proofs.Math.Seq.{take-append-add}
use Rattle.std.proofs.lemmas.Slice.{between_is}
use Rattle.co_link.specs.Taken.{TakesBehind, behind}

pub take_split : (xs : List ℕ) (e n : ℕ) → e ≤ length xs → take (e + n) xs ≡ take e xs ++ take n (drop e xs)
take_split xs e n within =
    let long : length (take e xs) ≡ e = length-take-le e xs within in
    ap (take (e + n)) (sym (take-append-drop e xs)) ∙ ap (λ k. take (k + n) (take e xs ++ drop e xs)) (sym long) ∙ take-append-add (take e xs) (drop e xs) n

-- what lies below the end is as before
pub between_same : (old new : List ℕ) (s e : ℕ) → take e new ≡ take e old → between s e new ≡ between s e old
between_same old new s e below = between_is new s e ∙ ap (drop s) below ∙ sym (between_is old s e)

-- and the bytes behind it follow
pub between_more : (old new : List ℕ) (s e n : ℕ) → s ≤ e → e ≤ length new → take e new ≡ take e old → between s (e + n) new ≡ between s e old ++ between e (e + n) new
between_more old new s e n order within below =
    let long : length (take e new) ≡ e = length-take-le e new within in
    let got : between e (e + n) new ≡ take n (drop e new) = between_is new e (e + n) ∙ drop-take e n new in
    between_is new s (e + n)
    ∙ ap (drop s) (take_split new e n within)
    ∙ drop-append-le s (take e new) (take n (drop e new)) (omega (arith, long))
    ∙ ap (λ front. front ++ take n (drop e new)) (sym (between_is new s e) ∙ between_same old new s e below)
    ∙ ap (λ back. between s e old ++ back) (sym got)

-- what is to be read is as before: what came is what the source gave
pub unread_more : (was got : List ℕ) (n : ℕ) (old new : Option (List ℕ)) → new ≡ option_map (drop n) old → IfSome old (λ bytes. got ≡ take n bytes)
    → option_map (λ bytes. (was ++ got) ++ bytes) new ≡ option_map (λ bytes. was ++ bytes) old
unread_more was got n None new is same = ap (option_map (λ bytes. (was ++ got) ++ bytes)) is
unread_more was got n (Some bytes) new is same =
    ap (option_map (λ bytes. (was ++ got) ++ bytes)) is
    ∙ ap Some (append_assoc was got (drop n bytes) ∙ ap (λ front. was ++ (front ++ drop n bytes)) same ∙ ap (λ all. was ++ all) (take-append-drop n bytes))

-- what is held, and what the source has left, after a take behind what is held
pub unread_filled : (old new : List ℕ) (s e n : ℕ) (left_old left_new : Option (List ℕ)) → s ≤ e → take e new ≡ take e old → TakesBehind left_old left_new new e n
    → option_map (λ bytes. between s (e + n) new ++ bytes) left_new ≡ option_map (λ bytes. between s e old ++ bytes) left_old
unread_filled old new s e n left_old left_new order below took =
    let within : e ≤ length new = omega (arith, took.within) in
    ap (λ held. option_map (λ bytes. held ++ bytes) left_new) (between_more old new s e n order within below)
    ∙ unread_more (between s e old) (between e (e + n) new) n left_old left_new took.left took.bytes

pub unread_unfilled : (old new : List ℕ) (s e : ℕ) (left_old left_new : Option (List ℕ)) → take e new ≡ take e old → left_new ≡ left_old
    → option_map (λ bytes. between s e new ++ bytes) left_new ≡ option_map (λ bytes. between s e old ++ bytes) left_old
unread_unfilled old new s e left_old left_new below same =
    ap (λ held. option_map (λ bytes. held ++ bytes) left_new) (between_same old new s e below) ∙ ap (option_map (λ bytes. between s e old ++ bytes)) same

-- what is held after its first bytes
pub between_skipped : (b : List ℕ) (s e n : ℕ) → between (s + n) e b ≡ drop n (between s e b)
between_skipped b s e n = between_is b (s + n) e ∙ sym (drop-drop n s (take e b)) ∙ ap (drop n) (sym (between_is b s e))

-- the first bytes that are held, and then the rest of them
pub gathered : (held body rest : List ℕ) (n : ℕ) (left : Option (List ℕ)) → body ≡ take n held → rest ≡ drop n held
    → option_map (λ more. held ++ more) left ≡ option_map (λ more. body ++ more) (option_map (λ more. rest ++ more) left)
gathered held body rest n None is_body is_rest = refl
gathered held body rest n (Some more) is_body is_rest =
    let parts : body ++ rest ≡ held = ap (λ b. b ++ rest) is_body ∙ ap (λ r. take n held ++ r) is_rest ∙ take-append-drop n held in
    ap Some (ap (λ all. all ++ more) (sym parts) ∙ append_assoc body rest more)

-- what is filled, and what the source has left, after a take behind what is filled
pub taken_more : (old new : List ℕ) (e n : ℕ) (was now : Option (List ℕ)) → take e new ≡ take e old → TakesBehind was now new e n
    → behind (take (e + n) new) now ≡ behind (take e old) was
taken_more old new e n was now below took =
    ap (λ held. behind held now) (sym (between_is new 0 (e + n)))
    ∙ unread_filled old new 0 e n was now (omega arith) below took
    ∙ ap (λ held. behind held was) (between_is old 0 e)
