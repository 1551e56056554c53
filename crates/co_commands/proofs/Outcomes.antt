-- Results that are compared.
use Rattle.std.proofs.Common.{◌≡◌, Ok, Err, refl, sym, subst, ◌∙◌}
use Rattle.std.specs.Prelude.{Result, IsErr, IfOk, IfErr}
use mathlib.Core.Bool.{true≢false}

pub differ : {T E : Type 0} (t : T) (e : E) (r : Result T E) → r ≡ Ok t → r ≡ Err e → ⊥
differ {T} {E} t e r ok err = true≢false (sym (subst (λ (x : Result T E). IsErr x) (sym err ∙ ok) refl))

pub same_value : {T E : Type 0} (x : Result T E) (a b : T) → x ≡ Ok a → x ≡ Ok b → a ≡ b
same_value {T} {E} x a b one two = cc

-- what follows of each value, or of each error
pub ok_as : {T E : Type 0} (r : Result T E) (P Q : T → Type 0) → IfOk r P → ((t : T) → P t → Q t) → IfOk r Q
ok_as (Ok t) P Q given step = step t given
ok_as (Err e) P Q given step = tt

pub err_as : {T E : Type 0} (r : Result T E) (P Q : E → Type 0) → IfErr r P → ((e : E) → P e → Q e) → IfErr r Q
err_as (Ok t) P Q given step = tt
err_as (Err e) P Q given step = step e given
