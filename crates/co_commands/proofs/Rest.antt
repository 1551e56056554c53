-- What is left of the words behind one option.
use Rattle.std.proofs.Common.{◌≡◌, ◌≤◌, ◌-◌, List, [], ◌∷◌, false, Some, length, take, drop, refl, sym, ap, ◌∙◌, arith, slice_index_or, string_bytes, String}
use Rattle.std.specs.Prelude.{map, codes}
use Rattle.std.specs.Str.{bytes_eq}
use Rattle.std.proofs.lemmas.List.{take_all}
use Rattle.co_commands.specs.declared.options.Options.{Options}
use Rattle.co_commands.specs.Words.{rest_of, with_option}

pub option_read : {Z : Type 0} (o more : Options) (ws : List (String Z)) (dashes name value : String Z) → 2 ≤ length ws
    → dashes ≡ slice_index_or ws 0 dashes → name ≡ slice_index_or ws 0 name → value ≡ slice_index_or ws 1 value
    → bytes_eq (string_bytes dashes) (codes "--") ≡ false → with_option o (string_bytes name) (string_bytes value) ≡ Some more
    → rest_of more (map string_bytes (take (length ws - 2) (drop 2 ws))) ≡ rest_of o (map string_bytes ws)
option_read o more [] dashes name value two d n v other some = absurd (omega (arith, two))
option_read o more (x ∷ []) dashes name value two d n v other some = absurd (omega (arith, two))
option_read o more (x ∷ y ∷ zs) dashes name value two d n v other some =
    let here : bytes_eq (string_bytes x) (codes "--") ≡ false = ap (λ t. bytes_eq (string_bytes t) (codes "--")) (sym d) ∙ other in
    let read : with_option o (string_bytes x) (string_bytes y) ≡ Some more = (λ i. with_option o (string_bytes (sym n i)) (string_bytes (sym v i))) ∙ some in
    ap (λ ys. rest_of more (map string_bytes ys)) (take_all (length (x ∷ y ∷ zs) - 2) zs (omega arith)) ∙ sym (rw (here, read) refl)
