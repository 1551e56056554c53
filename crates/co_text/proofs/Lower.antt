-- Words that are their own folding.
use Rattle.std.proofs.Common.{◌≡◌, ℕ, zero, suc, ◌<◌, true, List, [], ◌∷◌, map, refl, ap, ◌∙◌, arith}
use Rattle.std.specs.Prelude.{IsAscii, encode_utf8_all}
use Rattle.std.specs.List.{All, list_all}
use Rattle.std.specs.Char.{to_ascii_lowercase}
use Rattle.std.proofs.lemmas.Bool.{and_parts}
use Rattle.std.proofs.lemmas.Bool.Decides.{nat_tests}
use Rattle.std.proofs.lemmas.List.Elements.{All-nil, All-cons}
use Rattle.std.proofs.lemmas.Str.{chars-IsAscii, encodes-IsAscii}
use Rattle.caseless.specs.Caseless.{default_case_fold}
use Rattle.caseless.proofs.CaselessLemmas.{default_case_fold-ascii}
use Rattle.co_text.specs.Terms.{is_lower, folded}

small : (b : ℕ) → is_lower b ≡ true → b < 128
small b is = grind (arith, nat_tests)

itself : (b : ℕ) → is_lower b ≡ true → to_ascii_lowercase b ≡ b
itself b is = grind (arith, nat_tests)

all_small : (bs : List ℕ) → list_all is_lower bs ≡ true → All (λ c. c < 128) bs
all_small [] is = All-nil (λ c. c < 128)
all_small (b ∷ bs) is =
    let parts = and_parts (is_lower b) (list_all is_lower bs) is in
    All-cons (λ c. c < 128) b bs (small b parts.0) (all_small bs parts.1)

ascii : (bs : List ℕ) → list_all is_lower bs ≡ true → IsAscii bs
ascii [] is i = omega arith
ascii (b ∷ bs) is zero = small b (and_parts (is_lower b) (list_all is_lower bs) is).0
ascii (b ∷ bs) is (suc i) = ascii bs (and_parts (is_lower b) (list_all is_lower bs) is).1 i

lowered : (bs : List ℕ) → list_all is_lower bs ≡ true → map to_ascii_lowercase bs ≡ bs
lowered [] is = refl
lowered (b ∷ bs) is =
    let parts = and_parts (is_lower b) (list_all is_lower bs) is in
    rw (itself b parts.0, lowered bs parts.1) refl

pub folded_itself : (word : List ℕ) → list_all is_lower word ≡ true → folded word ≡ word
unfolding folded
folded_itself word is =
    ap (λ cs. encode_utf8_all (default_case_fold cs)) (chars-IsAscii word (ascii word is))
    ∙ ap encode_utf8_all (default_case_fold-ascii word (all_small word is) ∙ lowered word is)
    ∙ encodes-IsAscii word (ascii word is)
