-- Characters that are no control characters of ASCII.
use Rattle.std.proofs.Common.{◌≡◌, ℕ, true, refl, arith, List, ◌++◌, ◌∙◌}
use Rattle.std.specs.Prelude.{encode_utf8}
use Rattle.std.specs.List.{list_all}
use Rattle.std.proofs.Math.Utf8.{encode}
use Rattle.std.proofs.lemmas.Bool.Decides.{nat_tests}
use Rattle.std.proofs.lemmas.List.Folds.{list_all-append}
use Rattle.co_text.specs.Titles.{without_control, is_plain}

pub plain_byte : (c : ℕ) → is_plain (without_control c) ≡ true
plain_byte c = grind (arith, nat_tests)

plain_char : (c : ℕ) → is_plain c ≡ true → list_all is_plain (encode_utf8 c) ≡ true
unfolding encode
plain_char c p = grind (arith, nat_tests)

-- a text with one cleaned character more
pub plain_more : (kept : List ℕ) (c : ℕ) → list_all is_plain kept ≡ true → list_all is_plain (kept ++ encode_utf8 (without_control c)) ≡ true
plain_more kept c p = list_all-append is_plain kept (encode_utf8 (without_control c)) ∙ rw (p, plain_char (without_control c) (plain_byte c)) refl
