use Rattle.std.proofs.Common.{length, refl, sym, ◌∙◌, arith, ap, string_bytes}
use Rattle.std.specs.List.{list_all}
use Rattle.std.proofs.lemmas.Str.{IsUtf8-string_bytes}
use Rattle.co_text.specs.Titles.{IsTitle, is_plain}
use Rattle.co_text.proofs.title.Title.from_text.Goals as goal

is_title : (c : goal.Then-are_plain) → IsTitle (string_bytes c.args.text)
is_title c = record {
  short = omega (arith, ap length c.as_bytes.ensures.value, c.as_bytes.ensures.len, c.len.ensures, c.if-len-le-LONGEST_TITLE.true);
  text = IsUtf8-string_bytes c.args.text;
  plain = ap (list_all is_plain) (sym c.as_bytes.ensures.value) ∙ sym c.are_plain.ensures ∙ c.if-are_plain.true;
}

pub invariant_of-result : goal.invariant_of-result
invariant_of-result c = is_title c

pub returns-then-are_plain-clause-exact : goal.returns-then-are_plain-clause-exact
returns-then-are_plain-clause-exact c = (λ some. is_title c, λ title. refl)
