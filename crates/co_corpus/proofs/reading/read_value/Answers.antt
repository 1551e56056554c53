-- The title keeps its rule, and the text is that of a string.
use Rattle.std.proofs.Common.{◌≤◌, subst, arith, length, string_bytes}
use Rattle.std.proofs.lemmas.Str.{IsUtf8-string_bytes}
use Rattle.co_text.specs.Titles.{IsTitle}
use Rattle.co_corpus.proofs.reading.read_value.Goals as goal

pub returns-clause-document : goal.returns-clause-document
returns-clause-document c =
    let fits : length (string_bytes c.in-Some.text) ≤ 4194304 = omega (arith, c.len.ensures, c.if-len-gt-LONGEST_TEXT.false) in
    record {
      title = subst IsTitle c.title.view_is c.title.invariant;
      utf8 = rw (c.from_vec.ensures, c.into_bytes.ensures.value) (IsUtf8-string_bytes c.in-Some.text);
      fits = rw (c.from_vec.ensures, c.into_bytes.ensures.value) fits;
    }
