-- The entry is put at its place.
use Rattle.std.proofs.Common.{refl, string_bytes, Global}
use Rattle.std.specs.String.{string_cmp}
use Rattle.std.specs.Ordering.{nat_cmp}
use Rattle.std.specs.Cmp.Lexicographic.{slice_cmp}
use Rattle.co_tfidf.proofs.Tables.{map-insert_entry}
use Rattle.co_tfidf.proofs.vocabulary.keep_term.Goals as goal

pub returns : goal.returns
returns c =
    rw c.in_ok-insert.ensures.entries
    (map-insert_entry (string_cmp {Z = Global}) (slice_cmp nat_cmp) (string_bytes {Z = Global}) (λ x y. refl) c.args.kept.now.entries c.args.term c.args.postings)
