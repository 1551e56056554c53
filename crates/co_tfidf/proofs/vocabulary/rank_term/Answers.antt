-- The entry is put at its rank.
use Rattle.std.proofs.Common.{ℕ, refl, string_bytes, String, Global}
use Rattle.std.specs.Prelude.{length}
use Rattle.std.specs.Ordering.{nat_cmp, ordering_then}
use Rattle.std.specs.String.{string_cmp}
use Rattle.std.specs.declared.cmp.Reverse.{Reverse}
use Rattle.co_tfidf.specs.Tables.{term_cmp}
use Rattle.co_tfidf.proofs.Tables.{map-insert_entry}
use Rattle.co_tfidf.proofs.vocabulary.rank_term.Goals as goal

pub returns : goal.returns
returns c =
    rw (c.in_ok-insert.ensures.entries, c.len.ensures)
    (map-insert_entry (λ (a b : Reverse ℕ × String Global). ordering_then (nat_cmp b.0.0 a.0.0) (string_cmp a.1 b.1)) term_cmp (λ (k : Reverse ℕ × String Global). (k.0, string_bytes k.1)) (λ x y. refl) c.args.ranked.now.entries (record { 0 = length c.args.postings }, c.args.term) c.args.postings)
