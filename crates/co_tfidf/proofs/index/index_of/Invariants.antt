-- The terms and entries so far, and those that are left, are all.
use Rattle.std.proofs.Common.{◌≡◌, ◌+◌, ◌≤◌, ◌++◌, length}
use Rattle.std.specs.Prelude.{All, map}
use Rattle.co_tfidf.specs.Tables.{shown, table_entries}
use Rattle.co_tfidf.proofs.index.index_of.Given as goal

abbrev pub invariant-loop-term : goal.invariant-loop-term
invariant-loop-term l = record {
  terms : l.terms ++ map (λ e. e.0) (map shown l.term-iterator) ≡ map (λ e. e.0) (map shown l.fn.kept.entries);
  weights : l.entries.items ++ table_entries l.documents (length l.terms) (map shown l.term-iterator) ≡ table_entries l.documents 0 (map shown l.fn.kept.entries);
  each : All (λ e. (1 ≤ length e.1) × (length e.1 ≤ l.documents)) l.term-iterator;
  few : length l.terms + length l.term-iterator ≡ length l.fn.kept.entries;
}
