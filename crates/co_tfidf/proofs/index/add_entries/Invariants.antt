-- The entries of the postings so far are added.
use Rattle.std.proofs.Common.{◌≡◌, ◌++◌, drop}
use Rattle.std.specs.Prelude.{flat_map}
use Rattle.co_tfidf.specs.Tables.{posting_entry}
use Rattle.co_tfidf.proofs.index.add_entries.Given as goal

abbrev pub invariant-loop-posting : goal.invariant-loop-posting
invariant-loop-posting l =
    l.entries.items ++ flat_map (posting_entry l.term l.bits) (drop l.posting-index l.posting-items)
    ≡ l.initial.entries.items ++ flat_map (posting_entry l.term l.bits) l.posting-items
