-- The weights so far are added.
use Rattle.std.proofs.Common.{◌≡◌, ℕ, ◌+◌, drop}
use Rattle.std.specs.Prelude.{slice_index}
use Rattle.co_tfidf.specs.Added.{document_weight}
use Rattle.co_tfidf.proofs.search.add_weights.Given as goal

abbrev pub invariant-loop-document : goal.invariant-loop-document
invariant-loop-document l = (d : ℕ) → slice_index l.scores d + document_weight d (drop l.document-index l.entries) ≡ slice_index l.initial.scores d + document_weight d l.entries
