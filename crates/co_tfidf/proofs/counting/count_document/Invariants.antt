-- The words so far are counted.
use Rattle.std.proofs.Common.{ℕ, List}
use Rattle.std.specs.BTreeMap.{get_by_text}
use Rattle.unicode_segmentation.specs.Iter.{unicode_words_left}
use Rattle.co_text.specs.Terms.{terms, terms_of}
use Rattle.co_tfidf.specs.Counts.{term_frequency}
use Rattle.co_tfidf.specs.Postings.{postings_of}
use Rattle.co_tfidf.proofs.Occurrences.{Counted}
use Rattle.co_tfidf.proofs.counting.count_document.Given as goal

abbrev pub invariant-loop-word : goal.invariant-loop-word
invariant-loop-word l = record {
  can_next : (goal.iterator-loop-word).can_next l.word-iterator;
  is_finite : (goal.iterator-loop-word).is_finite l.word-iterator;
  counted : (w : List ℕ)
      → Counted w (postings_of l.initial.counts w) l.number (term_frequency w (terms l.document.text)) (term_frequency w (terms_of (unicode_words_left l.word-iterator))) (get_by_text l.counts w);
}
