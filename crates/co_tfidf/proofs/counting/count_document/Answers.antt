-- One word more is counted.
use Rattle.std.proofs.Common.{◌≡◌, ◌++◌, ◌+◌, ◌∙◌, ℕ, List, sym, ap, subst, arith}
use Rattle.std.specs.BTreeMap.{get_by_text}
use Rattle.std.proofs.lemmas.List.{append-nil}
use Rattle.unicode_segmentation.specs.Iter.{unicode_words_left}
use Rattle.co_text.specs.Terms.{terms, terms_of}
use Rattle.co_tfidf.specs.Counts.{term_frequency}
use Rattle.co_tfidf.specs.Postings.{postings_of, posting, listed}
use Rattle.co_tfidf.proofs.Occurrences.{Counted, word_step}
use Rattle.co_tfidf.proofs.counting.count_document.Goals as goal

pub loop-word-init : goal.loop-word-init
loop-word-init c = record {
  can_next = tt;
  is_finite = tt;
  counted = λ w. record {
    so_far = 0;
    all = rw (c.into_iter-word-iterator.ensures.into_iter_gives, c.unicode_words-word-items.ensures.left, c.text_of-text.ensures) (omega arith);
    is = c.requires.listed w ∙ ap listed (sym (append-nil (postings_of c.args.counts.now w)));
  };
}

pub loop-word-preserved : goal.loop-word-preserved
loop-word-preserved c = record {
  can_next = tt;
  is_finite = tt;
  counted = λ w.
      let old = postings_of c.args.counts.now w in
      let all : ℕ = term_frequency w (terms c.args.document.now.text) in
      word_step w c.in-Some.word.now old c.args.number all (unicode_words_left c.next.new.self) (c.requires.before w) (get_by_text c.loop-word.counts w) (get_by_text c.count_word.new.counts w)
      (subst (λ (ws : List (List ℕ)). Counted w old c.args.number all (term_frequency w (terms_of ws)) (get_by_text c.loop-word.counts w)) c.in-Some.ensures.steps (c.loop-word.invariant.counted w))
      (c.in_ok-count_word.ensures w);
}

pub returns : goal.returns
returns c = λ w.
    let counted = c.loop-word.invariant.counted w in
    let done : counted.so_far + 0 ≡ term_frequency w (terms c.args.document.now.text) = rw c.in-None.ensures.steps.0 at counted.all in
    let all : counted.so_far ≡ term_frequency w (terms c.args.document.now.text) = omega (arith, done) in
    counted.is ∙ ap (λ k. listed (postings_of c.args.counts.now w ++ posting c.args.number k)) all
