-- The entries of a term have its weights.
use Rattle.std.proofs.Common.{◌<◌, ◌==◌, ◌∙◌, ℕ, sym, refl, arith, length}
use Rattle.std.specs.Prelude.{slice_get}
use Rattle.std.proofs.lemmas.List.Elements.{All-filter}
use Rattle.co_text.proofs.Numbered.{number_known}
use Rattle.co_tfidf.specs.Entries.{entries}
use Rattle.co_tfidf.proofs.Scores.{entries_within, at_number, weight_in_le}
use Rattle.co_tfidf.proofs.TermEntries.{entries_rise, weight_of_filter}
use Rattle.co_tfidf.proofs.search.score_term.Goals as goal

pub entries_of-requires : goal.entries_of-requires
entries_of-requires c = rw (c.as_slice.ensures, c.requires.index) (entries_rise c.args.documents.now 0 c.args.index.now.terms).order

pub add_weights-requires-clause-within : goal.add_weights-requires-clause-within
add_weights-requires-clause-within c =
    rw (c.entries_of.ensures, c.as_slice.ensures, c.requires.index)
    (All-filter (λ (e : ℕ × ℕ × ℕ). e.0 == c.in-Some.number) (λ (e : ℕ × ℕ × ℕ). e.1 < length c.args.scores.now) _
    (λ k d h. omega (arith, entries_within c.args.documents.now 0 c.args.index.now.terms k d h, c.requires.within)))

pub add_weights-requires-clause-fits : goal.add_weights-requires-clause-fits
add_weights-requires-clause-fits c = λ d.
    let w = c.as_str.result.now in
    let es = entries c.args.documents.now 0 c.args.index.now.terms in
    let is = sym (weight_of_filter c.in-Some.number d es) ∙ at_number c.args.documents.now c.args.index.now.terms w c.in-Some.number d (number_known c.args.index.now.terms w c.in-Some.number (sym c.in-Some.ensures.number)) in
    rw (c.entries_of.ensures, c.as_slice.ensures, c.requires.index, is) (omega (arith, c.requires.fits d, weight_in_le c.args.documents.now w (slice_get c.args.documents.now d)))

pub returns-in-Some : goal.returns-in-Some
returns-in-Some c = λ d.
    let w = c.as_str.result.now in
    let es = entries c.args.documents.now 0 c.args.index.now.terms in
    let is = sym (weight_of_filter c.in-Some.number d es) ∙ at_number c.args.documents.now c.args.index.now.terms w c.in-Some.number d (number_known c.args.index.now.terms w c.in-Some.number (sym c.in-Some.ensures.number)) in
    rw (c.add_weights.ensures d, c.entries_of.ensures, c.as_slice.ensures, c.requires.index, is, ← c.as_str.ensures, ← c.in-Some.ensures.known) refl

pub returns-in_default : goal.returns-in_default
returns-in_default c = λ d. rw (← c.as_str.ensures, ← c.in_default.ensures.known) (omega arith)
