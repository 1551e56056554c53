-- One term more, with its entries.
use Rattle.std.proofs.Common.{◌≤◌, arith, length, append_assoc}
use Rattle.std.proofs.lemmas.List.{length_push}
use Rattle.std.proofs.lemmas.List.Elements.{All-tail}
use Rattle.co_tfidf.proofs.index.index_of.Goals as goal

pub loop-term-preserved : goal.loop-term-preserved
loop-term-preserved c = record {
  terms = let inv = rw c.in-Some.ensures.steps at c.loop-term.invariant.terms in rw (c.in_ok-push.ensures.ok, c.from_string.ensures) (rw append_assoc inv);
  weights =
      let inv = rw c.in-Some.ensures.steps at c.loop-term.invariant.weights in
      rw (c.in_ok-push.ensures.ok, length_push, c.in_ok-add_entries.ensures, c.quarter_bits-bits.ensures.exact, c.len.ensures, c.len-in-loop-term.ensures) (rw append_assoc inv);
  each = All-tail (λ e. (1 ≤ length e.1) × (length e.1 ≤ c.args.documents)) _ c.next.new.self (rw c.in-Some.ensures.steps at c.loop-term.invariant.each);
  few = let inv = rw c.in-Some.ensures.steps at c.loop-term.invariant.few in rw (c.in_ok-push.ensures.ok, length_push) (omega (arith, inv));
}
