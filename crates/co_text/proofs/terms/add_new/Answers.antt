use Rattle.std.proofs.Common.{◌≡◌, ◌++◌, [], ◌∷◌, arith, refl, sym, ◌∙◌, ap, ℕ, List, true, false}
use Rattle.std.specs.Prelude.{is_some, ◌||◌}
use Rattle.std.specs.List.{list_any}
use Rattle.std.specs.Str.{bytes_eq}
use Rattle.std.specs.BTreeMap.{get_by_text}
use Rattle.std.proofs.lemmas.Grind.{text_groups}
use Rattle.co_text.proofs.Distinct.{any_pushed}
use Rattle.co_text.proofs.terms.add_new.Goals as goal

pub returns-then-contains_key-clause-found : goal.returns-then-contains_key-clause-found
returns-then-contains_key-clause-found c =
    let there : is_some (get_by_text c.args.seen.now c.args.term.now) ≡ true = grind (arith, text_groups) in
    rw (← c.requires c.args.term.now, there) refl

pub returns : goal.returns
returns c =
    let absent : is_some (get_by_text c.args.seen.now c.args.term.now) ≡ false = grind (arith, text_groups) in
    let pushed : c.push.new.self ≡ c.args.found.now ++ c.args.term.now ∷ [] = c.in_ok-push.ensures.ok ∙ ap (λ t. c.args.found.now ++ t ∷ []) c.in_ok-copy.ensures in
    let more : (w : List ℕ) → is_some (get_by_text c.insert.new.self w) ≡ (bytes_eq w c.args.term.now || is_some (get_by_text c.args.seen.now w)) = λ w. grind (arith, text_groups) in
    record {
      found = rw (← c.requires c.args.term.now, absent) pushed;
      seen = λ w. more w ∙ ap (λ b. bytes_eq w c.args.term.now || b) (c.requires w) ∙ sym (ap (list_any (bytes_eq w)) pushed ∙ any_pushed (bytes_eq w) c.args.found.now c.args.term.now);
    }
