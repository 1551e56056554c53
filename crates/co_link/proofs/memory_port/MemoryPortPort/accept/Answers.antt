use Rattle.std.proofs.Common.{◌≡◌, ◌∙◌, ap, rules, refl, map, List, [], ◌∷◌, ◌++◌, Option, Some, None}
use Rattle.std.specs.Option.{is_some, option_to_list}
use Rattle.std.proofs.lemmas.List.{append-nil, map-append}
use Rattle.co_link.specs.Fresh.{input_of, output_of}
use Rattle.co_link.specs.MemoryPort.{left_of, put_of}
use Rattle.co_link.specs.Ports.{ended_with}
use Rattle.co_link.specs.declared.memory_connection.MemoryConnection.{MemoryConnection}
use Rattle.co_link.proofs.memory_port.MemoryPortPort.accept.Goals as goal

-- the connection that ended, where there was one, stands behind those that ended before
ended_now : (current was : Option MemoryConnection) (before after : List MemoryConnection) → was ≡ current → after ≡ before ++ option_to_list was
    → Some (map output_of after) ≡ Some (ended_with (is_some current) (map output_of before) (put_of current))
ended_now None was before after e f = ap (λ xs. Some (map output_of xs)) (f ∙ ap (λ d. before ++ option_to_list d) e ∙ append-nil before)
ended_now (Some c) was before after e f = ap (λ xs. Some (map output_of xs)) (f ∙ ap (λ d. before ++ option_to_list d) e) ∙ ap Some (map-append output_of before (c ∷ []))

pub returns-clause-tells : goal.returns-clause-tells
returns-clause-tells c = record {
  listening = refl;
  listens = refl;
  accepts = c.saturating_add-self.ensures;
  last_port = refl;
  connected = ap is_some c.replace-done.ensures.after;
  waiting = (input_of c.remove-next.result, map input_of c.remove-next.new.self.items, search rules, refl, ap (λ x. Some (left_of x)) c.replace-done.ensures.after);
  output = search rules;
  ended = ended_now c.args.self.now.current c.replace-done.result c.args.self.now.ended.items c.keep_ended.new.ended.items c.replace-done.ensures.value c.keep_ended.ensures.items;
}
