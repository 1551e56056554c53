-- Connections that were served, and one more.
use Rattle.std.proofs.Common.{◌≡◌, ◌≤◌, ◌<◌, ◌+◌, ◌++◌, ℕ, zero, suc, List, [], ◌∷◌, Bool, true, length, map, Option, Some, None, refl, sym, ap, subst, ◌∙◌, append_assoc, append-nil, arith, IfSome, Ok, Err}
use Rattle.std.specs.Prelude.{All, filter, option_map, option_and_then, take}
use Rattle.std.proofs.Math.Seq.{take-append-add}
use Rattle.std.proofs.lemmas.List.{map-append, length-append}
use Rattle.std.proofs.lemmas.List.Elements.{filter-append, All-append}
use Rattle.co_link.specs.Causes.{Rose, one_more}
use Rattle.co_link.specs.Held.{TookWhole, TookPrefix}
use Rattle.co_link.specs.Ports.{PortTells, IsAccepted, ended_with}
use Rattle.co_link.specs.declared.messages.Target.{Target}
use Rattle.co_link.specs.declared.messages.Request.{Request}
use Rattle.co_link.specs.declared.messages.Reply.{Reply}
use Rattle.co_library.specs.Libraries.{Parts}
use Rattle.co_serving.specs.Conversation.{Serves, responses, response_at}
use Rattle.co_serving.specs.declared.ended.Ended.{Ended}
use Rattle.co_serving.specs.declared.ended.Ended.TheVariants as ended
use Rattle.co_serving.specs.declared.ended.Served.{Served}
use Rattle.co_connections.specs.Serving.{ServesLibrary}
use Rattle.co_commands.specs.Outside.{PortState, SinkState}
use Rattle.co_commands.specs.Access.{Puts}
use Rattle.co_commands.specs.Connections.{Connection, IsServed, Came, AreServed, RoseBy, outputs_of, raised, is_read_fault, is_write_fault, connection_line, connection_lines}
use Rattle.co_commands.specs.Served.{Accepted, ServesOne, ServedSoFar, ServesNext, ServesSome}
use Rattle.co_commands.specs.declared.refusals.Refusal.{Refusal}
use Rattle.co_commands.specs.declared.refusals.Refusal.TheVariants as refusals
use Rattle.co_commands.proofs.Telling.{took_nothing, took_more}

-- ---- what a conversation tells

-- what was put in it is told
pub told_output : {S : Type 0} (wanted : S → Target → ℕ) (steps : S → Request → Reply → S → Type 0) (s t : S) (input : List ℕ) (left : Option (List ℕ))
    (put : List ℕ) (now : Option (List ℕ)) (requests : ℕ) (end : Ended) → Serves wanted steps s t input left put now requests end
    → (output : List ℕ) × (now ≡ Some output)
told_output wanted steps s t input left put now requests ended.Closed v = (put ++ responses 0 v.0, v.2.output)
told_output wanted steps s t input left put now requests ended.Cut v = (put ++ responses 0 v.0, v.5.output)
told_output wanted steps s t input left put now requests (ended.Refused status) v = (put ++ responses 0 (v.0 ++ v.1 ∷ []), v.7.output)
told_output wanted steps s t input left put now requests ended.Spent v = (put ++ responses 0 v.0, v.4.output)
told_output wanted steps s t input left put now requests ended.ReadFault v = (put ++ responses 0 v.0, v.1.output)
told_output wanted steps s t input left put now requests ended.WriteFault v =
    (put ++ (responses 0 v.0 ++ take v.3 (response_at (length v.0) v.1)), v.7)
told_output wanted steps s t input left put now requests ended.OutOfMemory v = (put, v.2)

-- ---- one connection

at_some : {A : Type 0} (P : A → Type 0) (o : Option A) (a : A) → o ≡ Some a → IfSome o P → P a
at_some {A} P o a is holds = subst (λ (x : Option A). IfSome x P) is holds

-- where outputs are told, those of ended connections and that of the current one are
told_both : (outputs : Option (List (List ℕ))) (put : Option (List ℕ)) (connected : Bool) (all : List (List ℕ))
    → option_and_then (λ (os : List (List ℕ)). option_map (λ (p : List ℕ). ended_with connected os p) put) outputs ≡ Some all
    → (os : List (List ℕ)) × (p : List ℕ) × (outputs ≡ Some os) × (put ≡ Some p) × (ended_with connected os p ≡ all)
told_both None put connected all is = absurd cc
told_both (Some os) None connected all is = absurd cc
told_both (Some os) (Some p) connected all is = (os, p, refl, refl, cc)

of_one : {A : Type 0} (P : A → Type 0) (x : A) → P x → All P (x ∷ [])
of_one P x holds zero d below = holds
of_one P x holds (suc k) d below = absurd (omega (arith, below))

-- the first connection that waited was accepted and served
pub came : (library : Parts) (s : Served) (was mid is : PortState) → IsAccepted was.tells mid.tells mid.left was.put mid.put → is.tells ≡ mid.tells
    → IfSome mid.left (λ input. IfSome mid.put (λ put. ServesLibrary library input is.left put is.put s.requests s.ended))
    → (waiting outputs : List (List ℕ)) → was.tells.waiting ≡ Some waiting → outputs_of was ≡ Some outputs → Came library (s ∷ []) waiting outputs is
came library s was mid is accepted same serves waiting outputs waits are =
    let both = told_both was.tells.ended was.put was.tells.connected outputs are in
    let next = at_some (λ (w : List (List ℕ)). (first : List ℕ) × (rest : List (List ℕ)) × (w ≡ first ∷ rest) × (mid.tells.waiting ≡ Some rest) × (mid.left ≡ Some first))
    was.tells.waiting waiting waits accepted.waiting in
    let empty : mid.put ≡ Some [] = at_some (λ (put : List ℕ). mid.put ≡ Some []) was.put both.1 both.3 accepted.output in
    let earlier : mid.tells.ended ≡ Some outputs =
    at_some (λ (put : List ℕ). mid.tells.ended ≡ Some (ended_with was.tells.connected both.0 put)) was.put both.1 both.3
    (at_some (λ (os : List (List ℕ)). IfSome was.put (λ put. mid.tells.ended ≡ Some (ended_with was.tells.connected os put))) was.tells.ended both.0 both.2 accepted.ended)
    ∙ ap Some both.4 in
    let talk : ServesLibrary library next.0 is.left [] is.put s.requests s.ended =
    at_some (λ (put : List ℕ). ServesLibrary library next.0 is.left put is.put s.requests s.ended) mid.put [] empty
    (at_some (λ (input : List ℕ). IfSome mid.put (λ put. ServesLibrary library input is.left put is.put s.requests s.ended)) mid.left next.0 next.4 serves) in
    let output = told_output _ _ _ _ next.0 is.left [] is.put s.requests s.ended talk.serves in
    let connection : Connection = record { input = next.0; output = output.0; served = s } in
    record {
      connections = connection ∷ [];
      are = refl;
      talked = of_one (IsServed library) connection
          (record { left = is.left; conversation = subst (λ (now : Option (List ℕ)). ServesLibrary library next.0 is.left [] now s.requests s.ended) output.1 talk });
      rest = next.1;
      inputs = next.2;
      waits = ap (λ (t : PortTells). t.waiting) same ∙ next.3;
      outputs_are = shown is.tells.ended is.put is.tells.connected outputs output.0 (ap (λ (t : PortTells). t.ended) same ∙ earlier) output.1
          (ap (λ (t : PortTells). t.connected) same ∙ accepted.connected);
    }
  where
    shown : (outputs : Option (List (List ℕ))) (put : Option (List ℕ)) (connected : Bool) (os : List (List ℕ)) (p : List ℕ) → outputs ≡ Some os → put ≡ Some p
        → connected ≡ true
        → option_and_then (λ (os : List (List ℕ)). option_map (λ (p : List ℕ). ended_with connected os p) put) outputs ≡ Some (os ++ p ∷ [])
    shown (Some os) (Some p) true ps q a b c = cc
    shown outputs put connected ps q a b c = absurd cc

-- no more faults than connections that tell them: of one connection
one_fault : (requests : ℕ) (end : Ended) (before now : ℕ) → before ≤ now → (end ≡ ended.ReadFault → Rose before now)
    → RoseBy (length (filter (λ (s : Served). is_read_fault s.ended) (record { requests = requests; ended = end } ∷ []))) before now
one_fault requests ended.ReadFault before now later rose = omega (arith, rose refl)
one_fault requests end before now later rose = omega (arith, later)

one_write_fault : (requests : ℕ) (end : Ended) (before now : ℕ) → before ≤ now → (end ≡ ended.WriteFault → Rose before now)
    → RoseBy (length (filter (λ (s : Served). is_write_fault s.ended) (record { requests = requests; ended = end } ∷ []))) before now
one_write_fault requests ended.WriteFault before now later rose = omega (arith, rose refl)
one_write_fault requests end before now later rose = omega (arith, later)

-- a connection was accepted, and then served
pub one_served : (library : Parts) (s : Served) (was mid is : PortState) → was.tells.listening ≡ true
    → IsAccepted was.tells mid.tells mid.left was.put mid.put → mid.take_faults ≡ was.take_faults → mid.put_faults ≡ was.put_faults → is.tells ≡ mid.tells
    → IfSome mid.left (λ input. IfSome mid.put (λ put. ServesLibrary library input is.left put is.put s.requests s.ended))
    → mid.take_faults ≤ is.take_faults → mid.put_faults ≤ is.put_faults
    → (s.ended ≡ ended.ReadFault → Rose mid.take_faults is.take_faults) → (s.ended ≡ ended.WriteFault → Rose mid.put_faults is.put_faults)
    → is.faults ≡ was.faults → ServesOne library s was is
one_served library s was mid is listens accepted takes puts same serves takes_later puts_later read_fault write_fault faults = record {
  faults = faults;
  serves = record {
    told = came library s was mid is accepted same serves;
    read_faults = one_fault s.requests s.ended was.take_faults is.take_faults (omega (arith, takes, takes_later))
        (λ end. subst (λ (n : ℕ). Rose n is.take_faults) takes (read_fault end));
    write_faults = one_write_fault s.requests s.ended was.put_faults is.put_faults (omega (arith, puts, puts_later))
        (λ end. subst (λ (n : ℕ). Rose n is.put_faults) puts (write_fault end));
  };
  accepted = record {
    listening = ap (λ (t : PortTells). t.listening) same ∙ accepted.listening ∙ listens;
    listens = ap (λ (t : PortTells). t.listens) same ∙ accepted.listens;
    last_port = ap (λ (t : PortTells). t.last_port) same ∙ accepted.last_port;
    accepts_are = ap (λ (t : PortTells). t.accepts) same ∙ accepted.accepts;
  };
}

-- ---- one after another

pub rose_more : (before mid now m n : ℕ) → RoseBy m before mid → RoseBy n mid now → RoseBy (m + n) before now
rose_more before mid now m n first second = omega (arith, first, second)

-- connections that came, and then others
came_more : (library : Parts) (a b : List Served) (waiting outputs : List (List ℕ)) (mid is : PortState) → (c : Came library a waiting outputs mid)
    → Came library b c.rest (outputs ++ map (λ (x : Connection). x.output) c.connections) is → Came library (a ++ b) waiting outputs is
came_more library a b waiting outputs mid is c d = record {
  connections = c.connections ++ d.connections;
  are = map-append (λ (x : Connection). x.served) c.connections d.connections ∙ ap (λ (xs : List Served). xs ++ map (λ (x : Connection). x.served) d.connections) c.are
      ∙ ap (λ (xs : List Served). a ++ xs) d.are;
  talked = All-append (IsServed library) c.connections d.connections c.talked d.talked;
  rest = d.rest;
  inputs = c.inputs ∙ ap (λ (xs : List (List ℕ)). map (λ (x : Connection). x.input) c.connections ++ xs) d.inputs
      ∙ sym (append_assoc (map (λ (x : Connection). x.input) c.connections) (map (λ (x : Connection). x.input) d.connections) d.rest)
      ∙ ap (λ (xs : List (List ℕ)). xs ++ d.rest) (sym (map-append (λ (x : Connection). x.input) c.connections d.connections));
  waits = d.waits;
  outputs_are = d.outputs_are ∙ ap Some (append_assoc outputs (map (λ (x : Connection). x.output) c.connections) (map (λ (x : Connection). x.output) d.connections)
      ∙ ap (λ (xs : List (List ℕ)). outputs ++ xs) (sym (map-append (λ (x : Connection). x.output) c.connections d.connections)));
}

pub served_more : (library : Parts) (a b : List Served) (was mid is : PortState) → AreServed library a was mid → AreServed library b mid is
    → AreServed library (a ++ b) was is
served_more library a b was mid is first second = record {
  told = λ waiting outputs waits are.
      let c = first.told waiting outputs waits are in
      came_more library a b waiting outputs mid is c
      (second.told c.rest (outputs ++ map (λ (x : Connection). x.output) c.connections) c.waits c.outputs_are);
  read_faults = counted (λ (s : Served). is_read_fault s.ended) was.take_faults mid.take_faults is.take_faults first.read_faults second.read_faults;
  write_faults = counted (λ (s : Served). is_write_fault s.ended) was.put_faults mid.put_faults is.put_faults first.write_faults second.write_faults;
}
  where
    counted : (p : Served → Bool) (before mid now : ℕ) → RoseBy (length (filter p a)) before mid → RoseBy (length (filter p b)) mid now
        → RoseBy (length (filter p (a ++ b))) before now
    counted p before mid now one two =
        subst (λ (n : ℕ). RoseBy n before now) (sym (ap length (filter-append p a b) ∙ length-append (filter p a) (filter p b)))
        (rose_more before mid now (length (filter p a)) (length (filter p b)) one two)

-- what was served stays, where a port tells the same of connections
pub served_since : (library : Parts) (served : List Served) (was mid is : PortState) → AreServed library served was mid
    → is.tells ≡ record mid.tells { accepts = one_more mid.tells.accepts } → is.put ≡ mid.put → is.take_faults ≡ mid.take_faults
    → is.put_faults ≡ mid.put_faults → AreServed library served was is
served_since library served was mid is a tells put takes puts = record {
  told = λ waiting outputs waits are.
      let c = a.told waiting outputs waits are in
      record {
        connections = c.connections;
        are = c.are;
        talked = c.talked;
        rest = c.rest;
        inputs = c.inputs;
        waits = ap (λ (t : PortTells). t.waiting) tells ∙ c.waits;
        outputs_are =
            subst (λ (t : PortTells). option_and_then (λ (os : List (List ℕ)). option_map (λ (p : List ℕ). ended_with t.connected os p) is.put) t.ended
            ≡ Some (outputs ++ map (λ (x : Connection). x.output) c.connections)) (sym tells)
            (subst (λ (o : Option (List ℕ)). option_and_then (λ (os : List (List ℕ)). option_map (λ (p : List ℕ). ended_with mid.tells.connected os p) o) mid.tells.ended
            ≡ Some (outputs ++ map (λ (x : Connection). x.output) c.connections)) (sym put) c.outputs_are);
      };
  read_faults = omega (arith, takes, a.read_faults);
  write_faults = omega (arith, puts, a.write_faults);
}

-- ---- none

pub none_served : (library : Parts) (was : PortState) → AreServed library [] was was
none_served library was = record {
  told = λ waiting outputs waits are. record {
    connections = [];
    are = refl;
    talked = λ k d below. absurd (omega (arith, below));
    rest = waiting;
    inputs = refl;
    waits = waits;
    outputs_are = are ∙ ap Some (sym (append-nil outputs));
  };
  read_faults = omega arith;
  write_faults = omega arith;
}

-- ---- calls

pub raised_more : (count n : ℕ) → raised (raised count n) 1 ≡ raised count (n + 1)
raised_more count zero = refl
raised_more count (suc n) =
    let next : suc (n + 1) ≡ suc n + 1 = omega arith in
    omega arith ∙ ap (λ (k : ℕ). raised count k) next

pub accepted_more : (n : ℕ) (was mid is : PortTells) → Accepted n was mid → Accepted 1 mid is → Accepted (n + 1) was is
accepted_more n was mid is first second = record {
  listening = second.listening;
  listens = second.listens ∙ first.listens;
  last_port = second.last_port ∙ first.last_port;
  accepts_are = second.accepts_are ∙ ap (λ (k : ℕ). raised k 1) first.accepts_are ∙ raised_more was.accepts n;
}

-- ---- lines

pub lines_more : (number : ℕ) (served : List Served) (s : Served)
    → connection_lines number (served ++ s ∷ []) ≡ connection_lines number served ++ connection_line (number + length served) s
lines_more number [] s = append-nil (connection_line number s) ∙ ap (λ (k : ℕ). connection_line k s) (omega arith)
lines_more number (x ∷ xs) s =
    ap (λ (t : List ℕ). connection_line number x ++ t) (lines_more (number + 1) xs s ∙ ap (λ (k : ℕ). connection_lines (number + 1) xs ++ connection_line k s) (omega arith))
    ∙ sym (append_assoc (connection_line number x) (connection_lines (number + 1) xs) (connection_line (number + length (x ∷ xs)) s))

-- ---- what was put

-- a front of a piece behind a whole one is a front of both
pub front_more : (was mid is : Option (List ℕ)) (p q : List ℕ) → TookWhole was mid p → TookPrefix mid is q → TookPrefix was is (p ++ q)
front_more None mid is p q first second = subst (λ (m : Option (List ℕ)). TookPrefix m is q) first second
front_more (Some old) mid is p q first second =
    let more = subst (λ (m : Option (List ℕ)). TookPrefix m is q) first second in (
      length p + more.0,
      omega (arith, length-append p q, more.1),
      more.2 ∙ ap Some (append_assoc old p (take more.0 q) ∙ ap (λ (t : List ℕ). old ++ t) (sym (take-append-add p q more.0))),
    )

-- ---- so many

-- what was served so far, of at most so many
pub record SoFar (library : Parts) (number connections : ℕ) (was is : PortState) (out_was out_is : SinkState) : Type 0 where
  pub served : List Served
  pub count : length served ≡ number
  pub within : number ≤ connections
  pub so_far : ServedSoFar library served was is out_was out_is
  pub out_faults : out_is.faults ≡ out_was.faults
  pub port_faults : is.faults ≡ was.faults

pub at_first : (library : Parts) (connections : ℕ) (was : PortState) (out : SinkState) → was.tells.listening ≡ true → SoFar library 0 connections was was out out
at_first library connections was out listens = record {
  served = [];
  count = refl;
  within = omega arith;
  so_far = record {
    serves = none_served library was;
    accepted = record { listening = listens; listens = refl; last_port = refl; accepts_are = refl };
    took = took_nothing out.bytes;
  };
  out_faults = refl;
  port_faults = refl;
}

-- the line of the next connection is behind those so far
with_line : (served : List Served) (number : ℕ) (s : Served) (line : List ℕ) → length served ≡ number → line ≡ connection_line (number + 1) s
    → connection_lines 1 served ++ line ≡ connection_lines 1 (served ++ s ∷ [])
with_line served number s line count line_is =
    ap (λ (t : List ℕ). connection_lines 1 served ++ t) (line_is ∙ ap (λ (k : ℕ). connection_line k s) (omega (arith, count))) ∙ sym (lines_more 1 served s)

more_count : (served : List Served) (number : ℕ) (s : Served) → length served ≡ number → length (served ++ s ∷ []) ≡ number + 1
more_count served number s count = length-append served (s ∷ []) ∙ omega (arith, count)

more_accepted : (served : List Served) (s : Served) (was mid is : PortTells) → Accepted (length served) was mid → Accepted 1 mid is
    → Accepted (length (served ++ s ∷ [])) was is
more_accepted served s was mid is first second =
    subst (λ (n : ℕ). Accepted n was is) (sym (more_count served (length served) s refl)) (accepted_more (length served) was mid is first second)

-- one connection more
pub next_served : (library : Parts) (number connections : ℕ) (was mid is : PortState) (out_was out_mid out_is : SinkState) (s : Served) (line : List ℕ)
    → number < connections → SoFar library number connections was mid out_was out_mid → ServesOne library s mid is → line ≡ connection_line (number + 1) s
    → Puts line out_mid out_is (Ok tt) → SoFar library (number + 1) connections was is out_was out_is
next_served library number connections was mid is out_was out_mid out_is s line below f one line_is puts = record {
  served = f.served ++ s ∷ [];
  count = more_count f.served number s f.count;
  within = omega (arith, below);
  so_far = record {
    serves = served_more library f.served (s ∷ []) was mid is f.so_far.serves one.serves;
    accepted = more_accepted f.served s was.tells mid.tells is.tells f.so_far.accepted one.accepted;
    took = subst (λ (t : List ℕ). TookWhole out_was.bytes out_is.bytes t) (with_line f.served number s line f.count line_is)
        (took_more out_was.bytes out_mid.bytes out_is.bytes (connection_lines 1 f.served) line f.so_far.took puts.0);
  };
  out_faults = puts.1 ∙ f.out_faults;
  port_faults = one.faults ∙ f.port_faults;
}

-- the line of one connection more wasn't taken whole
pub next_unput : (library : Parts) (number connections : ℕ) (was mid is : PortState) (out_was out_mid out_is : SinkState) (s : Served) (line : List ℕ)
    (refusal : Refusal) → number < connections → SoFar library number connections was mid out_was out_mid → ServesOne library s mid is
    → line ≡ connection_line (number + 1) s → Puts line out_mid out_is (Err refusal) → ServesSome library connections was is out_was out_is (Err refusal)
next_unput library number connections was mid is out_was out_mid out_is s line refusals.Output below f one line_is puts = (
  f.served ++ s ∷ [],
  omega (arith, more_count f.served number s f.count, below),
  record {
    serves = served_more library f.served (s ∷ []) was mid is f.so_far.serves one.serves;
    accepted = more_accepted f.served s was.tells mid.tells is.tells f.so_far.accepted one.accepted;
    took = record {
      front = subst (λ (t : List ℕ). TookPrefix out_was.bytes out_is.bytes t) (with_line f.served number s line f.count line_is)
          (front_more out_was.bytes out_mid.bytes out_is.bytes (connection_lines 1 f.served) line f.so_far.took puts.front);
      rose = omega (arith, f.out_faults, puts.rose);
    };
  },
)
next_unput library number connections was mid is out_was out_mid out_is s line refusal below f one line_is puts = absurd puts

-- no connection more was accepted
pub next_unserved : (library : Parts) (number connections : ℕ) (was mid is : PortState) (out_was out_is : SinkState) (refusal : Refusal) → number < connections
    → SoFar library number connections was mid out_was out_is → ServesNext library mid is (Err refusal)
    → ServesSome library connections was is out_was out_is (Err refusal)
next_unserved library number connections was mid is out_was out_is refusals.Port below f n = (
  f.served,
  omega (arith, f.count, below),
  record {
    serves = served_since library f.served was mid is f.so_far.serves n.tells n.put n.take_faults n.put_faults;
    accepted = subst (λ (t : PortTells). Accepted (length f.served + 1) was.tells t) (sym n.tells)
        (accepted_more (length f.served) was.tells mid.tells (record mid.tells { accepts = one_more mid.tells.accepts }) f.so_far.accepted
        (record { listening = f.so_far.accepted.listening; listens = refl; last_port = refl; accepts_are = refl }));
    rose = omega (arith, f.port_faults, n.rose);
    took = f.so_far.took;
  },
)
next_unserved library number connections was mid is out_was out_is refusal below f n = absurd n
