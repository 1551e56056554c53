use Rattle.std.proofs.Common.{◌≡◌, ◌-◌, ◌*◌, ◌^◌, ℕ, rules, arith, refl, sym, ap, subst, ◌∙◌, List, length}
use Rattle.co_math.specs.Logarithms.{log2_up}
use Rattle.co_bfv.specs.Ciphertexts.{Ciphertext, ciphertext_degree}
use Rattle.co_pir.specs.Expansions.{CanDouble, doubled}
use Rattle.co_pir.proofs.Levelling.{expanding-first, expanding-doubles, expanding-next, expanding-failed, expanding-degrees, expanding-all, degree-at, logarithm-of}
use Rattle.co_switch.specs.Keys.{key_degree}
use Rattle.co_switch.specs.Steps.{raised, HasRisen}
use Rattle.co_switch.proofs.Rising.{risen_none}
use Rattle.co_pir.proofs.sharing.expand_by.Goals as goal

pub returns-clause-expansion : goal.returns-clause-expansion
returns-clause-expansion g c =
    let l = c.levels-level-end.result in
    let e : l ≡ log2_up c.args.rows = logarithm-of c.args.rows (ciphertext_degree c.args.query.now) l c.levels-level-end.ensures.shared c.requires.rows.1 c.first_level.ensures.query.c0.degree in
    expanding-all c.args.keys.now c.args.query.now c.args.steps.now c.loop-level.level c.loop-level.steps c.args.rows l c.loop-level.ciphers.items c.loop-level.invariant (omega arith) e c.levels-level-end.ensures.value
    c.first_level.ensures.query c.first_level.ensures.keys c.requires.keys.0 c.requires.keys.1 c.requires.rows.1

pub returns-clause-degrees : goal.returns-clause-degrees
returns-clause-degrees g c =
    expanding-degrees c.args.keys.now c.args.query.now c.args.steps.now c.loop-level.level c.loop-level.steps (ciphertext_degree c.args.query.now) c.loop-level.ciphers.items
    c.first_level.ensures.query c.loop-level.invariant refl

pub returns-in_err-ciphers-clause-few_steps : goal.returns-in_err-ciphers-clause-few_steps
returns-in_err-ciphers-clause-few_steps g c =
    let h : HasRisen c.args.steps.now (2 ^ log2_up c.args.rows - 1) c.args.steps.now = risen_none c.args.steps.now (2 ^ log2_up c.args.rows - 1) in
    search rules

pub double_by-requires-clause-level : goal.double_by-requires-clause-level
double_by-requires-clause-level g c κs within =
    let degree : key_degree c.key_at.result.now ≡ ciphertext_degree c.args.query.now =
    degree-at c.args.keys.now c.key_at.result.now c.args.rows (ciphertext_degree c.args.query.now) c.loop-level.level c.levels-level-end.result c.key_at.ensures.keys c.levels-level-end.ensures.shared c.requires.rows.1 c.first_level.ensures.query.c0.degree
    c.requires.keys.1 (omega arith) c.key_at.ensures.value c.requires.keys.0 in
    subst (CanDouble c.key_at.result.now) (sym c.deref.ensures.value)
    (expanding-doubles c.args.keys.now c.args.query.now c.args.steps.now c.loop-level.level c.loop-level.steps c.args.rows c.levels-level-end.result c.key_at.result.now c.loop-level.ciphers.items c.first_level.ensures.query
    c.loop-level.invariant c.levels-level-end.ensures.value (omega arith) c.requires.rows.1 degree)

pub loop-level-init : goal.loop-level-init
loop-level-init g c = expanding-first c.args.keys.now c.args.query.now c.args.steps.now c.in_ok-ciphers.ciphers.items c.in_ok-ciphers.ensures.value

pub loop-level-preserved : goal.loop-level-preserved
loop-level-preserved g c =
    let degree : key_degree c.key_at.result.now ≡ ciphertext_degree c.args.query.now =
    degree-at c.args.keys.now c.key_at.result.now c.args.rows (ciphertext_degree c.args.query.now) c.loop-level.level c.levels-level-end.result c.key_at.ensures.keys c.levels-level-end.ensures.shared c.requires.rows.1 c.first_level.ensures.query.c0.degree
    c.requires.keys.1 (omega arith) c.key_at.ensures.value c.requires.keys.0 in
    expanding-next c.args.keys.now c.args.query.now c.args.steps.now c.loop-level.level c.loop-level.steps c.double_by.new.steps c.loop-level.ciphers.items c.in_ok-ciphers-2.ciphers.items c.key_at.result.now
    c.loop-level.invariant c.key_at.ensures.key c.key_at.ensures.value degree
    (c.in_ok-ciphers-2.ensures.value ∙ ap (λ (xs : List Ciphertext). doubled (2 * key_degree c.key_at.result.now - length xs) c.key_at.result.now xs) c.deref.ensures.value)
    (c.in_ok-ciphers-2.ensures.steps ∙ ap (λ (xs : List Ciphertext). raised c.loop-level.steps (length xs)) c.deref.ensures.value)

pub returns-in_err-ciphers-2-clause-few_steps : goal.returns-in_err-ciphers-2-clause-few_steps
returns-in_err-ciphers-2-clause-few_steps g c =
    let l = c.levels-level-end.result in
    let e : l ≡ log2_up c.args.rows = logarithm-of c.args.rows (ciphertext_degree c.args.query.now) l c.levels-level-end.ensures.shared c.requires.rows.1 c.first_level.ensures.query.c0.degree in
    let f : HasRisen c.loop-level.steps (length c.loop-level.ciphers.items) c.double_by.new.steps =
    subst (λ (xs : List Ciphertext). HasRisen c.loop-level.steps (length xs) c.double_by.new.steps) c.deref.ensures.value c.in_err-ciphers-2.ensures.few_steps in
    let h : HasRisen c.args.steps.now (2 ^ log2_up c.args.rows - 1) c.double_by.new.steps =
    subst (λ (x : ℕ). HasRisen c.args.steps.now (2 ^ x - 1) c.double_by.new.steps) e
    (expanding-failed c.args.keys.now c.args.query.now c.args.steps.now c.loop-level.level c.loop-level.steps c.double_by.new.steps l c.loop-level.ciphers.items c.loop-level.invariant f (omega arith)) in
    search rules
