use Rattle.std.proofs.Common.{◌∙◌, length, sym, ap}
use Rattle.co_math.specs.Parameters.{q}
use Rattle.co_math.proofs.Residue_lists.{length-residues_of}
use Rattle.co_switch.specs.Keys.{key_degree}
use Rattle.co_switch.specs.Switches.{automorphism, digit_sum}
use Rattle.co_switch.proofs.Adding.{image-degree, switched_is}
use Rattle.co_switch.proofs.switching.switch.Goals as goal

pub add_in-requires : goal.add_in-requires
add_in-requires c =
    let key = c.args.key.now in
    ap length c.in_ok-first.ensures.first ∙ length-residues_of q (key_degree key) (digit_sum (automorphism key.element c.c1.result.now) key.k0)
    ∙ sym c.requires ∙ sym (ap length c.c0.ensures) ∙ sym (image-degree c.element.result c.c0.result.now c.in_ok-c0.c0 c.in_ok-c0.ensures)

pub from_parts-requires : goal.from_parts-requires
from_parts-requires c =
    let key = c.args.key.now in
    ap length c.in_ok-first.ensures.second ∙ length-residues_of q (key_degree key) (digit_sum (automorphism key.element c.c1.result.now) key.k1)
    ∙ sym c.requires ∙ sym (ap length c.c0.ensures) ∙ sym (c.add_in.ensures.len ∙ image-degree c.element.result c.c0.result.now c.in_ok-c0.c0 c.in_ok-c0.ensures)

pub returns : goal.returns
returns c =
    let key = c.args.key.now in
    c.from_parts.ensures
    ∙ switched_is key c.args.cipher.now c.degree.ensures.ciphertext (key_degree key) c.in_ok-c0.c0 (automorphism key.element c.c1.result.now) c.in_ok-first.first c.in_ok-first.second c.add_in.new.self (sym c.requires)
    (c.in_ok-c0.ensures ∙ (λ t. automorphism (c.element.ensures.value t) (c.c0.ensures t))) (ap (automorphism key.element) c.c1.ensures)
    c.in_ok-first.ensures.first c.in_ok-first.ensures.second c.add_in.ensures
