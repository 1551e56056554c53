-- Goals of `sorted_keys` that the check left open.
use Rattle.std.proofs.Common.{◌≡◌, ◌∙◌, ap, length, map, arith, refl}
use Rattle.std.specs.List.{range_with_len}
use Rattle.co_pack.proofs.Keys.{key_of, keys_more, keys_permute, keys_long'}
use Rattle.co_pack.proofs.packing.sorted_keys.Goals as goal

pub loop-document-preserved : goal.loop-document-preserved
loop-document-preserved c = c.in_ok-push.ensures.items ∙ keys_more c.args.lengths.now c.loop-document.document c.loop-document.keys.items _ c.loop-document.invariant refl

pub returns-clause-permutes : goal.returns-clause-permutes
returns-clause-permutes c =
    let all : c.loop-document.document ≡ length c.args.lengths.now = omega arith in
    keys_permute c.args.lengths.now (length c.args.lengths.now) _ _ (c.loop-document.invariant ∙ ap (λ n. map (key_of c.args.lengths.now) (range_with_len 0 n)) all) c.sort_unstable.ensures.permutation

pub returns-clause-long : goal.returns-clause-long
returns-clause-long c =
    let all : c.loop-document.document ≡ length c.args.lengths.now = omega arith in
    keys_long' c.args.lengths.now (length c.args.lengths.now) _ _ (c.loop-document.invariant ∙ ap (λ n. map (key_of c.args.lengths.now) (range_with_len 0 n)) all) c.sort_unstable.ensures.permutation
