use Rattle.std.proofs.Common.{ℕ, List, ◌≡◌, ◌∙◌, [], length, get_or, All, sym, ap, subst, arith}
use Rattle.std.proofs.lemmas.List.{get_or_read}
use Rattle.co_math.specs.Parameters.{digit_count}
use Rattle.co_switch.specs.Keys.{part}
use Rattle.co_switch.proofs.keys.GaloisKey.from_parts.Goals as goal

-- all of the degree of the first
of_first : (ks xs ys : List (List ℕ)) (p : List ℕ) (n : ℕ) → length ks ≡ digit_count → p ≡ get_or ks 0 p → n ≡ length p → ys ≡ xs → All (λ x. length x ≡ length (part ks 0)) xs → All (λ x. length x ≡ n) ys
of_first ks xs ys p n count read e f h =
    let first : p ≡ part ks 0 = get_or_read ks 0 p (omega (arith, count)) read [] in
    subst (λ (zs : List (List ℕ)). All (λ x. length x ≡ n) zs) (sym f) (subst (λ (m : ℕ). All (λ x. length x ≡ m) xs) (sym (e ∙ ap length first)) h)

pub keep-requires-clause-k0_degree : goal.keep-requires-clause-k0_degree
keep-requires-clause-k0_degree c =
    of_first c.args.k0.items c.args.k0.items c.deref.result.now c.index.result.now c.of.result c.requires.k0_count c.index.ensures (c.of.ensures ∙ c.degree.ensures.value) c.deref.ensures.value c.requires.k0_degree

pub keep-requires-clause-k1_degree : goal.keep-requires-clause-k1_degree
keep-requires-clause-k1_degree c =
    of_first c.args.k0.items c.args.k1.items c.deref-2.result.now c.index.result.now c.of.result c.requires.k0_count c.index.ensures (c.of.ensures ∙ c.degree.ensures.value) c.deref-2.ensures.value c.requires.k1_degree

pub index-requires : goal.index-requires
index-requires c = omega (arith, c.args.k0.ok.0, c.requires.k0_count)
