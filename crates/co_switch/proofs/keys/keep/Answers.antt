use Rattle.std.proofs.Common.{ℕ, List, ◌≡◌, length, All, sym, subst}
use Rattle.co_switch.proofs.keys.keep.Goals as goal

pub both_spectra-requires-clause-k0_degree : goal.both_spectra-requires-clause-k0_degree
both_spectra-requires-clause-k0_degree c = subst (λ (n : ℕ). All (λ (p : List ℕ). length p ≡ n) c.args.k0.now) (sym c.in_ok-tables.ensures) c.requires.k0_degree

pub both_spectra-requires-clause-k1_degree : goal.both_spectra-requires-clause-k1_degree
both_spectra-requires-clause-k1_degree c = subst (λ (n : ℕ). All (λ (p : List ℕ). length p ≡ n) c.args.k1.now) (sym c.in_ok-tables.ensures) c.requires.k1_degree
