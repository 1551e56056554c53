use Rattle.std.proofs.Common.{◌≡◌, pos}
use Rattle.co_math.specs.Residues.{residue}
use Rattle.co_math.specs.Powers.{power}
use Rattle.co_ring.specs.Tables.{ArePowersAt}
use Rattle.co_ring.proofs.tables.powers.Given as goal

abbrev pub invariant-loop-k : goal.invariant-loop-k
invariant-loop-k l = record {
  powers : ArePowersAt l.m l.psi (λ k. k) l.k l.all.items;
  next : l.next ≡ residue l.m (power (pos l.psi) l.k);
}
