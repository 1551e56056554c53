use Rattle.co_bfv.proofs.Combined.{parts_IsCiphertext, sum_combined}
use Rattle.co_bfv.proofs.ciphers.Cipher.add_in.Goals as goal

pub invariant_of-self : goal.invariant_of-self
invariant_of-self c = parts_IsCiphertext _ _ _ _ (record { c0 = c.add_in.new.self; c1 = c.add_in-2.new.self }) c.self.invariant.c0.degree c.self.invariant.one_degree c.add_in.ensures c.add_in-2.ensures

pub returns : goal.returns
returns c = sum_combined _ _ _ _ _ c.self.invariant c.other.invariant c.self.view_is c.other.view_is c.requires c.add_in.ensures c.add_in-2.ensures
