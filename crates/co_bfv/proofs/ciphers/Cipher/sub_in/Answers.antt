use Rattle.co_bfv.proofs.Combined.{parts_IsCiphertext, difference_combined}
use Rattle.co_bfv.proofs.ciphers.Cipher.sub_in.Goals as goal

pub invariant_of-self : goal.invariant_of-self
invariant_of-self c = parts_IsCiphertext _ _ _ _ (record { c0 = c.sub_in.new.self; c1 = c.sub_in-2.new.self }) c.self.invariant.c0.degree c.self.invariant.one_degree c.sub_in.ensures c.sub_in-2.ensures

pub returns : goal.returns
returns c = difference_combined _ _ _ _ _ c.self.invariant c.other.invariant c.self.view_is c.other.view_is c.requires c.sub_in.ensures c.sub_in-2.ensures
