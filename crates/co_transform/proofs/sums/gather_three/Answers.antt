use Rattle.std.proofs.Common.{arith}
use Rattle.co_transform.proofs.Steps.{still_within}
use Rattle.co_transform.proofs.Leaves.{as_long}
use Rattle.co_transform.proofs.Gatherings.{no_pair, one_pair, all_within, none_gathered, one_gathered, all_gathered, product_small, one_fits, two_fit, three_fit, sum_fits}
use Rattle.co_transform.proofs.sums.gather_three.Goals as goal

pub returns-clause-within_after : goal.returns-clause-within_after
returns-clause-within_after c = all_within c.args.sums.now _ c.loop-i.sums _ c.args.count c.args.q c.loop-i.invariant (one_pair _ _ _ _ c.requires.a_below c.requires.b_below (one_pair _ _ _ _ c.requires.c_below c.requires.d_below (one_pair _ _ _ _ c.requires.e_below c.requires.f_below (no_pair _)))) c.requires.within

pub bounds-a-i : goal.bounds-a-i
bounds-a-i c = as_long _ _ _ c.loop-i-test.true c.requires.a_length

pub bounds-b-i : goal.bounds-b-i
bounds-b-i c = as_long _ _ _ c.loop-i-test.true c.requires.b_length

pub bounds-c-i : goal.bounds-c-i
bounds-c-i c = as_long _ _ _ c.loop-i-test.true c.requires.c_length

pub bounds-d-i : goal.bounds-d-i
bounds-d-i c = as_long _ _ _ c.loop-i-test.true c.requires.d_length

pub bounds-e-i : goal.bounds-e-i
bounds-e-i c = as_long _ _ _ c.loop-i-test.true c.requires.e_length

pub bounds-f-i : goal.bounds-f-i
bounds-f-i c = as_long _ _ _ c.loop-i-test.true c.requires.f_length

pub bounds-sums-i : goal.bounds-sums-i
bounds-sums-i c = as_long _ _ _ c.loop-i-test.true c.loop-i.auto.sums

pub bounds-sums-i-in-loop-i : goal.bounds-sums-i-in-loop-i
bounds-sums-i-in-loop-i c = as_long _ _ _ c.loop-i-test.true c.loop-i.auto.sums

pub overflow_mul-first : goal.overflow_mul-first
overflow_mul-first c = record { fits = one_fits _ (product_small _ _ _ (c.requires.a_below c.loop-i.i) (c.requires.b_below c.loop-i.i) c.requires.modulus) }

pub overflow_mul-first-in-loop-i : goal.overflow_mul-first-in-loop-i
overflow_mul-first-in-loop-i c = record { fits = one_fits _ (product_small _ _ _ (c.requires.c_below c.loop-i.i) (c.requires.d_below c.loop-i.i) c.requires.modulus) }

pub overflow_add-first : goal.overflow_add-first
overflow_add-first c = record { fits = two_fit _ _ (product_small _ _ _ (c.requires.a_below c.loop-i.i) (c.requires.b_below c.loop-i.i) c.requires.modulus) (product_small _ _ _ (c.requires.c_below c.loop-i.i) (c.requires.d_below c.loop-i.i) c.requires.modulus) }

pub overflow_mul-sums : goal.overflow_mul-sums
overflow_mul-sums c = record { fits = one_fits _ (product_small _ _ _ (c.requires.e_below c.loop-i.i) (c.requires.f_below c.loop-i.i) c.requires.modulus) }

pub overflow_add-sums : goal.overflow_add-sums
overflow_add-sums c = record { fits = three_fit _ _ _ (product_small _ _ _ (c.requires.a_below c.loop-i.i) (c.requires.b_below c.loop-i.i) c.requires.modulus) (product_small _ _ _ (c.requires.c_below c.loop-i.i) (c.requires.d_below c.loop-i.i) c.requires.modulus) (product_small _ _ _ (c.requires.e_below c.loop-i.i) (c.requires.f_below c.loop-i.i) c.requires.modulus) }

pub overflow_add-sums-in-loop-i : goal.overflow_add-sums-in-loop-i
overflow_add-sums-in-loop-i c = record { fits = sum_fits _ c.args.count c.args.q _ _ _ (still_within _ _ _ (c.loop-i.invariant.rest c.loop-i.i (omega arith)) (c.requires.within c.loop-i.i)) c.requires.room c.requires.modulus (product_small _ _ _ (c.requires.a_below c.loop-i.i) (c.requires.b_below c.loop-i.i) c.requires.modulus) (product_small _ _ _ (c.requires.c_below c.loop-i.i) (c.requires.d_below c.loop-i.i) c.requires.modulus) (product_small _ _ _ (c.requires.e_below c.loop-i.i) (c.requires.f_below c.loop-i.i) c.requires.modulus) }

pub loop-i-init : goal.loop-i-init
loop-i-init c = none_gathered c.args.sums.now _

pub loop-i-preserved : goal.loop-i-preserved
loop-i-preserved c = one_gathered c.args.sums.now _ c.loop-i.i c.loop-i.sums _ c.loop-i.invariant c.loop-i-test.true (omega arith)

pub returns-clause-sums : goal.returns-clause-sums
returns-clause-sums c = all_gathered _ _ _ _ _ c.loop-i.invariant (omega (arith, c.loop-i-test.false, c.loop-i.auto.i-end))
