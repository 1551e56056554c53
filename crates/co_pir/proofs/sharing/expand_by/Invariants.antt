use Rattle.co_pir.proofs.Levelling.{IsExpanding}
use Rattle.co_pir.proofs.sharing.expand_by.Given as goal

abbrev pub invariant-loop-level : goal.invariant-loop-level
invariant-loop-level g l = IsExpanding l.keys l.query l.initial.steps l.level l.ciphers.items l.steps
