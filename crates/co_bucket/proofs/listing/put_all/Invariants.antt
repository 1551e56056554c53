-- What the loop of `put_all` keeps.
use Rattle.std.proofs.Common.{take, ◌++◌, ◌∷◌, []}
use Rattle.co_bucket.specs.Filling.{contents, IsStepped}
use Rattle.co_bucket.proofs.listing.put_all.Given as goal

abbrev pub invariant-loop-i : goal.invariant-loop-i
invariant-loop-i l = IsStepped [] (λ list. list ++ l.document ∷ []) (contents l.initial.lists) (take l.i l.row) (contents l.lists)
