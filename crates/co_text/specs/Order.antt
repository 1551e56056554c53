-- Lists in an order.
use Rattle.std.specs.Prelude.{List, [], fold}
use Rattle.std.specs.declared.cmp.Ordering.{Ordering}
use Rattle.std.specs.BTreeSet.{insert_key}

-- these in ascending order, each once: each put at its place
abbrev pub in_order : {K : Type 0} → (K → K → Ordering) → List K → List K
in_order cmp ks = fold (insert_key cmp) [] ks
