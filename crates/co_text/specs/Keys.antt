-- Ranked documents as a set keeps them.
use Rattle.std.specs.Prelude.{ℕ}
use Rattle.std.specs.Ordering.{nat_cmp, ordering_then}
use Rattle.std.specs.declared.cmp.Ordering.{Ordering}
use Rattle.std.specs.declared.cmp.Reverse.{Reverse}
use Rattle.co_text.specs.declared.ranks.Ranked.{Ranked}

-- the order of the set's keys
abbrev pub key_cmp : Reverse ℕ × ℕ → Reverse ℕ × ℕ → Ordering
key_cmp a b = ordering_then (nat_cmp b.0.0 a.0.0) (nat_cmp a.1 b.1)

-- a key as document and score
abbrev pub shown : Reverse ℕ × ℕ → Ranked
shown k = record { document = k.1; score = k.0.0 }
