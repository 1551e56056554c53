-- Published terms ascend.
use Rattle.std.proofs.Common.{◌≡◌, ℕ, refl, List, [], ◌∷◌, Some, None}
use Rattle.std.specs.Prelude.{IsTrue}
use Rattle.std.specs.List.{AllByRecursion}
use Rattle.std.specs.List.Sorted.{IsStrictlySortedBy}
use Rattle.std.specs.Str.{is_utf8}
use Rattle.std.specs.Cmp.Lexicographic.{slice_cmp, nat_list_cmp_total}
use Rattle.std.specs.Ordering.{nat_cmp, is_lt}
use Rattle.std.specs.declared.cmp.Ordering.{Ordering}
use Rattle.std.specs.declared.cmp.Ordering.TheVariants.{Less, Equal, Greater}
use Rattle.co_text.proofs.Sorted.{above_more}
use Rattle.co_wire.specs.Reading.{IsChain}
use Rattle.co_wire.specs.Public.{IsTerm, comes_after}
use Rattle.co_wire.proofs.Ranges.{both}

abbrev R : List ℕ → List ℕ → Ordering
R = slice_cmp nat_cmp

less-is : (o : Ordering) → IsTrue (is_lt o) → o ≡ Less
less-is Less h = refl
less-is Equal h = absurd cc
less-is Greater h = absurd cc

chain-sorted : (b : List ℕ) (ts : List (List ℕ)) → IsChain IsTerm (Some b) ts → AllByRecursion (λ t. R b t ≡ Less) ts × IsStrictlySortedBy R ts
unfolding IsStrictlySortedBy
chain-sorted b [] h = (tt, tt)
chain-sorted b (t ∷ ts) h =
    let less : R b t ≡ Less = less-is (R b t) (both (is_utf8 t) (comes_after (Some b) t) h.0.next).1 in
    let rest = chain-sorted t ts h.1 in
    ((less, above_more R nat_list_cmp_total b t ts less rest.0), rest)

pub terms-sorted : (ts : List (List ℕ)) → IsChain IsTerm None ts → IsStrictlySortedBy (slice_cmp nat_cmp) ts
unfolding IsStrictlySortedBy
terms-sorted [] h = tt
terms-sorted (t ∷ ts) h = chain-sorted t ts h.1
