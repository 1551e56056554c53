-- Lists that are made item by item.
use Rattle.std.proofs.Common.{◌≡◌, ℕ, ◌+◌, ◌<◌, List, [], ◌∷◌, ◌++◌, length, get_or, map, take, arith}
use Rattle.std.proofs.lemmas.Grind.{common_steps}

-- one more item is made
pub one_more_mapped : {A B : Type 0} (f : A → B) (xs : List A) (ys zs : List B) (k : ℕ) (d : A) (y : B) → ys ≡ map f (take k xs) → k < length xs → zs ≡ ys ++ y ∷ [] → y ≡ f (get_or xs k d)
    → zs ≡ map f (take (k + 1) xs)
one_more_mapped f xs ys zs k d y is l more e = grind (arith, common_steps)
