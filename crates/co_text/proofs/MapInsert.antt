-- A key put at its place, seen through a function that keeps the order.
use Rattle.std.proofs.Common.{◌≡◌, List, [], ◌∷◌, refl, ap, ◌∙◌}
use Rattle.std.specs.Prelude.{map, fold}
use Rattle.std.specs.BTreeSet.{insert_key}
use Rattle.std.specs.Ordering.{match_ordering}
use Rattle.std.specs.declared.cmp.Ordering.{Ordering}
use Rattle.co_text.specs.Order.{in_order}
use Rattle.std.specs.declared.cmp.Ordering.TheVariants.{Less, Equal, Greater}

module _ {K L : Type 0} (R : K → K → Ordering) (S : L → L → Ordering) (f : K → L) where
  map_step : (k x : K) (xs : List K) → map f (insert_key R xs k) ≡ insert_key S (map f xs) (f k) → (r : Ordering)
      → map f (match_ordering r (k ∷ x ∷ xs) (x ∷ xs) (x ∷ insert_key R xs k)) ≡ match_ordering r (f k ∷ f x ∷ map f xs) (f x ∷ map f xs) (f x ∷ insert_key S (map f xs) (f k))
  map_step k x xs rest Less = refl
  map_step k x xs rest Equal = refl
  map_step k x xs rest Greater = ap (λ l. f x ∷ l) rest

  pub map-insert_key : ((x y : K) → R x y ≡ S (f x) (f y)) → (xs : List K) (k : K) → map f (insert_key R xs k) ≡ insert_key S (map f xs) (f k)
  map-insert_key same [] k = refl
  map-insert_key same (x ∷ xs) k =
      map_step k x xs (map-insert_key same xs k) (R k x)
      ∙ ap (λ r. match_ordering r (f k ∷ f x ∷ map f xs) (f x ∷ map f xs) (f x ∷ insert_key S (map f xs) (f k))) (same k x)

  map-in_order_from : ((x y : K) → R x y ≡ S (f x) (f y)) → (acc xs : List K) → map f (fold (insert_key R) acc xs) ≡ fold (insert_key S) (map f acc) (map f xs)
  map-in_order_from same acc [] = refl
  map-in_order_from same acc (x ∷ xs) = map-in_order_from same (insert_key R acc x) xs ∙ ap (λ a. fold (insert_key S) a (map f xs)) (map-insert_key same acc x)

  -- so lists in order are one, seen through it
  pub map-in_order : ((x y : K) → R x y ≡ S (f x) (f y)) → (xs : List K) → map f (in_order R xs) ≡ in_order S (map f xs)
  map-in_order same xs = map-in_order_from same [] xs
