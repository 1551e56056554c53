-- Entries put into maps, where the value of each key is a function of it.
use Rattle.std.proofs.Common.{◌≡◌, List, [], ◌∷◌, refl, ap, ◌∙◌}
use Rattle.std.specs.Prelude.{map, fold}
use Rattle.std.specs.BTreeMap.{insert_entry}
use Rattle.std.specs.BTreeSet.{insert_key}
use Rattle.std.specs.Ordering.{match_ordering}
use Rattle.std.specs.declared.cmp.Ordering.{Ordering}
use Rattle.std.specs.declared.cmp.Ordering.TheVariants.{Less, Equal, Greater}
use Rattle.co_text.specs.Order.{in_order}
use Rattle.co_tfidf.specs.Tables.{put_all}

-- an entry put at its place, seen through a function of the keys that keeps the order
module _ {K L X : Type 0} (R : K → K → Ordering) (S : L → L → Ordering) (f : K → L) where
  abbrev seen : K × X → L × X
  seen e = (f e.0, e.1)

  step : (k : K) (v : X) (e : K × X) (es : List (K × X)) → map seen (insert_entry R es k v) ≡ insert_entry S (map seen es) (f k) v → (r : Ordering)
      → map seen (match_ordering r ((k, v) ∷ e ∷ es) ((e.0, v) ∷ es) (e ∷ insert_entry R es k v))
      ≡ match_ordering r ((f k, v) ∷ seen e ∷ map seen es) ((f e.0, v) ∷ map seen es) (seen e ∷ insert_entry S (map seen es) (f k) v)
  step k v e es rest Less = refl
  step k v e es rest Equal = refl
  step k v e es rest Greater = ap (λ l. seen e ∷ l) rest

  pub map-insert_entry : ((x y : K) → R x y ≡ S (f x) (f y)) → (es : List (K × X)) (k : K) (v : X)
      → map (λ e. (f e.0, e.1)) (insert_entry R es k v) ≡ insert_entry S (map (λ e. (f e.0, e.1)) es) (f k) v
  map-insert_entry same [] k v = refl
  map-insert_entry same (e ∷ es) k v =
      step k v e es (map-insert_entry same es k v) (R k e.0)
      ∙ ap (λ r. match_ordering r ((f k, v) ∷ seen e ∷ map seen es) ((f e.0, v) ∷ map seen es) (seen e ∷ insert_entry S (map seen es) (f k) v)) (same k e.0)

-- the keys, each with its value
module _ {K X : Type 0} (R : K → K → Ordering) (value : K → X) (exact : (x y : K) → R x y ≡ Equal → x ≡ y) where
  tab_step : (k x : K) (xs : List K) → insert_entry R (map (λ y. (y, value y)) xs) k (value k) ≡ map (λ y. (y, value y)) (insert_key R xs k)
      → (r : Ordering) → R k x ≡ r
      → match_ordering r ((k, value k) ∷ (x, value x) ∷ map (λ y. (y, value y)) xs) ((x, value k) ∷ map (λ y. (y, value y)) xs) ((x, value x) ∷ insert_entry R (map (λ y. (y, value y)) xs) k (value k))
      ≡ map (λ y. (y, value y)) (match_ordering r (k ∷ x ∷ xs) (x ∷ xs) (x ∷ insert_key R xs k))
  tab_step k x xs rest Less is = refl
  tab_step k x xs rest Equal is = ap (λ u. (x, value u) ∷ map (λ y. (y, value y)) xs) (exact k x is)
  tab_step k x xs rest Greater is = ap (λ l. (x, value x) ∷ l) rest

  tab_insert : (k : K) (xs : List K) → insert_entry R (map (λ y. (y, value y)) xs) k (value k) ≡ map (λ y. (y, value y)) (insert_key R xs k)
  tab_insert k [] = refl
  tab_insert k (x ∷ xs) = tab_step k x xs (tab_insert k xs) (R k x) refl

  put_from : (acc xs : List K) → put_all R (map (λ y. (y, value y)) acc) (map (λ y. (y, value y)) xs) ≡ map (λ y. (y, value y)) (fold (insert_key R) acc xs)
  put_from acc [] = refl
  put_from acc (x ∷ xs) = ap (λ es. put_all R es (map (λ y. (y, value y)) xs)) (tab_insert x acc) ∙ put_from (insert_key R acc x) xs

  -- put one after another, they are in order
  pub put_all-keys : (xs : List K) → put_all R [] (map (λ y. (y, value y)) xs) ≡ map (λ y. (y, value y)) (in_order R xs)
  put_all-keys xs = put_from [] xs
