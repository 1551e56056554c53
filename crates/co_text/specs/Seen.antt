-- Which terms were found so far.
use Rattle.std.specs.Prelude.{◌≡◌, ℕ, List, is_some, String}
use Rattle.std.specs.List.{list_any}
use Rattle.std.specs.Str.{bytes_eq}
use Rattle.std.specs.BTreeMap.{BTreeMap, get_by_text}

-- the map has exactly the terms of the list as its keys
abbrev pub IsSeen : {Y : Type 0} → BTreeMap (String Y) (Unit {0}) → List (List ℕ) → Type 0
IsSeen seen found = (w : List ℕ) → is_some (get_by_text seen w) ≡ list_any (bytes_eq w) found
