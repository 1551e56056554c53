-- The entries of a library, and the length of its file.
use Rattle.std.proofs.Common.{◌≡◌, ℕ, zero, suc, ◌+◌, ◌*◌, ◌≤◌, ◌<◌, ◌⊎◌, Bool, true, false, List, [], ◌∷◌, ◌++◌, length, length-append, get_or, Option, Some, None, All, refl, ap, subst, inl, inr, arith}
use Rattle.std.specs.Prelude.{IsTrue, ◌&&◌, ◌||◌, ◌==◌, nat_lt}
use Rattle.std.specs.List.{AllByRecursion, flat_map}
use Rattle.std.specs.Int.{w32, to_be_bytes}
use Rattle.std.proofs.lemmas.Bool.{eqb-true, ltb-true}
use Rattle.std.proofs.lemmas.List.Concat.{flat_map-cons}
use Rattle.std.proofs.lemmas.List.Elements.{All-from_recursion}
use Rattle.co_noise.specs.Shapes.{Numbers}
use Rattle.co_noise.proofs.Ranges.{ranges}
use Rattle.co_wire.specs.Reading.{IsChain}
use Rattle.co_wire.specs.Public.{fields_bytes}
use Rattle.co_wire.proofs.Ranges.{both}
use Rattle.co_wire.proofs.Sizes.{fields_few}
use Rattle.co_library.specs.Libraries.{Entry, Parts, IsEntry, IsLibrary}
use Rattle.co_library.specs.Files.{entry_bytes, library_word, parts_bytes, library_bytes}

-- ---- entries

abbrev IsWithin : Numbers → Entry → Type 0
IsWithin s e = (e.0 < s.terms) × (e.1 < s.documents)

all_within : (s : Numbers) (before : Option Entry) (es : List Entry) → IsChain (IsEntry s) before es → AllByRecursion (IsWithin s) es
all_within s before [] each = tt
all_within s before (e ∷ es) each = ((each.0.term, each.0.document), all_within s (Some e) es each.1)

pub entries_within : (l : Parts) → IsLibrary l → All (IsWithin l.shape) l.weights
entries_within l h = All-from_recursion (IsWithin l.shape) l.weights (all_within l.shape None l.weights h.each)

abbrev Precedes : Entry → Entry → Type 0
Precedes e f = (e.0 < f.0) ⊎ ((e.0 ≡ f.0) × (e.1 < f.1))

precedes : (a b c : Bool) → IsTrue (a || b && c) → IsTrue a ⊎ (IsTrue b × IsTrue c)
precedes true b c h = inl refl
precedes false b c h = inr (both b c h)

rises : (s : Numbers) (before : Option Entry) (es : List Entry) → IsChain (IsEntry s) before es → (i : ℕ) (d : Entry) → i + 1 < length es → Precedes (get_or es i d) (get_or es (i + 1) d)
rises s before [] each i d below = absurd (omega arith)
rises s before (e ∷ []) each i d below = absurd (omega arith)
rises s before (e ∷ f ∷ es) each zero d below = elim (precedes (nat_lt e.0 f.0) (e.0 == f.0) (nat_lt e.1 f.1) each.1.0.later) [
  | inl less ↦ inl (ltb-true e.0 f.0 less)
  | inr same ↦ inr (eqb-true e.0 f.0 same.0, ltb-true e.1 f.1 same.1)
]
rises s before (e ∷ f ∷ es) each (suc i) d below =
    let next : suc (i + 1) ≡ suc i + 1 = omega arith in
    subst (λ (k : ℕ). Precedes (get_or (e ∷ f ∷ es) (suc i) d) (get_or (e ∷ f ∷ es) k d)) next (rises s (Some e) (f ∷ es) each.1 i d (omega arith))

pub entries_rise : (l : Parts) → IsLibrary l → (i : ℕ) (d : Entry) → i + 1 < length l.weights → Precedes (get_or l.weights i d) (get_or l.weights (i + 1) d)
entries_rise l h i d below = rises l.shape None l.weights h.each i d below

-- ---- the file

entries_long : (es : List Entry) → length (flat_map entry_bytes es) ≡ length es * 10
entries_long [] = refl
entries_long (e ∷ es) =
    let one : length (entry_bytes e) ≡ 10 = refl in
    omega (arith, one, ap length (flat_map-cons entry_bytes e es), length-append (entry_bytes e) (flat_map entry_bytes es), entries_long es)

pub file_few : (l : Parts) → IsLibrary l → length (library_bytes l) ≤ 671088640
file_few l h =
    let word : length library_word ≡ 8 = refl in
    let count : length (to_be_bytes w32 (length l.weights)) ≡ 4 = refl in
    let most = (ranges l.shape h.published.good.ranges).documents_high in
    omega (
      arith,
      word,
      count,
      most,
      fields_few l.shape l.terms h.published,
      entries_long l.weights,
      h.few,
      h.records_full,
      h.bins_full,
      h.published.good.bins,
      length-append library_word (parts_bytes l),
      length-append (fields_bytes l.shape l.terms) (to_be_bytes w32 (length l.weights) ++ (flat_map entry_bytes l.weights ++ (l.records ++ l.bins))),
      length-append (to_be_bytes w32 (length l.weights)) (flat_map entry_bytes l.weights ++ (l.records ++ l.bins)),
      length-append (flat_map entry_bytes l.weights) (l.records ++ l.bins),
      length-append l.records l.bins,
    )
