-- A word that names no command.
use Rattle.std.proofs.Common.{◌≡◌, ◌≢◌, ◌≤◌, ℕ, Bool, true, false, List, [], ◌∷◌, length, refl, ap, ◌∙◌, arith, slice_index_or, string_bytes, String}
use Rattle.std.specs.Prelude.{map, codes}
use Rattle.std.specs.Str.{bytes_eq}
use Rattle.std.proofs.lemmas.Slice.Eq.{bytes_eq-Decides}
use Rattle.co_commands.specs.Words.{SpokenWrong, spoken}

unequal : (a b : List ℕ) → a ≢ b → bytes_eq a b ≡ false
unequal a b other = step (bytes_eq a b) refl
  where
    step : (r : Bool) → bytes_eq a b ≡ r → bytes_eq a b ≡ false
    step true is = absurd (other ((bytes_eq-Decides a b).0 is))
    step false is = is

-- words that begin with no command are outside the grammar
pub unknown : {Z : Type 0} (ws : List (String Z)) (command : String Z) (word : List ℕ) → 1 ≤ length ws → command ≡ slice_index_or ws 0 command
    → word ≡ string_bytes command → word ≢ codes "plain" → word ≢ codes "import" → word ≢ codes "shape" → word ≢ codes "local" → word ≢ codes "serve"
    → word ≢ codes "search" → word ≢ codes "rehearse" → SpokenWrong ≡ spoken (map string_bytes ws)
unfolding spoken
unknown [] command word some first bytes p i s l v r h = absurd (omega (arith, some))
unknown (x ∷ xs) command word some first bytes p i s l v r h =
    let same : word ≡ string_bytes x = bytes ∙ ap string_bytes first in
    let known : (name : List ℕ) → word ≢ name → bytes_eq (string_bytes x) name ≡ false =
    λ name other. unequal (string_bytes x) name (λ is. other (same ∙ is)) in
    rw (
      known (codes "plain") p,
      known (codes "import") i,
      known (codes "shape") s,
      known (codes "local") l,
      known (codes "serve") v,
      known (codes "search") r,
      known (codes "rehearse") h,
    ) refl
