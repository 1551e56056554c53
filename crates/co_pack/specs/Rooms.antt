-- The rooms left in the bins, with a bound for each block of them.
use Rattle.std.specs.Prelude.{◌≡◌, ◌+◌, ◌*◌, ◌/◌, ◌<◌, ◌≤◌, ◌⊎◌, ◌++◌, ℕ, List, [], ◌∷◌, length, slice_index, slice_index_or}
use Rattle.co_pack.specs.Packing.{load, no_place, IsFirstFit}
use Rattle.std.specs.List.{All}
use Rattle.co_pack.specs.declared.packing.Place.{Place}
use Rattle.co_pack.specs.declared.packing.TheConstants.{BLOCK}

-- tops bounds the rooms, block by block
pub record IsTopped (rooms tops : List ℕ) : Type 0 where
  pub enough : length rooms ≤ length tops * BLOCK
  pub bound : (b : ℕ) → b < length rooms → slice_index rooms b ≤ slice_index tops (b / BLOCK)

-- rooms are what the places leave of each open bin; the last one that was opened is used
pub record IsRoom (size : ℕ) (places : List Place) (rooms : List ℕ) : Type 0 where
  pub left : (b : ℕ) → b < length rooms → slice_index rooms b + load places b ≡ size
  pub fresh : (b : ℕ) → length rooms ≤ b → load places b ≡ 0
  pub used : (i : ℕ) → i < length places → (slice_index_or places i no_place).bin < length rooms
  pub newest : (length rooms ≡ 0) ⊎ ((i : ℕ) × (i < length places)
      × ((slice_index_or places i no_place).bin + 1 ≡ length rooms))

-- the rooms as they were, or with one more bin, which is then the one asked for
abbrev pub IsOpened : ℕ → List ℕ → ℕ → List ℕ → Type 0
IsOpened size rooms bin rooms' =
    (rooms' ≡ rooms) ⊎ ((rooms' ≡ rooms ++ size ∷ []) × (bin ≡ length rooms))

-- the first documents of the order are placed
pub record IsPacking (size : ℕ) (lengths order : List ℕ) (placed : List Place) (rooms tops : List ℕ)
    (done : ℕ) : Type 0 where
  pub many : length placed ≡ done
  pub long : (s : ℕ) → s < done → (slice_index_or placed s no_place).length
      ≡ slice_index lengths (slice_index order s)
  pub fit : IsFirstFit size placed
  pub room : IsRoom size placed rooms
  pub topped : IsTopped rooms tops
  pub short : length tops ≤ length rooms
  pub within : All (λ r. r ≤ size) rooms
  pub few : length rooms ≤ done
