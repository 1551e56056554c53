-- The rule of the board's table: its word and the lists of its passes are a state of the machine.
use Rattle.std.specs.Prelude.{◌≡◌, ℕ, zero, suc, ◌+◌, ◌<◌, List, [], ◌∷◌, ◌++◌, length, All, nat_eq, if◌then◌else◌}
use mathlib.Core.Option.{some}
use lib.ListN.{get_elem?}
use Rattle.atomic_table.specs.Table.{State, Me, Step}
use Rattle.co_board.specs.declared.rule.Limits.{Limits}
use Rattle.co_board.specs.declared.rule.Hand.{Hand}
use Rattle.co_board.specs.Once.{sum_over, once_below}
use Rattle.co_board.specs.Machine.{Machine, IsState, drawn_by}

abbrev pub hand : Limits → ℕ → List ℕ → Hand
hand limits number drawn = record { limits = limits; number = number; drawn = drawn }

-- a hand as the machine has it
pub record IsHand (limits : Limits) (m : Machine) (h : Hand) : Type 0 where
  pub limits_are : h.limits ≡ limits
  pub drawn_is : h.drawn ≡ drawn_by m h.number

-- how many of the hands are of pass p
abbrev pub hands_of : ℕ → List Hand → ℕ
hands_of p hs = sum_over (λ h. if nat_eq h.number p then 1 else 0) hs

-- A view is the hands that a seat carries. Each pass below seats is in one view, once.
pub record Holds (limits : Limits) (s : State (Unit {0}) (List Hand)) : Type 0 where
  pub machine : Machine
  pub reached : IsState limits.units limits.seats machine
  pub word : s.words ≡ machine.word ∷ []
  pub hands : (id : ℕ) (v : List Hand) → get_elem? s.views id ≡ some v
      → All (IsHand limits machine) v
  pub passes : (p : ℕ) → sum_over (hands_of p) s.views ≡ once_below limits.seats p
  pub carried : sum_over length s.views ≡ limits.seats

-- the hands of `count` passes, from the pass `from` on, that have drawn nothing
abbrev pub hands_from : Limits → ℕ → ℕ → List Hand
hands_from limits from zero = []
hands_from limits from (suc count) = hand limits from [] ∷ hands_from limits (from + 1) count

abbrev pub all_hands : Limits → List Hand
all_hands limits = hands_from limits 0 limits.seats

abbrev pub no_hand : Hand
no_hand = hand (record { units = 0; seats = 0 }) 0 []

abbrev pub first_hand : List Hand → Hand
first_hand [] = no_hand
first_hand (h ∷ hs) = h

abbrev pub front_hand : List Hand → List Hand
front_hand [] = []
front_hand (h ∷ hs) = h ∷ []

abbrev pub other_hands : List Hand → List Hand
other_hands [] = []
other_hands (h ∷ hs) = hs

-- a claim: the number found is above the hand's others, and goes behind them
abbrev pub Drew : Step (Unit {0}) → Me (Unit {0}) (List Hand) → ℕ
    → Me (Unit {0}) (List Hand) → Type 0
Drew st before n after = (after ≡ (
  hand (first_hand before.0).limits (first_hand before.0).number
      ((first_hand before.0).drawn ++ n ∷ []) ∷ [],
  [],
))
    × All (λ d. d < n) (first_hand before.0).drawn
