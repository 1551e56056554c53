-- Ciphertexts added to others, one place after another.
use Rattle.std.proofs.Common.{◌≡◌, ℕ, ◌<◌, ◌≤◌, sym, ap, ◌∙◌, List, ◌++◌, length, take, drop}
use Rattle.std.proofs.Math.Seq.{take-append_seam}
use Rattle.co_bfv.specs.Ciphertexts.{Ciphertext, ciphertext_sum}
use Rattle.co_bfv.specs.Totals.{ciphertext_at}

-- the first sums have theirs, the others are as they were
pub record AreReached (done : ℕ) (before others now : List Ciphertext) : Type 0 where
  pub count : length now ≡ length before
  pub first : (a : ℕ) → a < done → a < length before → ciphertext_at now a ≡ ciphertext_sum (ciphertext_at before a) (ciphertext_at others a)
  pub rest : (a : ℕ) → done ≤ a → a < length before → ciphertext_at now a ≡ ciphertext_at before a

-- a vector whose slice was written
pub whole_kept : {X : Type 0} (m : ℕ) (xs ys : List X) → m ≡ length xs → length ys ≡ length xs → take m (ys ++ drop (length ys) xs) ≡ ys
whole_kept m xs ys e f = ap (λ k. take k (ys ++ drop (length ys) xs)) (e ∙ sym f) ∙ take-append_seam ys (drop (length ys) xs)
