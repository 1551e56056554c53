-- A source in memory.
use Rattle.std.specs.Prelude.{◌≡◌, ◌↔◌, ℕ, false, min, List, length, drop, Result, IsOk, IfOk}
use Rattle.co_link.specs.Calls.{Calls, is_to_fail, after_call}
use Rattle.co_link.specs.declared.sink.Failed.{Failed}
use Rattle.co_link.specs.declared.memory_source.MemorySource.{MemorySource}

-- what is left to take
abbrev pub source_left : MemorySource → List ℕ
source_left s = drop s.at s.input.items

-- the most bytes of a take
abbrev pub source_piece : MemorySource → ℕ
source_piece s = s.piece

-- its takes
abbrev pub source_calls : MemorySource → Calls
source_calls s = s.calls

-- a take that is to fail takes nothing; any other takes what is left, up to the piece and to the
-- room in into
pub record TakesPiece (old new : MemorySource) (room : ℕ) (result : Result ℕ Failed) : Type 0 where
  pub piece : source_piece new ≡ source_piece old
  pub calls : source_calls new ≡ after_call (source_calls old)
  pub ok : IsOk result ↔ (is_to_fail (source_calls old) ≡ false)
  pub count : IfOk result (λ count. count ≡ min (length (source_left old))
      (min room (source_piece old)))
